use Rattle.std.proofs.Common.{◌≡◌, map}
use Rattle.words.specs.Lines.{without_last}
use Rattle.guidance.proofs.excerpt.ended_lines.Given as goal

abbrev pub invariant-loop-part : goal.invariant-loop-part
invariant-loop-part l = map (λ line. line.now) l.found.items ≡ map (without_last 13) (map (λ part. part.now) l.yielded)
