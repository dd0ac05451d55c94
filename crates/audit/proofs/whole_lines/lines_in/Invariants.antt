use Rattle.std.proofs.Common.{◌≡◌, map}
use Rattle.audit.proofs.whole_lines.lines_in.Given as goal

abbrev pub invariant-loop-line : goal.invariant-loop-line
invariant-loop-line l = map (λ x. x.now) l.lines.items ≡ map (λ x. x.now) l.yielded
