use Rattle.std.proofs.Common.{◌≡◌, ◌==◌, map, length, not}
use Rattle.std.specs.List.{filter}
use Rattle.ladder_rows.proofs.boxes.outlines.blank_words.Given as goal

abbrev pub invariant-loop-word : goal.invariant-loop-word
invariant-loop-word l = map (λ x. x.now) l.words.items ≡ filter (λ w. not (length w == 0)) (map (λ x. x.now) l.yielded)
