use Rattle.std.proofs.Common.{◌≡◌, ◌++◌, map, string_bytes, take}
use Rattle.verifying.specs.VerdictLines.{name_at}
use Rattle.verifying.proofs.premises.push_given.Given as goal

abbrev pub invariant-loop-place : goal.invariant-loop-place
invariant-loop-place l = map (λ p. string_bytes p) l.made.items
    ≡ map (λ p. string_bytes p) l.initial.made.items ++ map (name_at l.declarations) (take l.place-index l.given)
