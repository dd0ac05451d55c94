use Rattle.std.proofs.Common.{◌≡◌, ◌++◌, map, string_bytes, take}
use Rattle.verifying.specs.Premises.{constant_premise}
use Rattle.verifying.proofs.premises.push_constants.Given as goal

abbrev pub invariant-loop-place : goal.invariant-loop-place
invariant-loop-place l = map (λ p. string_bytes p) l.made.items
    ≡ map (λ p. string_bytes p) l.initial.made.items ++ map (constant_premise l.declarations) (take l.place-index l.constants)
