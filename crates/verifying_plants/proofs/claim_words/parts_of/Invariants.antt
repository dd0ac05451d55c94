use Rattle.std.proofs.Common.{◌≡◌, map}
use Rattle.verifying_plants.proofs.claim_words.parts_of.Given as goal

abbrev pub invariant-loop-part : goal.invariant-loop-part
invariant-loop-part l = map (λ x. x.now) l.parts.items ≡ map (λ x. x.now) l.yielded
