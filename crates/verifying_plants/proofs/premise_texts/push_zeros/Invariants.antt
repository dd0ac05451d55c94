use Rattle.std.proofs.Common.{◌≡◌, ◌++◌, map, string_bytes, take}
use Rattle.verifying_plants.specs.VerdictTexts.{zero_text}
use Rattle.verifying_plants.proofs.premise_texts.push_zeros.Given as goal

abbrev pub invariant-loop-number : goal.invariant-loop-number
invariant-loop-number l = map (λ p. string_bytes p) l.made.items
    ≡ map (λ p. string_bytes p) l.initial.made.items ++ map zero_text (take l.number-index l.zeros)
