use Rattle.std.proofs.Common.{◌≡◌, ◌++◌, map, string_bytes, take}
use Rattle.verifying_plants.specs.Names.{output_text}
use Rattle.verifying_plants.proofs.premise_texts.push_given.Given as goal

abbrev pub invariant-loop-output : goal.invariant-loop-output
invariant-loop-output l = map (λ p. string_bytes p) l.made.items
    ≡ map (λ p. string_bytes p) l.initial.made.items ++ map (output_text l.plant) (take l.output-index l.given)
