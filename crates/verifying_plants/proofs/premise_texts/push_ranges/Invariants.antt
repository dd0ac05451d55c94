use Rattle.std.proofs.Common.{◌≡◌, ◌++◌, map, string_bytes, take}
use Rattle.verifying_plants.specs.VerdictTexts.{range_text}
use Rattle.verifying_plants.proofs.premise_texts.push_ranges.Given as goal

abbrev pub invariant-loop-range : goal.invariant-loop-range
invariant-loop-range l = map (λ p. string_bytes p) l.made.items
    ≡ map (λ p. string_bytes p) l.initial.made.items ++ map range_text (take l.range-index l.ranges)
