use Rattle.std.proofs.Common.{◌≡◌, take}
use Rattle.std.specs.List.{flat_map}
use Rattle.plant_grammar.specs.Retained.{block_sections}
use Rattle.plant_grammar.proofs.grammar.retained_places.sections.Given as goal

abbrev pub invariant-loop-block : goal.invariant-loop-block
invariant-loop-block l = l.sections.items ≡ flat_map block_sections (take l.block-index l.program.blocks.items)
