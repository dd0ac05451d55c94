use Rattle.std.proofs.Common.{◌≡◌, ◌++◌, length}
use Rattle.std.specs.Prelude.{All}
use Rattle.std.specs.List.{flat_map}
use Rattle.plant_grammar.specs.Lawful.{block_variables, IsBlockLawful}
use Rattle.plant_grammar.specs.Grammar.{block_words}
use Rattle.plant_grammar.specs.Steps.Lines.{KeepsLines}
use Rattle.plant_grammar.proofs.grammar.reader.Reader.blocks.Given as goal

abbrev pub invariant-sections : goal.invariant-sections
invariant-sections l = record {
  left : KeepsLines l.fn.self l.self;
  words : l.fn.self.words ≡ flat_map block_words l.blocks.items ++ l.self.words;
  bodies : l.self.bodies ≡ l.fn.self.bodies;
  declared : l.variables ≡ l.fn.variables ++ flat_map block_variables l.blocks.items;
  lawful : All IsBlockLawful l.blocks.items;
}

abbrev pub decreases-sections : goal.decreases-sections
decreases-sections l = length l.self.words
