use Rattle.std.proofs.Common.{◌≡◌, ◌++◌, length}
use Rattle.std.specs.Prelude.{All}
use Rattle.std.specs.List.{flat_map}
use Rattle.plant_grammar.specs.Lawful.{list_variables, IsListLawful}
use Rattle.plant_grammar.specs.Grammar.{list_words}
use Rattle.plant_grammar.specs.Steps.Lines.{KeepsLines}
use Rattle.plant_grammar.proofs.grammar.reader.Reader.lists.Given as goal

abbrev pub invariant-lists : goal.invariant-lists
invariant-lists l = record {
  left : KeepsLines l.fn.self l.self;
  words : l.fn.self.words ≡ flat_map list_words l.lists.items ++ l.self.words;
  bodies : l.self.bodies ≡ l.fn.self.bodies;
  declared : l.variables ≡ l.fn.variables ++ flat_map (list_variables l.fn.section) l.lists.items;
  lawful : All (IsListLawful l.fn.section) l.lists.items;
}

abbrev pub decreases-lists : goal.decreases-lists
decreases-lists l = length l.self.words
