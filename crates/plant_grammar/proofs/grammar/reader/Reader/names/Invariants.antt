use Rattle.std.proofs.Common.{◌≡◌, ◌++◌, ◌<◌, length}
use Rattle.plant_grammar.specs.Grammar.{name_words}
use Rattle.plant_grammar.specs.Steps.Lines.{KeepsLines}
use Rattle.plant_grammar.specs.Lawful.{MayBeDeclared}
use Rattle.plant_grammar.proofs.grammar.reader.Reader.names.Given as goal

abbrev pub invariant-names : goal.invariant-names
invariant-names l = record {
  left : KeepsLines l.fn.self l.self;
  some : 0 < length l.names.items;
  may : MayBeDeclared l.variables l.names.items;
  bodies : l.self.bodies ≡ l.fn.self.bodies;
  words : l.fn.self.words ≡ name_words l.names.items ++ l.self.words;
}

abbrev pub decreases-names : goal.decreases-names
decreases-names l = length l.self.words
