use Rattle.std.proofs.Common.{◌≡◌, ◌++◌, List, length, All}
use Rattle.std.specs.List.{flat_map}
use Rattle.plant_grammar.specs.declared.grammar.tree.Program.{Program}
use Rattle.plant_grammar.specs.WellFormed.{IsProgramWellFormed}
use Rattle.plant_grammar.specs.Lawful.{AreProgramsDeclared}
use Rattle.plant_grammar.specs.Grammar.{program_words}
use Rattle.plant_grammar.specs.Steps.Reading.{programs_of, lines_of}
use Rattle.plant_grammar.specs.Steps.Lines.{KeepsLines}
use Rattle.plant_grammar.proofs.grammar.reader.Reader.programs.Given as goal

abbrev pub invariant-programs : goal.invariant-programs
invariant-programs l = record {
  left : KeepsLines l.fn.self l.self;
  words : flat_map program_words (programs_of l.fn.texts.items) ++ l.fn.self.words ≡ flat_map program_words (programs_of l.texts.items) ++ l.self.words;
  read : (ps : List Program) × (l.fn.self.words ≡ flat_map program_words ps ++ l.self.words) × All IsProgramWellFormed ps;
  lines : lines_of l.fn.texts.items ++ l.fn.self.bodies ≡ lines_of l.texts.items ++ l.self.bodies;
  declared : AreProgramsDeclared (programs_of l.texts.items);
}

abbrev pub decreases-programs : goal.decreases-programs
decreases-programs l = length l.self.words
