use Rattle.std.proofs.Common.{◌≡◌, ◌++◌, ◌+◌, ◌<◌, ℕ, List, length, map}
use Rattle.plant_grammar.specs.Grammar.{with_commas}
use Rattle.std.specs.Prelude.{All}
use Rattle.plant_grammar.specs.Names.{AreNamesApart}
use Rattle.plant_grammar.specs.Kinds.{IsOfInputKind}
use Rattle.plant_grammar.specs.Lawful.{variables}
use Rattle.plant_grammar.specs.Steps.Lines.{HasLinesOf, KeepsLines}
use Rattle.plant_grammar.specs.SourceLines.{AreBindsOn}
use Rattle.plant_grammar.proofs.grammar.reader.Reader.binds.Given as goal

abbrev pub invariant-binds : goal.invariant-binds
invariant-binds l = record {
  left : KeepsLines l.fn.self l.self;
  some : 0 < length l.binds.items;
  words : l.fn.self.words ≡ with_commas l.binds.items ++ l.self.words;
  apart : AreNamesApart (map (λ b. b.input) l.binds.items);
  lined : (all : List ℕ) → HasLinesOf all l.fn.self → AreBindsOn all l.binds.items l.lines.items l.self.words;
  kinds : All (IsOfInputKind (variables l.program.program)) l.binds.items;
  tally : l.tally ≡ record { instances = l.fn.tally.instances; binds = l.fn.tally.binds + length l.binds.items };
}

abbrev pub decreases-binds : goal.decreases-binds
decreases-binds l = length l.self.words
