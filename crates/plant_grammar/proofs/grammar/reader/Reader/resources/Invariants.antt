use Rattle.std.proofs.Common.{◌≡◌, ◌++◌, ℕ, List, length}
use Rattle.std.specs.List.{flat_map}
use Rattle.plant_grammar.specs.Lawful.{uses_of, AreResourcesLawful}
use Rattle.plant_grammar.specs.Grammar.{resource_words}
use Rattle.plant_grammar.specs.Steps.ReadParts.{types_alone, tally_with}
use Rattle.plant_grammar.specs.Steps.Lines.{HasLinesOf, KeepsLines}
use Rattle.plant_grammar.specs.SourceLines.{IsResourceOn, EachBefore}
use Rattle.plant_grammar.proofs.grammar.reader.Reader.resources.Given as goal

abbrev pub invariant-resources : goal.invariant-resources
invariant-resources l = record {
  left : KeepsLines l.fn.self l.self;
  words : l.fn.self.words ≡ flat_map resource_words l.resources.items ++ l.self.words;
  lined : (all : List ℕ) → HasLinesOf all l.fn.self → EachBefore resource_words (IsResourceOn all) l.resources.items l.self.words;
  lawful : AreResourcesLawful (types_alone l.fn.types) l.resources.items;
  tally : l.tally ≡ tally_with l.fn.tally (flat_map uses_of l.resources.items);
}

abbrev pub decreases-resources : goal.decreases-resources
decreases-resources l = length l.self.words
