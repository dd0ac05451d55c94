use Rattle.std.proofs.Common.{◌≡◌, ◌++◌, ℕ, List, length}
use Rattle.std.specs.List.{flat_map}
use Rattle.plant_grammar.specs.Lawful.{use_of, AreItemsLawful}
use Rattle.plant_grammar.specs.Grammar.{item_words}
use Rattle.plant_grammar.specs.Steps.ReadParts.{types_alone, tally_with}
use Rattle.plant_grammar.specs.Steps.Lines.{HasLinesOf, KeepsLines}
use Rattle.plant_grammar.specs.SourceLines.{IsItemOn, EachBefore}
use Rattle.plant_grammar.proofs.grammar.reader.Reader.items.Given as goal

abbrev pub invariant-items : goal.invariant-items
invariant-items l = record {
  left : KeepsLines l.fn.self l.self;
  words : l.fn.self.words ≡ flat_map item_words l.items.items ++ l.self.words;
  lined : (all : List ℕ) → HasLinesOf all l.fn.self → EachBefore item_words (IsItemOn all) l.items.items l.self.words;
  lawful : AreItemsLawful (types_alone l.fn.types) l.items.items;
  tally : l.tally ≡ tally_with l.fn.tally (flat_map use_of l.items.items);
}

abbrev pub decreases-items : goal.decreases-items
decreases-items l = length l.self.words
