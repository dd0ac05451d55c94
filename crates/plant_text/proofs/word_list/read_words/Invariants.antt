use Rattle.std.proofs.Common.{◌≡◌, length, map}
use Rattle.plant_text.specs.Lines.{WordValue, last_line, IsBegunBy, IsStoppedBy, AreWordsButLast, AreInTheirPlaces}
use Rattle.words.specs.Lines.{without_last}
use Rattle.plant_text.proofs.SpelledWords.{IsReadTo}
use Rattle.plant_text.proofs.LineCounts.{IsCountedTo}
use Rattle.plant_text.proofs.ReadWords.{IsReadUpTo}
use Rattle.plant_text.proofs.UnknownWords.{IsPlacedTo, IsOpenAt}
use Rattle.plant_text.proofs.word_list.read_words.Given as goal

abbrev pub invariant-words : goal.invariant-words
invariant-words l = record {
  spelled : IsReadTo (without_last 13 l.text) (map (λ (w : WordValue). w.token) l.words.items) l.lexer.text;
  counted : IsCountedTo (without_last 13 l.text) l.words.items l.lexer;
  every : IsReadUpTo (without_last 13 l.text) (map (λ (w : WordValue). w.token) l.words.items) l.lexer;
  begun : IsBegunBy (without_last 13 l.text) l.words.items;
  placed : IsPlacedTo l.words.items l.lexer;
  open_at : IsOpenAt l.words.items l.lexer;
  ends : l.lexer.last ≡ last_line l.text;
  stopped : IsStoppedBy (last_line l.text) (without_last 13 l.text) l.words.items;
  known : AreWordsButLast l.words.items;
  in_places : AreInTheirPlaces l.words.items;
}

abbrev pub decreases-words : goal.decreases-words
decreases-words l = length l.lexer.text
