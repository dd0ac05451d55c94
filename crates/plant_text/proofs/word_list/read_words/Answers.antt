use Rattle.std.proofs.Common.{map, [], ◌∷◌, ap, sym, subst, ◌∙◌}
use Rattle.std.proofs.lemmas.List.{map-append}
use Rattle.words.specs.Lines.{without_last}
use Rattle.plant_text.specs.Lines.{WordValue, last_line}
use Rattle.plant_text.specs.Steps.Lexing.{LexerValue}
use Rattle.plant_text.proofs.SpelledWords.{IsReadTo, read_first, read_next, read_all}
use Rattle.plant_text.proofs.LineCounts.{counted_first, counted_next, begun_first, begun_next}
use Rattle.plant_text.proofs.ReadWords.{up_to_first, up_to_next, up_to_end}
use Rattle.plant_text.proofs.UnknownWords.{placed_first, placed_next, open_first, open_next, known_before_next, stopped_first, stopped_next, known_first, known_next}
use Rattle.plant_text.proofs.BodyTexts.{texts_of}
use Rattle.plant_text.proofs.WordPlaces.{in_places_first, in_places_next}
use Rattle.plant_text.proofs.word_list.read_words.Goals as goal

pub words-init : goal.words-init
words-init c =
    let text = without_last 13 c.args.text.now in
    let none = c.new-words.ensures.items in
    record {
      spelled = rw none (subst (λ (l : LexerValue). IsReadTo text [] l.text) (sym c.new-lexer.ensures) (read_first text));
      counted = rw none (counted_first text _ c.new-lexer.result c.new-lexer.ensures);
      every = rw none (up_to_first text _ c.new-lexer.result c.new-lexer.ensures);
      begun = rw none (begun_first text);
      placed = rw none (placed_first text _ c.new-lexer.result c.new-lexer.ensures);
      open_at = rw none (open_first c.new-lexer.result);
      stopped = rw none (stopped_first (last_line c.args.text.now) text);
      ends = ap (λ (l : LexerValue). l.last) c.new-lexer.ensures;
      known = rw none known_first;
      in_places = rw none in_places_first;
    }

pub words-preserved : goal.words-preserved
words-preserved c =
    let text = without_last 13 c.args.text.now in
    let token_of : WordValue → _ = λ w. w.token in
    let word = c.in-Some.word in
    let known = known_before_next c.words.words.items c.words.lexer word c.words.invariant.open_at (rw c.in-Some.is at c.in_ok-word.ensures.ended) in
    let counted = counted_next text c.words.words.items c.push.new.self.items word c.words.lexer c.next.new.self c.in_ok-push.ensures.items c.words.invariant.counted (rw c.in-Some.is at c.in_ok-word.ensures.first) in
    record {
      spelled = read_next text (map token_of c.words.words.items) (map token_of c.push.new.self.items) word.token c.words.lexer.text c.next.new.self.text
          (ap (map token_of) c.in_ok-push.ensures.items ∙ map-append token_of c.words.words.items (word ∷ [])) c.words.invariant.spelled (rw c.in-Some.is at c.in_ok-word.ensures.word);
      counted = counted;
      every = up_to_next text (map token_of c.words.words.items) (map token_of c.push.new.self.items) word c.words.lexer c.next.new.self
          (ap (map token_of) c.in_ok-push.ensures.items ∙ map-append token_of c.words.words.items (word ∷ [])) c.words.invariant.every (rw c.in-Some.is at c.in_ok-word.ensures.every) (rw c.in-Some.is at c.in_ok-word.ensures.none);
      begun = begun_next text c.words.words.items c.push.new.self.items word c.next.new.self c.in_ok-push.ensures.items c.words.invariant.begun counted;
      placed = placed_next c.words.words.items c.push.new.self.items word c.words.lexer c.next.new.self c.in_ok-push.ensures.items c.words.invariant.placed (rw c.in-Some.is at c.in_ok-word.ensures.moves_on);
      open_at = open_next c.words.words.items c.push.new.self.items word c.next.new.self c.in_ok-push.ensures.items known (rw c.in-Some.is at c.in_ok-word.ensures.last);
      stopped = stopped_next (last_line c.args.text.now) text c.words.words.items c.push.new.self.items word c.words.lexer c.in_ok-push.ensures.items known c.words.invariant.counted c.words.invariant.placed c.words.invariant.ends (rw c.in-Some.is at c.in_ok-word.ensures.stops);
      ends = c.in_ok-word.ensures.ends ∙ c.words.invariant.ends;
      known = known_next c.words.words.items c.push.new.self.items word c.in_ok-push.ensures.items known;
      in_places = in_places_next c.words.words.items c.push.new.self.items word c.words.lexer c.in_ok-push.ensures.items known c.words.invariant.placed (rw c.in-Some.is at c.in_ok-word.ensures.placed) c.words.invariant.in_places;
    }

pub returns-clause-spelled : goal.returns-clause-spelled
returns-clause-spelled c = read_all (without_last 13 c.args.text.now) (map (λ (w : WordValue). w.token) c.words.words.items) c.words.lexer.text c.words.invariant.spelled (rw c.in_default.is at c.in_ok-word.ensures.word)

pub returns-clause-every : goal.returns-clause-every
returns-clause-every c = λ ts a s.
    up_to_end (without_last 13 c.args.text.now) (map (λ (w : WordValue). w.token) c.words.words.items) c.words.lexer c.next.new.self c.words.invariant.every (rw c.in_default.is at c.in_ok-word.ensures.every) ts a s (texts_of c.args.text.now ts c.utf8.text s a)
