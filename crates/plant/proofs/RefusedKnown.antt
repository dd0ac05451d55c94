-- The words up to a name that is refused are words.
use Rattle.std.proofs.Common.{refl, append_assoc, arith, ◌+◌, ◌<◌, ◌^◌, ◌≡◌, ℕ, List, [], ◌∷◌, ◌++◌, Some, map, take, drop, length, sym, ap, subst, ◌∙◌}
use Rattle.std.proofs.lemmas.List.{take-append-drop, length-append, length-map, map-append}
use Rattle.std.proofs.Math.Seq.{take-append_seam}
use Rattle.lists.proofs.Members.{all_first}
use Rattle.plant_grammar.specs.declared.grammar_fault.GrammarFaultKind.{GrammarFaultKind}
use Rattle.plant_text.specs.declared.token.Token.{Token}
use Rattle.plant_grammar.specs.declared.grammar.tree.Program.{Program}
use Rattle.plant_grammar.specs.Grammar.{words_of}
use Rattle.plant_grammar.specs.JudgedWords.{Judged, sounds}
use Rattle.plant_grammar.specs.NameFaults.{IsLastRefused}
use Rattle.plant_grammar.specs.Steps.Declaring.{IsLineBefore, BeginWith, RefusesFirst}
use Rattle.plant_grammar.specs.Steps.Lines.{HasLinesOf, all_left}
use Rattle.plant_grammar.specs.Steps.Reading.{AreAllPrograms}
use Rattle.plant_grammar.proofs.ForgottenFaults.{forget, forget_both, forget_sounds, forgotten}
use Rattle.plant_text.specs.Lines.{WordValue, BeginsWithWords, IsBegunBy}
use Rattle.plant.proofs.KnownWords.{IsKnown, AreKnown, words_known}
use Rattle.plant.proofs.BodyCounts.{map_take, same_fronts}

-- none of the words up to the first refused is unknown
refused_known : (k : GrammarFaultKind) (words : List Token) → IsLastRefused k words → AreKnown words
refused_known k words r =
    let left = forget r.more in
    let faulty : Judged = record { word = r.word; fault = Some k } in
    let parts : words_of r.tree ≡ words ++ left =
    sym (forgotten r.tree) ∙ ap forget r.judged ∙ forget_both (sounds r.before) (faulty ∷ r.more)
    ∙ ap (λ (a : List Token). a ++ r.word ∷ left) (forget_sounds r.before) ∙ sym (append_assoc r.before (r.word ∷ []) left) ∙ ap (λ (ws : List Token). ws ++ left) (sym r.parts) in
    all_first IsKnown words left (subst AreKnown parts (words_known r.tree))

-- a text that begins with its words, as far as they are words, begins with a front of them
pub begun_by_front : (text : List ℕ) (ws : List WordValue) (words known rest : List Token) → IsBegunBy text ws → map (λ (w : WordValue). w.token) ws ≡ words → words ≡ known ++ rest → AreKnown known
    → (front : List WordValue) × BeginsWithWords text front × (map (λ (w : WordValue). w.token) front ≡ known) × (back : List WordValue) × (ws ≡ front ++ back) × (length back ≡ length rest)
begun_by_front text ws words known rest begun is parted are =
    let front = take (length known) ws in
    let back = drop (length known) ws in
    let parts : ws ≡ front ++ back = sym (take-append-drop (length known) ws) in
    let tokens : map (λ (w : WordValue). w.token) front ≡ known = map_take (λ (w : WordValue). w.token) ws (length known) ∙ ap (λ x. take (length known) x) (is ∙ parted) ∙ take-append_seam known rest in
    let all : length ws ≡ length known + length rest = sym (length-map ws (λ (w : WordValue). w.token)) ∙ ap length (is ∙ parted) ∙ length-append known rest in
    let both : length ws ≡ length front + length back = ap length parts ∙ length-append front back in
    let few : length front ≡ length known = sym (length-map front (λ (w : WordValue). w.token)) ∙ ap length tokens in
    let left : length back ≡ length rest = omega (arith, all, both, few) in
    (front, begun front back parts (subst AreKnown (sym tokens) are), tokens, back, parts, left)

-- where the line of a word stands, there stands the word
word_of_line : (ws : List WordValue) (before : List ℕ) (line : ℕ) (behind : List ℕ) → map (λ (w : WordValue). w.line) ws ≡ before ++ line ∷ behind
    → (front : List WordValue) × (word : WordValue) × (back : List WordValue) × (ws ≡ front ++ word ∷ back) × (line ≡ word.line) × (length back ≡ length behind)
word_of_line [] [] line behind e = absurd cc
word_of_line [] (l ∷ before) line behind e = absurd cc
word_of_line (w ∷ ws) [] line behind e =
    let first : line ≡ w.line = cc in
    let more : map (λ (w : WordValue). w.line) ws ≡ behind = cc in
    ([], w, ws, refl, first, sym (length-map ws (λ (w : WordValue). w.line)) ∙ ap length more)
word_of_line (w ∷ ws) (l ∷ before) line behind e =
    let more : map (λ (w : WordValue). w.line) ws ≡ before ++ line ∷ behind = cc in
    let found = word_of_line ws before line behind more in
    (w ∷ found.0, found.1, found.2, ap (λ us. w ∷ us) found.3, found.4, found.5)

-- The words are cut behind one, which stands on this line, and of those up to it this holds.
pub record CutAtLine (P : List Token → Type 0) (ws : List WordValue) (line : ℕ) : Type 0 where
  pub before : List WordValue
  pub word : WordValue
  pub back : List WordValue
  pub parts : ws ≡ (before ++ word ∷ []) ++ back
  pub holds : P (map (λ (w : WordValue). w.token) (before ++ word ∷ []))
  pub line_is : line ≡ word.line

-- words that begin so, up to the one on a line, are cut there
pub cut_at_line : (P : List Token → Type 0) (ws : List WordValue) (line : ℕ) (words : List Token) → map (λ (w : WordValue). w.token) ws ≡ words
    → BeginWith (IsLineBefore (map (λ (w : WordValue). w.line) ws) line) P words → CutAtLine P ws line
cut_at_line P ws line words is b =
    let token_of : WordValue → Token = λ (w : WordValue). w.token in
    let found = word_of_line ws b.behind.before line b.behind.behind b.behind.parts in
    let front : List WordValue = found.0 ++ found.1 ∷ [] in
    let parts : ws ≡ front ++ found.2 = found.3 ∙ sym (append_assoc found.0 (found.1 ∷ []) found.2) in
    let both : map token_of front ++ map token_of found.2 ≡ b.front ++ b.rest = sym (map-append token_of front found.2) ∙ ap (map token_of) (sym parts) ∙ is ∙ b.parts in
    let one = length-append (map token_of front) (map token_of found.2) in
    let two = length-append b.front b.rest in
    let back : length (map token_of found.2) ≡ length b.rest = length-map found.2 token_of ∙ found.5 ∙ b.behind.each in
    let whole : length (map token_of front ++ map token_of found.2) ≡ length (b.front ++ b.rest) = ap length both in
    let many : length (map token_of front) ≡ length b.front = omega (arith, one, two, back, whole) in
    let tokens : map token_of front ≡ b.front = same_fronts (map token_of front) (map token_of found.2) b.front b.rest both many in
    record {
      before = found.0;
      word = found.1;
      back = found.2;
      parts = parts;
      holds = subst P (sym tokens) b.holds;
      line_is = found.4;
    }

-- The text begins with words up to the first refused, which stands on this line; the programs that begin them are the first
-- of these.
pub record BeginsUpTo (text : List ℕ) (programs : List Program) (k : GrammarFaultKind) (line : ℕ) : Type 0 where
  pub before : List WordValue
  pub word : WordValue
  pub begun : BeginsWithWords text (before ++ word ∷ [])
  pub refused : IsLastRefused k (map (λ (w : WordValue). w.token) (before ++ word ∷ []))
  pub alone : AreAllPrograms (map (λ (w : WordValue). w.token) (before ++ word ∷ [])) programs
  pub line_is : line ≡ word.line

-- so it does with those up to a word refused
pub begun_by_refused : (text : List ℕ) (programs : List Program) (ws : List WordValue) (k : GrammarFaultKind) (line : ℕ) (words : List Token) → IsBegunBy text ws → map (λ (w : WordValue). w.token) ws ≡ words → length ws < 2 ^ 63
    → BeginWith (IsLineBefore (map (λ (w : WordValue). w.line) ws) line) (RefusesFirst programs k) words → BeginsUpTo text programs k line
begun_by_refused text programs ws k line words begun is few b =
    let cut = cut_at_line (RefusesFirst programs k) ws line words is b in
    let front : List WordValue = cut.before ++ cut.word ∷ [] in
    let long = ap length cut.parts in
    let refused = cut.holds (omega (arith, few, long, length-append front cut.back, length-map front (λ (w : WordValue). w.token))) in
    record {
      before = cut.before;
      word = cut.word;
      begun = begun front cut.back cut.parts (refused_known k (map (λ (w : WordValue). w.token) front) refused.0);
      refused = refused.0;
      alone = refused.1;
      line_is = cut.line_is;
    }

-- all words that are left have their lines
pub own_lines : (ws : List WordValue) (last : ℕ) → HasLinesOf (map (λ (w : WordValue). w.line) ws) (all_left ws last)
own_lines ws last = record { front = []; parts = refl; each = length-map ws (λ (w : WordValue). w.line) ∙ sym (length-map ws (λ (w : WordValue). w.token)) }
