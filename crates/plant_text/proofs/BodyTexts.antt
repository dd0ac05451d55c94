-- The bodies in a text that is UTF-8 are UTF-8, since line feeds stand around them.
use Rattle.std.proofs.Common.{◌≡◌, ◌==◌, ◌<◌, ◌+◌, ◌-◌, ℕ, suc, List, [], ◌∷◌, ◌++◌, length, get_or, take, drop, ◌⊎◌, inl, inr, refl, ap, sym, subst, ◌∙◌, append_assoc, arith}
use Rattle.std.specs.List.{AllByRecursion}
use Rattle.std.specs.Str.{IsUtf8}
use Rattle.std.proofs.lemmas.Bool.{eqb-true, cases_Bool}
use Rattle.std.proofs.lemmas.List.{length-append, drop_at}
use Rattle.std.proofs.Math.Seq.{take-append_seam, get_or-append_seam}
use Rattle.std.proofs.lemmas.Str.{IsUtf8-nil, IsUtf8-take, IsUtf8-drop, IsCharBoundary-before_ascii, IsCharBoundary-after_ascii}
use Rattle.words.specs.Lines.{without_last}
use Rattle.plant_text.specs.declared.token.Token.{Token}
use Rattle.plant_text.specs.declared.token.Token.TheVariants as token
use Rattle.plant_text.specs.declared.lexer.Stage.{Stage}
use Rattle.plant_text.specs.Spelling.{IsLineEnd, IsBody, Spells}
use Rattle.plant_text.specs.Places.{stage_behind}
use Rattle.plant_text.specs.Steps.Lexing.{IsText, AreInPlace}
use Rattle.plant_text.specs.declared.lexer.Stage.TheVariants as stage
use Rattle.plant_text.proofs.FirstWords.{word_of-body}
use Rattle.plant_text.proofs.BodyLines.{lines_text}
use Rattle.plant_text.proofs.WholeWords.{next_of}

-- behind a line feed
behind_feed : (front rest : List ℕ) → IsUtf8 (front ++ 10 ∷ rest) → IsUtf8 rest
behind_feed front rest u =
    let at : get_or (front ++ 10 ∷ rest) (length front) 0 ≡ 10 = get_or-append_seam front 10 rest 0 in
    let inside : length front < length (front ++ 10 ∷ rest) = omega (arith, length-append front (10 ∷ rest)) in
    let cut = IsUtf8-drop (front ++ 10 ∷ rest) (length front + 1) u (IsCharBoundary-after_ascii (front ++ 10 ∷ rest) (length front) u inside (omega (arith, at))) in
    let whole : front ++ 10 ∷ rest ≡ (front ++ 10 ∷ []) ++ rest = sym (append_assoc front (10 ∷ []) rest) in
    let long : length (front ++ 10 ∷ []) ≡ length front + 1 = length-append front (10 ∷ []) in
    let left : drop (length front + 1) (front ++ 10 ∷ rest) ≡ rest = ap (λ x. drop (length front + 1) x) whole ∙ drop_at (front ++ 10 ∷ []) rest (length front + 1) long in
    subst IsUtf8 left cut

-- up to a line feed
up_to_feed : (front rest : List ℕ) → IsUtf8 ((front ++ 10 ∷ []) ++ rest) → IsUtf8 (front ++ 10 ∷ [])
up_to_feed front rest u =
    let all : List ℕ = (front ++ 10 ∷ []) ++ rest in
    let whole : (front ++ 10 ∷ []) ++ rest ≡ front ++ 10 ∷ rest = append_assoc front (10 ∷ []) rest in
    let at : get_or ((front ++ 10 ∷ []) ++ rest) (length front) 0 ≡ 10 = ap (λ x. get_or x (length front) 0) whole ∙ get_or-append_seam front 10 rest 0 in
    let inside : length front < length ((front ++ 10 ∷ []) ++ rest) = omega (arith, ap length whole, length-append front (10 ∷ rest)) in
    let cut = IsUtf8-take ((front ++ 10 ∷ []) ++ rest) (length front + 1) u (IsCharBoundary-after_ascii ((front ++ 10 ∷ []) ++ rest) (length front) u inside (omega (arith, at))) in
    let long : length front + 1 ≡ length (front ++ 10 ∷ []) = sym (length-append front (10 ∷ [])) in
    let left : take (length front + 1) ((front ++ 10 ∷ []) ++ rest) ≡ front ++ 10 ∷ [] = ap (λ n. take n ((front ++ 10 ∷ []) ++ rest)) long ∙ take-append_seam (front ++ 10 ∷ []) rest in
    subst IsUtf8 left cut

-- lines are empty, or a line feed ends them
lines_end : (lines : List (List ℕ)) → (lines_text lines ≡ []) ⊎ ((front : List ℕ) × (lines_text lines ≡ front ++ 10 ∷ []))
lines_end [] = inl refl
lines_end (line ∷ lines) = elim (lines_end lines) [
  | inl e ↦ inr (line, ap (λ x. (line ++ 10 ∷ []) ++ x) e ∙ append_assoc line (10 ∷ []) [])
  | inr p ↦ inr ((line ++ 10 ∷ []) ++ p.0, ap (λ x. (line ++ 10 ∷ []) ++ x) p.1 ∙ sym (append_assoc (line ++ 10 ∷ []) p.0 (10 ∷ [])))
]

body_utf8 : (body rest : List ℕ) → IsBody body → IsUtf8 (body ++ rest) → IsUtf8 body
body_utf8 body rest b u = elim (lines_end b.0) [
  | inl e ↦ subst IsUtf8 (sym (b.1 ∙ e)) IsUtf8-nil
  | inr p ↦ let is : body ≡ p.0 ++ 10 ∷ [] = b.1 ∙ p.1 in subst IsUtf8 (sym is) (up_to_feed p.0 rest (subst (λ (x : List ℕ). IsUtf8 (x ++ rest)) is u))
]

end_feed : (line_end : List ℕ) → IsLineEnd line_end → (front : List ℕ) × (line_end ≡ front ++ 10 ∷ [])
end_feed line_end (inl h) = ([], h)
end_feed line_end (inr h) = (13 ∷ [], h)

-- no other word is a body
is_text : (t : Token) → ((b : List ℕ) → t ≡ token.Body b → ⊥) → IsText t
is_text (token.Keyword k) none = tt
is_text (token.Block k) none = tt
is_text (token.Punctuation k) none = tt
is_text (token.Name k) none = tt
is_text (token.Number k) none = tt
is_text (token.Duration k) none = tt
is_text (token.Address k) none = tt
is_text (token.Body b) none = absurd (none b refl)
is_text token.Unknown none = tt

-- the words of a part of the text
texts_behind : (before text : List ℕ) (s : Stage) (bodies : ℕ) (ts : List Token) → IsUtf8 (before ++ text) → Spells text ts → AreInPlace s bodies ts → AllByRecursion IsText ts
texts_behind before text s n [] u sp a = tt
texts_behind before text s n (t ∷ more) u sp a = elim (next_of text s n t more sp a) [
  | inl w ↦
      let whole : before ++ text ≡ (before ++ (w.gap ++ w.word)) ++ w.rest = ap (λ x. before ++ x) w.parts ∙ sym (append_assoc before (w.gap ++ w.word) w.rest) in
      (is_text t (λ b e. word_of-body w.word b (w.token_is ∙ e)), texts_behind (before ++ (w.gap ++ w.word)) w.rest (stage_behind t s) n more (subst IsUtf8 whole u) w.spelled w.after)
  | inr b ↦
      let e = end_feed b.line_end b.ends in
      let line : before ++ text ≡ (before ++ (b.gap ++ e.0)) ++ 10 ∷ (b.body ++ b.rest) =
      ap (λ x. before ++ x) (b.parts ∙ append_assoc (b.gap ++ b.line_end) b.body b.rest ∙ ap (λ x. (b.gap ++ x) ++ (b.body ++ b.rest)) e.1 ∙ ap (λ x. x ++ (b.body ++ b.rest)) (sym (append_assoc b.gap e.0 (10 ∷ []))) ∙ append_assoc (b.gap ++ e.0) (10 ∷ []) (b.body ++ b.rest))
      ∙ sym (append_assoc before (b.gap ++ e.0) (10 ∷ (b.body ++ b.rest))) in
      let behind : IsUtf8 (b.body ++ b.rest) = behind_feed (before ++ (b.gap ++ e.0)) (b.body ++ b.rest) (subst IsUtf8 line u) in
      let whole : before ++ text ≡ (before ++ (b.gap ++ b.line_end ++ b.body)) ++ b.rest = ap (λ x. before ++ x) b.parts ∙ sym (append_assoc before (b.gap ++ b.line_end ++ b.body) b.rest) in
      (subst IsText (sym b.is) (body_utf8 b.body b.rest b.whole behind), texts_behind (before ++ (b.gap ++ b.line_end ++ b.body)) b.rest stage.Outside (n + 1) more (subst IsUtf8 whole u) b.spelled b.after)
]

-- without a carriage return at its end
without_utf8 : (text : List ℕ) → IsUtf8 text → IsUtf8 (without_last 13 text)
without_utf8 [] u = u
without_utf8 (c ∷ text) u = elim (cases_Bool (get_or (c ∷ text) (length (c ∷ text) - 1) 0 == 13)) [
  | inl h ↦
      let at : get_or (c ∷ text) (suc (length text) - 1) 0 ≡ 13 = eqb-true (get_or (c ∷ text) (suc (length text) - 1) 0) 13 h in
      rw h (IsUtf8-take (c ∷ text) (suc (length text) - 1) u (IsCharBoundary-before_ascii (c ∷ text) (suc (length text) - 1) (omega arith) (omega (arith, at))))
  | inr h ↦ rw h u
]

-- all words of a text
pub texts_of : (text : List ℕ) (ts : List Token) → IsUtf8 text → Spells (without_last 13 text) ts → AreInPlace stage.Outside 0 ts → AllByRecursion IsText ts
texts_of text ts u sp a = texts_behind [] (without_last 13 text) stage.Outside 0 ts (without_utf8 text u) sp a
