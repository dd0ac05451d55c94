-- Words that a text spells, each in its place, are the only such words.
use Rattle.std.proofs.Common.{◌≡◌, ◌≢◌, ◌<◌, ◌+◌, ℕ, zero, suc, true, false, Bool, List, [], ◌∷◌, ◌++◌, length, take, drop, Option, Some, None, ◌⊎◌, inl, inr, refl, ap, sym, subst, ◌∙◌, append_assoc, arith}
use Rattle.std.proofs.lemmas.List.{append-nil, append_cancel_right}
use Rattle.plant_text.specs.declared.token.Token.{Token}
use Rattle.plant_text.specs.declared.token.Token.TheVariants as token
use Rattle.plant_text.specs.declared.token.Keyword.TheVariants as key
use Rattle.plant_text.specs.declared.lexer.Stage.{Stage}
use Rattle.plant_text.specs.declared.lexer.Stage.TheVariants as stage
use Rattle.plant_text.specs.Words.{word_of, front_len}
use Rattle.plant_text.specs.Spelling.{Spells}
use Rattle.plant_text.specs.Steps.Gaps.{behind_space, IsBehindGap}
use Rattle.plant_text.specs.Places.{stage_behind, is_due}
use Rattle.plant_text.specs.Steps.Lexing.{may_follow, is_section, AreInPlace, AreWordsInPlace}
use Rattle.plant_text.proofs.FoundGaps.{shorter_behind_space, IsBehindGap-more, IsBehindGap-here}
use Rattle.plant_text.proofs.BodyUnique.{one_rest, one_body}
use Rattle.plant_text.proofs.WholeWords.{IsWordNext, IsBodyNext, next_of, spelled_follows, whole_cut, whole_behind, no_whole_here}

-- a gap in front of a text ends somewhere
gap_ends : (n : ℕ) (text : List ℕ) → length text < n → (left : List ℕ) × IsBehindGap text left
gap_ends zero text lt = absurd (omega arith)
gap_ends (suc n) text lt = by (behind_space text) refl (λ more less. gap_ends n more (omega arith))
  where
    by : (o : Option (List ℕ)) → behind_space text ≡ o → ((more : List ℕ) → length more < length text → (left : List ℕ) × IsBehindGap more left) → (left : List ℕ) × IsBehindGap text left
    by None e further = (text, IsBehindGap-here text e)
    by (Some more) e further =
        let rest = further more (shorter_behind_space text more e) in
        (rest.0, IsBehindGap-more text more rest.0 e rest.1)

-- a word that isn't read as a body
known_next : (text : List ℕ) (s : Stage) (n : ℕ) (t : Token) (more : List Token) → (w : IsWordNext text s n t more) → word_of w.word ≢ token.Unknown
known_next text s n t more w = λ e. w.stands.0 (sym w.token_is ∙ e)

follows_next : (text : List ℕ) (s : Stage) (n : ℕ) (t : Token) (more : List Token) → (w : IsWordNext text s n t more) → may_follow w.rest ≡ true
follows_next text s n t more w = spelled_follows w.rest (stage_behind t s) n more w.spelled w.after

left_next : (text left : List ℕ) (s : Stage) (n : ℕ) (t : Token) (more : List Token) → (w : IsWordNext text s n t more) → IsBehindGap text left → left ≡ w.word ++ w.rest
left_next text left s n t more w b = whole_behind text left w.gap w.word w.rest b w.parts w.is_gap (known_next text s n t more w) (follows_next text s n t more w)

-- the word in front
cut_next : (text left : List ℕ) (s : Stage) (n : ℕ) (t : Token) (more : List Token) → (w : IsWordNext text s n t more) → IsBehindGap text left → (take (front_len left) left ≡ w.word) × (drop (front_len left) left ≡ w.rest)
cut_next text left s n t more w b =
    whole_cut left w.word w.rest (front_len left) refl (left_next text left s n t more w b, known_next text s n t more w, w.parted, follows_next text s n t more w)

not_both : (b : Bool) → b ≡ true → b ≡ false → ⊥
not_both b one other = cc

section_is : (t : Token) → is_section t ≡ true → (t ≢ token.Keyword key.Var) × (t ≢ token.Keyword key.VarInput) × (t ≢ token.Keyword key.VarOutput) → ⊥
section_is (token.Keyword key.Var) h none = none.0 refl
section_is (token.Keyword key.VarInput) h none = none.1 refl
section_is (token.Keyword key.VarOutput) h none = none.2 refl
section_is _ h none = absurd cc

-- where a body is due, no word stands in its place
no_word_and_body : (text : List ℕ) (s : Stage) (n : ℕ) (t u : Token) (ts us : List Token) → IsWordNext text s n t ts → IsBodyNext text s n u us → ⊥
no_word_and_body text s n t u ts us w b =
    let none = b.none w.gap w.word w.rest w.parts w.is_gap w.parted in
    section_is t (w.stands.1 b.due).0 ((λ e. none.0 (w.token_is ∙ e)), (λ e. none.1 (w.token_is ∙ e)), (λ e. none.2 (w.token_is ∙ e)))

-- where no word is left, none is next
none_next : (text : List ℕ) (s : Stage) (n : ℕ) (t : Token) (more : List Token) → Spells text [] → AreInPlace s n [] → Spells text (t ∷ more) → AreInPlace s n (t ∷ more) → ⊥
none_next text s n t more gap end spelled placed = elim (next_of text s n t more spelled placed) [
  | inl w ↦
      let whole : IsBehindGap text [] = (text, sym (append-nil text), gap, refl) in
      no_whole_here w.rest w.word [] (sym (left_next text [] s n t more w whole)) refl (known_next text s n t more w)
  | inr b ↦ not_both (is_due s) b.due end
]

-- one body
body_next : (text : List ℕ) (s : Stage) (n : ℕ) (t u : Token) (ts us : List Token) → (b : IsBodyNext text s n t ts) → (c : IsBodyNext text s n u us) → (b.body ≡ c.body) × (b.rest ≡ c.rest)
body_next text s n t u ts us b c =
    let line_b = b.parts ∙ append_assoc (b.gap ++ b.line_end) b.body b.rest in
    let line_c = c.parts ∙ append_assoc (c.gap ++ c.line_end) c.body c.rest in
    let lines : b.body ++ b.rest ≡ c.body ++ c.rest =
    one_rest text (b.body ++ b.rest) (c.body ++ c.rest) (b.gap, b.line_end, line_b, b.is_gap, b.one, b.ends) (c.gap, c.line_end, line_c, c.is_gap, c.one, c.ends) in
    let rest : b.rest ≡ c.rest = one_body (b.body ++ b.rest) b.rest c.rest (b.body, refl, b.whole) b.end (c.body, lines, c.whole) c.end in
    (append_cancel_right b.body c.body c.rest (ap (λ x. b.body ++ x) (sym rest) ∙ lines), rest)

-- further words are the only such words, whatever text is left
abbrev AreOnce : List Token → List Token → Type 0
AreOnce ts us = (rest : List ℕ) (z : Stage) (m : ℕ) → Spells rest ts → AreInPlace z m ts → Spells rest us → AreInPlace z m us → ts ≡ us

one_words : (text : List ℕ) (s : Stage) (n : ℕ) (ts us : List Token) → Spells text ts → AreInPlace s n ts → Spells text us → AreInPlace s n us → ts ≡ us
one_words text s n [] [] spelled placed spelled' placed' = refl
one_words text s n [] (u ∷ us) spelled placed spelled' placed' = absurd (none_next text s n u us spelled placed spelled' placed')
one_words text s n (t ∷ ts) [] spelled placed spelled' placed' = absurd (none_next text s n t ts spelled' placed' spelled placed)
one_words text s n (t ∷ ts) (u ∷ us) spelled placed spelled' placed' =
    by (next_of text s n t ts spelled placed) (next_of text s n u us spelled' placed') (λ rest z m sp pl sp' pl'. one_words rest z m ts us sp pl sp' pl')
  where
    words_same : IsWordNext text s n t ts → IsWordNext text s n u us → AreOnce ts us → t ∷ ts ≡ u ∷ us
    words_same w v once =
        let left = gap_ends (suc (length text)) text (omega arith) in
        let a = cut_next text left.0 s n t ts w left.1 in
        let b = cut_next text left.0 s n u us v left.1 in
        let word : t ≡ u = sym w.token_is ∙ ap (λ x. word_of x) (sym a.0 ∙ b.0) ∙ v.token_is in
        let rest : w.rest ≡ v.rest = sym a.1 ∙ b.1 in
        let more : ts ≡ us = once w.rest (stage_behind t s) n w.spelled w.after (subst (λ (x : List ℕ). Spells x us) (sym rest) v.spelled) (subst (λ (x : Token). AreInPlace (stage_behind x s) n us) (sym word) v.after) in
        rw (word, more) refl

    bodies_same : IsBodyNext text s n t ts → IsBodyNext text s n u us → AreOnce ts us → t ∷ ts ≡ u ∷ us
    bodies_same b c once =
        let same = body_next text s n t u ts us b c in
        let word : t ≡ u = b.is ∙ ap (λ x. token.Body x) same.0 ∙ sym c.is in
        let more : ts ≡ us = once b.rest stage.Outside (n + 1) b.spelled b.after (subst (λ (x : List ℕ). Spells x us) (sym same.1) c.spelled) c.after in
        rw (word, more) refl

    by : IsWordNext text s n t ts ⊎ IsBodyNext text s n t ts → IsWordNext text s n u us ⊎ IsBodyNext text s n u us → AreOnce ts us → t ∷ ts ≡ u ∷ us
    by (inl w) (inl v) once = words_same w v once
    by (inl w) (inr c) once = absurd (no_word_and_body text s n t u ts us w c)
    by (inr b) (inl v) once = absurd (no_word_and_body text s n u t us ts v b)
    by (inr b) (inr c) once = bodies_same b c once

-- the words of a whole text
pub words_once : (text : List ℕ) (ts us : List Token) → AreWordsInPlace ts → AreWordsInPlace us → Spells text ts → Spells text us → ts ≡ us
words_once text ts us placed placed' spelled spelled' = one_words text stage.Outside 0 ts us spelled placed spelled' placed'
