-- The words of a row stand by their first columns.
use Rattle.std.proofs.Common.{ℕ, ◌<◌, ◌≡◌, List, length, take, get_or, Some, refl, sym, ap, ◌∙◌, subst, arith, Bool, true, IsFalse, inl, inr, length-take-le}
use Rattle.std.specs.List.{slice_get, list_any}
use Rattle.std.proofs.lemmas.Bool.{cases_lt, both_ways}
use Rattle.std.proofs.lemmas.List.{get_or-take, get_or_default}
use Rattle.std.proofs.lemmas.List.Folds.{list_any_at}
use Rattle.std.proofs.lemmas.Option.{slice_get_read}
use Rattle.ladder_rows.specs.declared.span.Span.{Span}
use Rattle.ladder_rows.specs.Rows.{width}
use Rattle.ladder_text.specs.Places.{Layout}
use Rattle.ladder_text.specs.Names.{in_word, word_at, words}
use Rattle.ladder_text.specs.FirstFault.{IsSpanAt}
use Rattle.ladder_text.specs.Steps.Search.{IsFirstColumn}
use Rattle.ladder_text.proofs.Rows.ListedItems.{options_rising}
use Rattle.ladder_text.proofs.Marks.SymbolPlaces.{cond_some_of}
use Rattle.std.proofs.lemmas.Option.{same_Some}
use Rattle.std.proofs.Common.{◌&&◌, not, ◌-◌}
use Rattle.lists.specs.Rising.{IsRising}

pub word_first : (p : Layout) (r c : ℕ) (s : Span) → word_at p r c ≡ Some s → s.first ≡ c
unfolding word_at
word_first p r c s e = ap (λ (t : Span). t.first) (sym (same_Some _ s (cond_some_of (in_word p r c && not (in_word p r (c - 1))) _ s e).1))

pub words_rising : (p : Layout) (r : ℕ) → IsRising (λ (x y : Span). x.first < y.first) (words p r)
unfolding words
words_rising p r = options_rising (λ (s : Span). s.first) (word_at p r) (word_first p r) (width p.rows)

-- the first span that passes begins before the others, where they are the words
first_word : (p : Layout) (r : ℕ) (test : Span → Bool) (xs : List Span) (i : ℕ) (x d : Span) → xs ≡ words p r → i < length xs → x ≡ get_or xs i d
    → IsFalse (list_any test (take i xs)) → test x ≡ true → IsFirstColumn (IsSpanAt xs test) x.first
first_word p r test xs i x d is h e none here =
    let own : x ≡ get_or xs i x = e ∙ sym (get_or_default xs i x d h) in
    let at : slice_get xs i ≡ Some x = slice_get_read xs (length xs) i x refl h own in
    record {
      such = (i, x, h, sym own, (refl, here));
      first = λ k w.
          let j = w.0 in
          let y = w.1 in
          let there : slice_get xs j ≡ Some y = slice_get_read xs (length xs) j y refl w.2 (sym w.3) in
          elim (cases_lt j i) [
            | inl l ↦
                let size : length (take i xs) ≡ i = length-take-le i xs (omega arith) in
                let same : get_or (take i xs) j y ≡ y = get_or-take i xs j y l ∙ w.3 in
                absurd (both_ways (list_any test (take i xs)) none (list_any_at test (take i xs) j y (omega arith) (subst (λ (s : Span). test s ≡ true) (sym same) w.4.1)))
            | inr l ↦ elim (cases_lt i j) [
              | inl m ↦ omega (arith, subst (λ (zs : List Span). IsRising (λ (x y : Span). x.first < y.first) zs) (sym is) (words_rising p r) i j x y m at there, w.4.0)
              | inr m ↦
                  let n : j ≡ i = omega arith in
                  let same : y ≡ x = same_Some y x (sym there ∙ ap (slice_get xs) n ∙ at) in
                  omega (arith, ap (λ (s : Span). s.first) same, w.4.0)
            ]
          ];
    }

-- the first word that passes begins before the others
pub first_of_words : (p : Layout) (r : ℕ) (test : Span → Bool) (xs : List Span) (i : ℕ) (x d : Span) → xs ≡ words p r → i < length xs → x ≡ get_or xs i d
    → IsFalse (list_any test (take i xs)) → test x ≡ true → IsFirstColumn (IsSpanAt (words p r) test) x.first
first_of_words p r test xs i x d is h e none here = subst (λ (zs : List Span). IsFirstColumn (IsSpanAt zs test) x.first) is (first_word p r test xs i x d is h e none here)
