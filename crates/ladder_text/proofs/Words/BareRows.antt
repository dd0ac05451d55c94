-- Rows without words, and rows without symbols.
use Rattle.std.proofs.Common.{ℕ, suc, ◌+◌, ◌-◌, ◌≤◌, ◌≡◌, ◌≢◌, [], false, None, inl, inr, refl, ap, sym, ◌∙◌, arith}
use Rattle.std.specs.Prelude.{slice_index_or}
use Rattle.std.specs.Option.{is_some}
use Rattle.std.proofs.lemmas.Bool.{cases_lt, or_from}
use Rattle.std.proofs.lemmas.Bool.Decides.{nat_tests}
use Rattle.ladder_rows.specs.Rows.{char_at, width}
use Rattle.ladder_rows.specs.Boxes.{option_list}
use Rattle.ladder_rows.proofs.Rows.Runs.{upto-none}
use Rattle.words.specs.Chars.{is_word_char}
use Rattle.ladder_text.specs.Places.{Layout, contact_at, coil_at}
use Rattle.ladder_text.specs.Names.{in_word, word_at, words, symbol_at, symbols}
use Rattle.ladder_text.specs.Steps.RowSpans.{HasNoSymbol}
use Rattle.ladder_text.proofs.Marks.SymbolPlaces.{contact_parts, coil_parts, not_some}

pub no_word_char : (c : ℕ) → (48 ≤ c → c ≡ 124) → c ≢ 46 → c ≢ 35 → is_word_char c ≡ false
no_word_char c a b d = elim (cases_lt c 48) [
  | inr h ↦ rw (a h) refl
  | inl h ↦ grind (arith, nat_tests)
]

no_word : (p : Layout) (r c : ℕ) → is_word_char (char_at p.rows r c) ≡ false → word_at p r c ≡ None
unfolding word_at in_word
no_word p r c h = rw h refl

-- a row without a character of a word has no words
pub no_words : (p : Layout) (r : ℕ) → ((c : ℕ) → is_word_char (slice_index_or (slice_index_or p.rows r []) c 32) ≡ false) → [] ≡ words p r
unfolding words char_at
no_words p r h = sym (upto-none (width p.rows) (λ c. option_list (word_at p r c)) (λ c. ap option_list (no_word p r (suc c) (h (suc c)))))

no_symbol_here : (p : Layout) (r c : ℕ) → HasNoSymbol (slice_index_or p.rows r []) → (is_some (contact_at p r (c + 1)) ≡ false) × (is_some (coil_at p r (c + 1)) ≡ false)
unfolding char_at
no_symbol_here p r c h =
    let e : c + 1 - 1 ≡ c = omega arith in (
      not_some (contact_at p r (c + 1)) (λ k q.
          let x = contact_parts p r (c + 1) k q in
          let none = (h c).0 x.first in
          elim x.before [
            | inl y ↦ none.0 (ap (char_at p.rows r) (sym e) ∙ y)
            | inr y ↦ none.1 (ap (char_at p.rows r) (sym e) ∙ y)
          ]),
      not_some (coil_at p r (c + 1)) (λ k q. (h c).1 (coil_parts p r (c + 1) k q).first),
    )

no_symbol_at : (p : Layout) (r c : ℕ) → HasNoSymbol (slice_index_or p.rows r []) → symbol_at p r (c + 1) ≡ None
unfolding symbol_at
no_symbol_at p r c h = rw (or_from _ _ (no_symbol_here p r c h).0 (no_symbol_here p r c h).1) refl

-- in such a row no symbol begins
pub no_symbols : (p : Layout) (r : ℕ) → HasNoSymbol (slice_index_or p.rows r []) → [] ≡ symbols p r
unfolding symbols
no_symbols p r h =
    sym (upto-none (width p.rows) (λ c. option_list (symbol_at p r c)) (λ c. let e : suc c ≡ c + 1 = omega arith in rw e (ap option_list (no_symbol_at p r c h))))
