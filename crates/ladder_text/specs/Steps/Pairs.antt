-- Words above symbols, one above each.
use Rattle.std.specs.Prelude.{ℕ, ◌<◌, ◌≤◌, ◌+◌, ◌≡◌, List, [], length, slice_index_or, Bool, true}
use Rattle.std.specs.List.{list_all}
use Rattle.words.specs.Chars.{is_name}
use Rattle.ladder_rows.specs.declared.span.Span.{Span}
use Rattle.ladder_text.specs.Places.{Layout}
use Rattle.ladder_text.specs.Names.{overlap, words, symbols, tops, word_text}

-- the span with a number, an empty one where there is none
abbrev pub span_at : List Span → ℕ → Span
span_at xs k = slice_index_or xs k (record { first = 0; end = 0 })

-- the first n of two lists overlap one by one, and begin behind those before them in the other list
pub record ArePairs (xs ys : List Span) (n : ℕ) : Type 0 where
  pub over : (k : ℕ) → k < n → overlap (span_at xs k) (span_at ys k) ≡ true
  pub behind_first : (j k : ℕ) → j < k → k < n → (span_at xs j).end ≤ (span_at ys k).first
  pub behind_second : (j k : ℕ) → j < k → k < n → (span_at ys j).end ≤ (span_at xs k).first

-- two lists go in pairs
pub record ArePaired (xs ys : List Span) : Type 0 where
  pub as_many : length xs ≡ length ys
  pub pairs : ArePairs xs ys (length xs)

-- spans that stand one behind the other
pub record AreApart (xs : List Span) : Type 0 where
  pub wide : (k : ℕ) → k < length xs → (span_at xs k).first ≤ (span_at xs k).end
  pub behind : (j k : ℕ) → j < k → k < length xs → (span_at xs j).end ≤ (span_at xs k).first

-- the words of the row r are all names
abbrev pub are_names : Layout → ℕ → Bool
are_names p r = list_all (λ w. is_name (word_text p r w)) (words p r)

-- the words of the row r stand above the symbols of the next row, one above each, and no box begins there
pub record StandAbove (p : Layout) (r : ℕ) : Type 0 where
  pub pairs : ArePaired (words p r) (symbols p (r + 1))
  pub alone : tops p (r + 1) ≡ []
