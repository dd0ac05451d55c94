-- The spans that are kept row by row.
use Rattle.std.specs.Prelude.{ℕ, ◌+◌, ◌<◌, ◌≡◌, ◌≢◌, List, [], length, slice_index_or}
use Rattle.ladder_rows.specs.declared.span.Span.{Span}
use Rattle.ladder_rows.specs.Rows.{Rows}
use Rattle.ladder_text.specs.Places.{layout_of}
use Rattle.ladder_text.specs.Names.{words, symbols}

-- for each of the first n rows its spans
abbrev pub AreOfRows : (ℕ → List Span) → ℕ → List (List Span) → Type 0
AreOfRows spans n kept = (length kept ≡ n) × ((k : ℕ) → k < n → slice_index_or kept k [] ≡ spans k)

-- the words and the symbols of each row
abbrev pub AreWordsAndSymbols : Rows → List (List Span) → List (List Span) → Type 0
AreWordsAndSymbols d kept_words kept_symbols =
    AreOfRows (words (layout_of d)) (length d) kept_words × AreOfRows (symbols (layout_of d)) (length d) kept_symbols

-- behind the margin there is no opening bracket, and no bar behind a dash or a `+`
abbrev pub HasNoSymbol : List ℕ → Type 0
HasNoSymbol cells = (c : ℕ)
    → (slice_index_or cells (c + 1) 32 ≡ 124 → (slice_index_or cells c 32 ≢ 45) × (slice_index_or cells c 32 ≢ 43))
    × (slice_index_or cells (c + 1) 32 ≢ 40)
