-- The left rail's column of a text is one of its columns.
use Rattle.std.proofs.Common.{ℕ, zero, suc, ◌+◌, ◌-◌, ◌<◌, ◌≤◌, ◌≡◌, ◌≢◌, ◌==◌, add-one, Bool, true, List, [], ◌∷◌, length, map, get_or, refl, sym, ap, ◌∙◌, arith, rules, tests, inl, inr}
use Rattle.std.specs.Prelude.{max}
use Rattle.std.specs.List.{fold, list_all}
use Rattle.std.proofs.lemmas.Bool.{both_ways, true_from_ne_false, eqb-true, cases_lt}
use Rattle.std.proofs.lemmas.List.{get_or_past}
use Rattle.std.proofs.lemmas.List.Folds.{list_all_at}
use Rattle.words.specs.Lines.{lines_of, without_last}
use Rattle.ladder_rows.specs.Rows.{Rows, rows_of, row_of, trimmed, put_before, width}
use Rattle.ladder_rows.specs.Boxes.{is_blank_column, left_column}
use Rattle.ladder_text.proofs.Rows.Runs.{run_passes}
use Rattle.lists.proofs.Longest.{row-narrow}

-- the last of the characters, a blank where there are none
abbrev last_of : List ℕ → ℕ
last_of [] = 32
last_of (x ∷ []) = x
last_of (x ∷ y ∷ more) = last_of (y ∷ more)

last_of-is : (xs : List ℕ) → get_or xs (length xs - 1) 32 ≡ last_of xs
last_of-is [] = refl
last_of-is (x ∷ []) = refl
last_of-is (x ∷ y ∷ more) =
    let q : length (x ∷ y ∷ more) - 1 ≡ suc (length (y ∷ more) - 1) = omega arith in
    rw q (last_of-is (y ∷ more))

-- a line without its trailing blanks is empty or ends in no blank
put_before_last : (x : ℕ) (ys : List ℕ) → (0 < length ys → last_of ys ≢ 32) → 0 < length (put_before x ys) → last_of (put_before x ys) ≢ 32
put_before_last x [] h l = search (rules, tests)
put_before_last x (y ∷ more) h l = h (omega arith)

trimmed_last : (xs : List ℕ) → 0 < length (trimmed xs) → last_of (trimmed xs) ≢ 32
trimmed_last [] l = absurd (omega arith)
trimmed_last (x ∷ xs) l = put_before_last x (trimmed xs) (trimmed_last xs) l

behind_blank : (ys : List ℕ) → (0 < length ys → last_of ys ≢ 32) → 1 < length (32 ∷ ys) → last_of (32 ∷ ys) ≢ 32
behind_blank [] h l = absurd (omega arith)
behind_blank (y ∷ more) h l = h (omega arith)

row_last : (lines : List (List ℕ)) (r : ℕ) → 1 < length (get_or (map row_of lines) r []) → last_of (get_or (map row_of lines) r []) ≢ 32
row_last [] r l = absurd (omega arith)
row_last (line ∷ lines) zero l = behind_blank (trimmed (without_last 13 line)) (trimmed_last (without_last 13 line)) l
row_last (line ∷ lines) (suc r) l = row_last lines r l

text_row_last : (text : List ℕ) (r : ℕ) → 1 < length (get_or (rows_of text) r []) → last_of (get_or (rows_of text) r []) ≢ 32
unfolding rows_of
text_row_last text zero l = absurd (omega arith)
text_row_last text (suc r) l = row_last (lines_of text) r l

-- the column in front of a text is blank
margin_blank : (lines : List (List ℕ)) → list_all (λ row. get_or row 0 32 == 32) (map row_of lines) ≡ true
margin_blank [] = refl
margin_blank (line ∷ lines) = margin_blank lines

text_margin : (text : List ℕ) → is_blank_column (rows_of text) 0 ≡ true
unfolding rows_of
text_margin text = margin_blank (lines_of text)

pub left_above : (text : List ℕ) → 0 < left_column (rows_of text)
unfolding left_column
left_above text =
    let d = rows_of text in
    let e = text_margin text in
    rw (add-one, e) (omega arith)

fold-max_within : (m a : ℕ) (d : Rows) → a ≤ m → ((r : ℕ) → length (get_or d r []) ≤ m) → fold max a (map length d) ≤ m
fold-max_within m a [] h rows = h
fold-max_within m a (row ∷ d) h rows = fold-max_within m (max a (length row)) d (omega (arith, rows 0)) (λ r. rows (suc r))

column_blank : (d : Rows) (r c : ℕ) → is_blank_column d c ≡ true → get_or (get_or d r []) c 32 ≡ 32
column_blank d r c e = elim (cases_lt r (length d)) [
  | inl l ↦
      let blank : List ℕ → Bool = λ row. get_or row c 32 == 32 in
      eqb-true _ _ (true_from_ne_false (blank (get_or d r [])) (λ q. both_ways (is_blank_column d c) (list_all_at blank d r [] l q) e))
  | inr l ↦ ap (λ (row : List ℕ). get_or row c 32) (get_or_past d r [] l)
]

-- a row of a text whose columns are all blank has none but the margin
row_of_blanks : (text : List ℕ) (r : ℕ) → ((c : ℕ) → c ≤ width (rows_of text) → is_blank_column (rows_of text) c ≡ true) → length (get_or (rows_of text) r []) ≤ 1
row_of_blanks text r blank = elim (cases_lt 1 (length (get_or (rows_of text) r []))) [
  | inr h ↦ h
  | inl h ↦
      let row : List ℕ = get_or (rows_of text) r [] in
      let c : ℕ = length row - 1 in
      let within : c ≤ width (rows_of text) = row-narrow (rows_of text) r c (omega arith) in
      absurd (text_row_last text r h (sym (last_of-is row) ∙ column_blank (rows_of text) r c (blank c within)))
]

pub left_within : (text : List ℕ) → 0 < width (rows_of text) → left_column (rows_of text) ≤ width (rows_of text)
unfolding left_column
left_within text drawn = elim (cases_lt (width (rows_of text)) (left_column (rows_of text))) [
  | inr h ↦ h
  | inl h ↦
      let d = rows_of text in
      let blank : (c : ℕ) → c ≤ width d → is_blank_column d c ≡ true
      = λ c l. let q : 0 + c ≡ c = omega arith in rw q at (run_passes (is_blank_column d) 0 (width d + 1) c (omega arith)) in
      absurd (omega (arith, fold-max_within 1 0 d (omega arith) (λ r. row_of_blanks text r blank)))
]
