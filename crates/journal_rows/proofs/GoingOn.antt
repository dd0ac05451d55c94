-- Files that go on from one another.
use Rattle.std.proofs.Common.{◌≡◌, ℕ, ◌+◌, ◌++◌, ◌∷◌, [], List, Option, Some, true, false, refl, sym, ap, ◌∙◌, subst, add-one, slice_get, slice_index_or, length, ◌<◌, ◌≤◌, inl, inr}
use Rattle.std.specs.Borrow.{Bor}
use Rattle.std.specs.List.{position}
use Rattle.std.proofs.lemmas.List.Sums.{count_by-le-length, sum_by-append}
use Rattle.std.proofs.lemmas.Option.{slice_get-get_or}
use Rattle.journal_rows.specs.ContinuesLine.{begins_with, continues_front, digest_of}
use Rattle.journal_rows.specs.LooseFiles.{Texts}
use Rattle.journal_rows.specs.Rows.{behind_first_line, is_further, line_ends, next_of, GoOn, HaveRows, IsRow}
use Rattle.journal_rows.specs.declared.rows.Row.{Row}

-- the text at a place
abbrev pub text_at : Texts → ℕ → Bor (List ℕ)
text_at texts k = slice_index_or texts k (record { ref_ptr = (0, 0); now = [] })

pub is_there : (texts : Texts) (k : ℕ) → k < length texts → slice_get texts k ≡ Some (text_at texts k)
is_there texts k within = slice_get-get_or texts k _ within

-- what was looked for is what goes on from a file
pub found_next : (texts : Texts) (k : ℕ) (before bytes : List ℕ) (digest : ℕ) (found : Option ℕ) → digest ≡ digest_of before → bytes ≡ continues_front (k + 1) digest
    → found ≡ position (λ (t : Bor (List ℕ)). begins_with bytes t.now) texts → next_of texts k before ≡ found
found_next texts k before bytes digest found digest_is bytes_is found_is =
    sym (found_is ∙ ap (λ (b : List ℕ). position (λ (t : Bor (List ℕ)). begins_with b t.now) texts) (bytes_is ∙ ap (continues_front (k + 1)) digest_is))

-- one file more goes on
pub go_on_more : (texts : Texts) (first k last next : ℕ) (these starts noted files ended now : List ℕ) (from to : Bor (List ℕ)) → GoOn texts first k last these starts noted
    → slice_get texts last ≡ Some from → slice_get texts next ≡ Some to → next_of texts k from.now ≡ Some next
    → files ≡ these ++ next ∷ [] → ended ≡ starts ++ line_ends noted ∷ [] → now ≡ noted ++ behind_first_line to.now → GoOn texts first (k + 1) next files ended now
go_on_more texts first k last next these starts noted files ended now from to go at to_at goes files_are ended_are now_is =
    subst (λ n. GoOn texts first n next files ended now) (sym (add-one k)) (last, these, starts, noted, from, to, go, at, to_at, goes, files_are, ended_are, now_is)

-- one file more begins a row, or doesn't
pub rows_more : (texts : Texts) (k : ℕ) (before rows : List Row) (text : Bor (List ℕ)) (row : Row) → HaveRows texts k before → slice_get texts k ≡ Some text → is_further text.now ≡ false
    → IsRow texts k row → rows ≡ before ++ row ∷ [] → HaveRows texts (k + 1) rows
rows_more texts k before rows text row have at first is rows_are =
    subst (λ n. HaveRows texts n rows) (sym (add-one k)) (before, text, have, at, inr (first, row, is, rows_are))

pub rows_same : (texts : Texts) (k : ℕ) (rows : List Row) (text : Bor (List ℕ)) → HaveRows texts k rows → slice_get texts k ≡ Some text → is_further text.now ≡ true → HaveRows texts (k + 1) rows
rows_same texts k rows text have at further =
    subst (λ n. HaveRows texts n rows) (sym (add-one k)) (rows, text, have, at, inl (further, refl))

-- lines that end in two texts
pub lines_more : (text more : List ℕ) → line_ends (text ++ more) ≡ line_ends text + line_ends more
lines_more text more = sum_by-append _ text more

-- lines are no more than bytes
pub lines_fit : (text : List ℕ) → line_ends text ≤ length text
lines_fit text = count_by-le-length _ text
