-- A character that is found lies within the width.
use Rattle.std.proofs.Common.{ℕ, ◌<◌, ◌≡◌, List, [], length, get_or, refl, sym, ◌∙◌, false}
use Rattle.std.proofs.lemmas.List.{get_or_default}
use Rattle.lists.proofs.Longest.{row-narrow}
use Rattle.words.specs.Chars.{between}
use Rattle.ladder_rows.specs.Faults.{PassesInRows, not_ascii}
use Rattle.ladder_rows.specs.Rows.{Rows, char_at}

pub not_ascii_found : (d : Rows) (r c : ℕ) (row : List ℕ) → row ≡ get_or d r row → r < length d → c < length row → between 32 (get_or row c 32) 126 ≡ false → PassesInRows d (not_ascii d) r c
unfolding char_at
not_ascii_found d r c row e h k b =
    let q : get_or d r [] ≡ row = get_or_default d r [] row h ∙ sym e in
    record { in_rows = h; in_columns = row-narrow d r c (rw q k); passes = rw q (rw b refl) }
