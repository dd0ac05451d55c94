-- Every character of a text that was looked at is ASCII.
use Rattle.std.proofs.Common.{ℕ, ◌-◌, ◌<◌, ◌≡◌, [], length, drop, get_or, arith, rules, tests, inl, inr}
use Rattle.std.proofs.lemmas.Bool.{cases_lt}
use Rattle.std.proofs.lemmas.List.{get_or_default}
use Rattle.std.proofs.lemmas.Str.{IsAscii-take, IsAscii-drop}
use Rattle.std.proofs.lemmas.Str.Ascii.{IsAscii-from_reads, IsAscii-nil}
use Rattle.std.proofs.Math.ListN.{get_or-eq_default}
use Rattle.std.specs.Str.{IsAscii}
use Rattle.ladder_rows.specs.Rows.{Rows, char_at}
use Rattle.ladder_rows.specs.Boxes.{cut}
use Rattle.ladder_rows.specs.Faults.{NowhereInRows, not_ascii}
use Rattle.lists.proofs.Longest.{row-narrow}

pub row_small : (d : Rows) (r k : ℕ) → NowhereInRows d (not_ascii d) → r < length d → k < length (get_or d r []) → get_or (get_or d r []) k 0 < 128
unfolding char_at
row_small d r k n h l =
    let e = n r k h (row-narrow d r k l) in
    let q : get_or (get_or d r []) k 0 ≡ get_or (get_or d r []) k 32 = get_or_default (get_or d r []) k 0 32 l in
    rw q (search (rules, tests))

pub row_ascii : (d : Rows) (r : ℕ) → NowhereInRows d (not_ascii d) → IsAscii (get_or d r [])
row_ascii d r n = elim (cases_lt r (length d)) [
  | inl h ↦ IsAscii-from_reads (get_or d r []) (length (get_or d r [])) (omega arith) (λ k l. row_small d r k n h l)
  | inr h ↦ rw (get_or-eq_default d [] h) IsAscii-nil
]

pub cut_ascii : (d : Rows) (r a b : ℕ) → NowhereInRows d (not_ascii d) → IsAscii (cut d r a b)
cut_ascii d r a b n = IsAscii-take (drop a (get_or d r [])) (b - a) (IsAscii-drop (get_or d r []) a (row_ascii d r n))
