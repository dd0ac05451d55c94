-- On the first of places.
use Rattle.std.proofs.Common.{ℕ, ◌<◌, ◌≤◌, ◌≡◌, sym, subst, arith, Bool, true, IsFalse, inl, inr}
use Rattle.std.proofs.lemmas.Bool.{cases_lt, both_ways}
use Rattle.ladder_rows.specs.Rows.{Rows, width}
use Rattle.ladder_rows.specs.Faults.{PassesInRows, IsFirstAt}

-- a test that passes in no row above, and before the column in no place of its row
pub found_first : (d : Rows) (test : ℕ → ℕ → Bool) (r c : ℕ) → ((i j : ℕ) → i < r → j ≤ width d → IsFalse (test i j)) → ((k : ℕ) → k < c → IsFalse (test r k))
    → PassesInRows d test r c → IsFirstAt (PassesInRows d test) r c
found_first d test r c above before here = record {
  such = here;
  first = λ i j w. elim (cases_lt i r) [
    | inl h ↦ absurd (both_ways (test i j) (above i j h w.in_columns) w.passes)
    | inr h ↦ elim (cases_lt r i) [
      | inl l ↦ inl l
      | inr l ↦
          let e : i ≡ r = omega arith in
          elim (cases_lt j c) [
            | inl b ↦ absurd (both_ways (test r j) (before j b) (subst (λ (n : ℕ). test n j ≡ true) e w.passes))
            | inr b ↦ inr (sym e, b)
          ]
    ]
  ];
}
