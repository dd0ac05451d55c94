use Rattle.std.proofs.Common.{◌≡◌, ℕ, List, [], ◌∷◌, ◌++◌, Option, Some, None, length, slice_get, arith, length-append, ap, inl, inr}
use Rattle.lists.proofs.Places.{push_cases}
use Rattle.network.specs.declared.joining.row_table.InRow.{InRow}
use Rattle.network.proofs.joining.row_table.RowTable.new.Goals as goal

none_in : (xs : List (Option InRow)) → xs ≡ [] → (r : ℕ) (t : Option InRow) → slice_get xs r ≡ Some t → t ≡ None
none_in xs e r t at = let h = rw e at at in absurd (cc)

none_more : (xs : List (Option InRow)) → ((r : ℕ) (t : Option InRow) → slice_get xs r ≡ Some t → t ≡ None) → (r : ℕ) (t : Option InRow) → slice_get (xs ++ None ∷ []) r ≡ Some t → t ≡ None
none_more xs none r t at = elim (push_cases xs None r t at) [ inl old ↦ none r t old | inr h ↦ h.1 ]

pub loop-row-init : goal.loop-row-init
loop-row-init c = record { long = ap length c.in_ok-rows.ensures.items; none = none_in c.in_ok-rows.rows.items c.in_ok-rows.ensures.items }

pub loop-row-preserved : goal.loop-row-preserved
loop-row-preserved c =
    let items = c.in_ok-push.ensures.items in record {
      long = omega (arith, ap length items, length-append c.loop-row.rows.items (None ∷ []), c.loop-row.invariant.long);
      none = rw items (none_more c.loop-row.rows.items c.loop-row.invariant.none);
    }

pub returns-clause-long : goal.returns-clause-long
returns-clause-long c = omega (arith, c.loop-row.invariant.long, c.loop-row-test.false, c.loop-row.auto)

pub returns-clause-none : goal.returns-clause-none
returns-clause-none c = c.loop-row.invariant.none
