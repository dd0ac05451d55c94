-- A row that isn't as it should be.
use Rattle.std.proofs.Common.{ℕ, zero, suc, ◌+◌, ◌<◌, ◌≡◌, List, Option, Some, None, refl, arith, below_more}
use Rattle.ladder_rows.specs.Rows.{Rows}
use Rattle.ladder_rows.specs.Boxes.{both, row_pins, pins_of_rows}

pub both-none : {A : Type 0} (x : Option (List A)) → both x None ≡ None
both-none None = refl
both-none (Some xs) = refl

pub pins-none : (d : Rows) (a e r i n : ℕ) → i < n → row_pins d a e (r + i) ≡ None → pins_of_rows d a e r n ≡ None
pins-none d a e r i zero h t = absurd (omega arith)
pins-none d a e r i (suc n) h t =
    below_more (λ (k : ℕ). row_pins d a e (r + k) ≡ None → pins_of_rows d a e r (suc n) ≡ None) n
    (λ k l t. let q = pins-none d a e r k n l t in rw q refl)
    (λ t. rw t (both-none (pins_of_rows d a e r n))) i (omega arith) t
