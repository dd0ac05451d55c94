-- Where a BOOL stands, its seat is that of a BOOL.
use Rattle.std.proofs.Common.{◌≡◌, ℕ, List, Bool, true, Option, None, Some, slice_get, refl, ap, ◌∙◌}
use Rattle.std_blocks.specs.declared.value.Value.TheVariants as value
use Rattle.scan_steps.specs.declared.seat.Seat.{Seat}
use Rattle.scan_steps.specs.declared.seat.Seat.TheVariants as seat
use Rattle.scan_steps.specs.Slots.{IsKindAt}
use Rattle.scan_steps.specs.Steps.Seats.{ListsValue, slots_from, is_kind_of}
use Rattle.scan_steps.proofs.Seating.{kind_there, no_kind_there}

pub bool_seat : (seats : List Seat) (v : ListsValue) (k : ℕ) (on : Bool) → IsKindAt (slots_from 0 seats v) k (value.Bool on) → slice_get seats k ≡ Some seat.Bool
bool_seat seats v k on at = by (slice_get seats k) refl
  where
    is_bool : (s : Seat) → is_kind_of s (value.Bool on) ≡ true → s ≡ seat.Bool
    is_bool seat.Bool is = refl
    is_bool (seat.Int n) is = absurd cc
    is_bool (seat.Time n) is = absurd cc
    is_bool (seat.Block n) is = absurd cc

    by : (o : Option Seat) → slice_get seats k ≡ o → slice_get seats k ≡ Some seat.Bool
    by None none = absurd (no_kind_there seats v k (value.Bool on) none at)
    by (Some s) some = some ∙ ap Some (is_bool s ((kind_there seats v k s (value.Bool on) some).1 at))
