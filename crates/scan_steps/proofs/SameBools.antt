-- What the BOOLs tell of all that stands at places.
use Rattle.std.proofs.Common.{◌≡◌, ℕ, ◌<◌, List, Bool, false, Option, None, Some, length, slice_get, refl, sym, ap, ◌∙◌, arith}
use Rattle.std.specs.Option.{option_and_then}
use Rattle.std.proofs.lemmas.List.{same_lists, get_or_default}
use Rattle.lists.proofs.Places.{some_same, same_by_each}
use Rattle.std_blocks.specs.declared.value.Value.TheVariants as value
use Rattle.scan_steps.specs.declared.seat.Seat.{Seat}
use Rattle.scan_steps.specs.declared.seat.Seat.TheVariants as seat
use Rattle.scan_steps.specs.declared.slot.Slot.{Slot}
use Rattle.scan_steps.specs.declared.slot.Slot.TheVariants.{Variable}
use Rattle.scan_steps.specs.Values.{is_true}
use Rattle.scan_steps.specs.Conducting.{bit_at}
use Rattle.scan_steps.specs.Slots.{variable_of, variable_at}
use Rattle.scan_steps.specs.Steps.Seats.{ListsValue, slots_from, IsInLists, IsSeating, AreBools}
use Rattle.scan_steps.proofs.Seating.{slots_length, slot_found, no_slot, on_there}

-- where the same stands at all places, the bits are the same
pub bits_same : (seats others : List Seat) (v w : ListsValue) → IsSeating seats v → IsSeating others w → slots_from 0 seats v ≡ slots_from 0 others w → v.bits ≡ w.bits
bits_same seats others v w is are same =
    let many : length v.bits ≡ length w.bits = is.long ∙ sym (slots_length 0 seats v) ∙ ap length same ∙ slots_length 0 others w ∙ sym are.long in
    same_lists v.bits w.bits many (λ k d lt.
    let within : k < length w.bits = omega arith in
    get_or_default v.bits k d false lt ∙ on_there seats v k is ∙ ap (λ l. is_true (variable_at l k)) same ∙ sym (on_there others w k are) ∙ sym (get_or_default w.bits k d false within))

-- where the bits are the same, so many names have a BOOL that is TRUE, at the same places
pub many_same : (seats others : List Seat) (v w : ListsValue) → IsSeating seats v → IsSeating others w → v.bits ≡ w.bits → length (slots_from 0 seats v) ≡ length (slots_from 0 others w)
many_same seats others v w is are same = slots_length 0 seats v ∙ sym is.long ∙ ap length same ∙ are.long ∙ sym (slots_length 0 others w)

pub bools_same : (seats others : List Seat) (v w : ListsValue) → IsSeating seats v → IsSeating others w → v.bits ≡ w.bits → (k : ℕ)
    → is_true (variable_at (slots_from 0 seats v) k) ≡ is_true (variable_at (slots_from 0 others w) k)
bools_same seats others v w is are same k = sym (on_there seats v k is) ∙ ap (λ bits. bit_at bits k) same ∙ on_there others w k are

-- where there is no INT, no TIME and no block, a BOOL stands at each place
pub bools_alone : (seats : List Seat) (v : ListsValue) → IsSeating seats v → length v.ints ≡ 0 → length v.times ≡ 0 → length v.blocks ≡ 0 → AreBools (slots_from 0 seats v)
bools_alone seats v is ints times blocks k s at = by (slice_get seats k) refl
  where
    of : (t : Seat) → IsInLists v k t → slice_get seats k ≡ Some t → (on : Bool) × (s ≡ Variable (value.Bool on))
    of seat.Bool h there = (bit_at v.bits k, some_same (sym at ∙ slot_found seats v k seat.Bool there))
    of (seat.Int n) h there = let lt : n < length v.ints = h.0 in absurd (omega arith)
    of (seat.Time n) h there = let lt : n < length v.times = h.0 in absurd (omega arith)
    of (seat.Block n) h there = let lt : n < length v.blocks = h.0 in absurd (omega arith)

    by : (o : Option Seat) → slice_get seats k ≡ o → (on : Bool) × (s ≡ Variable (value.Bool on))
    by None none = let never : Some s ≡ None = sym at ∙ no_slot seats v k none in absurd cc
    by (Some t) there = of t (is.within k t there) there

-- BOOLs that are the same are all that stands there
pub all_same : (xs ys : List Slot) → length xs ≡ length ys → ((k : ℕ) → is_true (variable_at xs k) ≡ is_true (variable_at ys k)) → AreBools xs → AreBools ys → xs ≡ ys
all_same xs ys many bools one other = same_by_each xs ys many (λ k x y at there.
    let a = one k x at in
    let b = other k y there in
    let same : a.0 ≡ b.0 = sym (read xs k x a.0 at a.1) ∙ bools k ∙ read ys k y b.0 there b.1 in
    a.1 ∙ ap (λ on. Variable (value.Bool on)) same ∙ sym b.1)
  where
    read : (zs : List Slot) (k : ℕ) (z : Slot) (on : Bool) → slice_get zs k ≡ Some z → z ≡ Variable (value.Bool on) → is_true (variable_at zs k) ≡ on
    read zs k z on at is = ap (λ o. is_true (option_and_then variable_of o)) at ∙ ap (λ s. is_true (variable_of s)) is
