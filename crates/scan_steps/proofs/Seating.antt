-- What stands at places, by their seats and the lists of each kind.
use Rattle.std.proofs.Common.{◌≡◌, ◌≢◌, ℕ, zero, suc, ◌+◌, ◌<◌, ◌↔◌, inl, inr, List, [], ◌∷◌, Bool, true, false, Option, None, Some, pos, length, length-set, set, get_or, slice_get, refl, sym, ap, ◌∙◌, subst, arith}
use Rattle.std.specs.Option.{option_map, option_and_then}
use Rattle.std.proofs.lemmas.List.{get_or-set_same, get_or-set_other, set-get_or}
use Rattle.std.proofs.lemmas.Option.{slice_get-get_or, get_or_from_slice_get, slice_get_within}
use Rattle.lists.proofs.Places.{some_same, slice_get-set_same, set_none}
use Rattle.std_blocks.specs.declared.value.Value.{Value}
use Rattle.std_blocks.specs.declared.value.Value.TheVariants as value
use Rattle.std_blocks.specs.declared.block_type.BlockType.TheVariants.{SR}
use Rattle.declared_names.specs.Kinds.{kind_of}
use Rattle.scan_steps.specs.declared.seat.Seat.{Seat}
use Rattle.scan_steps.specs.declared.seat.Seat.TheVariants as seat
use Rattle.scan_steps.specs.declared.slot.Instance.{Instance}
use Rattle.scan_steps.specs.declared.slot.Slot.{Slot}
use Rattle.scan_steps.specs.declared.slot.Slot.TheVariants.{Variable, Block}
use Rattle.scan_steps.specs.First.{instance_first}
use Rattle.scan_steps.specs.Values.{is_true}
use Rattle.scan_steps.specs.Conducting.{bit_at}
use Rattle.scan_steps.specs.Slots.{variable_of, variable_at, IsKindAt, AreSlotsOf}
use Rattle.scan_steps.specs.Steps.Seats.{ListsValue, slot_at, slots_from, is_kind_of, lists_put, block_in, lists_put_block, IsInLists, IsSeating}
use Rattle.declared_names.specs.declared.declarations.Declaration.{Declaration}
use Rattle.scan_steps.proofs.KeptKinds.{slot_of_variable, AreSlotsOf-set}
use Rattle.scan_steps.specs.Steps.Storing.{of_same_kind, with_value, value_put, with_block, block_put, block_of, block_at}

-- what stands at a place is what its seat names
slot_got : (n : ℕ) (seats : List Seat) (v : ListsValue) (k : ℕ) → slice_get (slots_from n seats v) k ≡ option_map (slot_at v (n + k)) (slice_get seats k)
slot_got n [] v k = refl
slot_got n (s ∷ seats) v zero = let here : n ≡ n + 0 = omega arith in ap (λ p. Some (slot_at v p s)) here
slot_got n (s ∷ seats) v (suc k) =
    let along : n + 1 + k ≡ n + suc k = omega arith in
    slot_got (n + 1) seats v k ∙ ap (λ p. option_map (slot_at v p) (slice_get seats k)) along

pub slot_there : (seats : List Seat) (v : ListsValue) (k : ℕ) → slice_get (slots_from 0 seats v) k ≡ option_map (slot_at v k) (slice_get seats k)
slot_there seats v k = let same : 0 + k ≡ k = omega arith in slot_got 0 seats v k ∙ ap (λ p. option_map (slot_at v p) (slice_get seats k)) same

pub slots_length : (n : ℕ) (seats : List Seat) (v : ListsValue) → length (slots_from n seats v) ≡ length seats
slots_length n [] v = refl
slots_length n (s ∷ seats) v = ap suc (slots_length (n + 1) seats v)

-- where a seat is found, its slot stands
pub slot_found : (seats : List Seat) (v : ListsValue) (k : ℕ) (s : Seat) → slice_get seats k ≡ Some s → slice_get (slots_from 0 seats v) k ≡ Some (slot_at v k s)
slot_found seats v k s at = slot_there seats v k ∙ ap (option_map (slot_at v k)) at

pub no_slot : (seats : List Seat) (v : ListsValue) (k : ℕ) → slice_get seats k ≡ None → slice_get (slots_from 0 seats v) k ≡ None
no_slot seats v k at = slot_there seats v k ∙ ap (option_map (slot_at v k)) at

-- no bit is ON beyond the last place
off_beyond : (bits : List Bool) (seats : List Seat) (k : ℕ) → length bits ≡ length seats → slice_get seats k ≡ None → bit_at bits k ≡ false
off_beyond [] seats k long none = refl
off_beyond (b ∷ bits) [] k long none = absurd cc
off_beyond (b ∷ bits) (s ∷ seats) zero long none = absurd cc
off_beyond (b ∷ bits) (s ∷ seats) (suc k) long none = off_beyond bits seats k (let shorter : length bits ≡ length seats = omega (arith, long) in shorter) none

-- a bit is ON only where a BOOL is TRUE
pub on_there : (seats : List Seat) (v : ListsValue) (k : ℕ) → IsSeating seats v → bit_at v.bits k ≡ is_true (variable_at (slots_from 0 seats v) k)
on_there seats v k is = by (slice_get seats k) refl
  where
    of : (s : Seat) → IsInLists v k s → bit_at v.bits k ≡ is_true (variable_of (slot_at v k s))
    of seat.Bool h = refl
    of (seat.Int n) h = h.1
    of (seat.Time n) h = h.1
    of (seat.Block n) h = h.1

    by : (o : Option Seat) → slice_get seats k ≡ o → bit_at v.bits k ≡ is_true (variable_at (slots_from 0 seats v) k)
    by None at = off_beyond v.bits seats k is.long at ∙ ap (λ o. is_true (option_and_then variable_of o)) (sym (no_slot seats v k at))
    by (Some s) at = of s (is.within k s at) ∙ ap (λ o. is_true (option_and_then variable_of o)) (sym (slot_found seats v k s at))

-- where the slot of one seat changes, and no other does, that one is changed
rest_same : (n : ℕ) (seats : List Seat) (v w : ListsValue) → ((m : ℕ) (t : Seat) → slice_get seats m ≡ Some t → slot_at w (n + m) t ≡ slot_at v (n + m) t)
    → slots_from n seats w ≡ slots_from n seats v
rest_same n [] v w same = refl
rest_same n (s ∷ seats) v w same =
    let here : n ≡ n + 0 = omega arith in
    let head : slot_at w n s ≡ slot_at v n s = rw (sym here) at (same 0 s refl) in
    ap (λ x. x ∷ slots_from (n + 1) seats w) head
    ∙ ap (λ l. slot_at v n s ∷ l) (rest_same (n + 1) seats v w (λ m t at. let along : n + suc m ≡ n + 1 + m = omega arith in rw along at (same (suc m) t at)))

one_changed : (n : ℕ) (seats : List Seat) (v w : ListsValue) (k : ℕ) (s : Seat) → slice_get seats k ≡ Some s
    → ((m : ℕ) (t : Seat) → slice_get seats m ≡ Some t → m ≢ k → slot_at w (n + m) t ≡ slot_at v (n + m) t)
    → slots_from n seats w ≡ set (slots_from n seats v) k (slot_at w (n + k) s)
one_changed n [] v w k s at same = absurd cc
one_changed n (a ∷ seats) v w zero s at same =
    let here : n ≡ n + 0 = omega arith in
    let is : a ≡ s = some_same at in
    let head : slot_at w n a ≡ slot_at w (n + 0) s = ap (slot_at w n) is ∙ ap (λ p. slot_at w p s) here in
    ap (λ x. x ∷ slots_from (n + 1) seats w) head
    ∙ ap (λ l. slot_at w (n + 0) s ∷ l) (rest_same (n + 1) seats v w (λ m t at'. let along : n + suc m ≡ n + 1 + m = omega arith in rw along at (same (suc m) t at' (λ e. absurd cc))))
one_changed n (a ∷ seats) v w (suc k) s at same =
    let here : n ≡ n + 0 = omega arith in
    let along : n + 1 + k ≡ n + suc k = omega arith in
    let head : slot_at w n a ≡ slot_at v n a = rw (sym here) at (same 0 a refl (λ e. absurd cc)) in
    ap (λ x. x ∷ slots_from (n + 1) seats w) head
    ∙ ap (λ l. slot_at v n a ∷ l) (one_changed (n + 1) seats v w k s at (λ m t at' ne. let further : n + suc m ≡ n + 1 + m = omega arith in rw further at (same (suc m) t at' (λ e. ne (let same' : m ≡ k = omega (arith, e) in same'))))
    ∙ ap (λ p. set (slots_from (n + 1) seats v) k (slot_at w p s)) along)

-- what is put at a place is what stands there then, if it is of the same kind
put_slot : (v : ListsValue) (k : ℕ) (s : Seat) (x : Value) → k < length v.bits → IsInLists v k s → slot_at (lists_put v k s x) k s ≡ with_value (slot_at v k s) x
put_slot v k seat.Bool (value.Bool b) lt h = ap (λ on. Variable (value.Bool on)) (get_or-set_same v.bits k b false lt)
put_slot v k seat.Bool (value.Int n) lt h = refl
put_slot v k seat.Bool (value.Time t) lt h = refl
put_slot v k (seat.Int j) (value.Bool b) lt h = refl
put_slot v k (seat.Int j) (value.Int n) lt h = ap (λ i. Variable (value.Int i)) (get_or-set_same v.ints j n (pos 0) h.0)
put_slot v k (seat.Int j) (value.Time t) lt h = refl
put_slot v k (seat.Time j) (value.Bool b) lt h = refl
put_slot v k (seat.Time j) (value.Int n) lt h = refl
put_slot v k (seat.Time j) (value.Time t) lt h = ap (λ i. Variable (value.Time i)) (get_or-set_same v.times j t 0 h.0)
put_slot v k (seat.Block j) x lt h = refl

-- what stands at another seat stays
others_stay : (v : ListsValue) (k : ℕ) (s : Seat) (x : Value) (m : ℕ) (t : Seat) → m ≢ k → (t ≡ s → s ≡ seat.Bool) → slot_at (lists_put v k s x) m t ≡ slot_at v m t
others_stay v k seat.Bool (value.Bool b) m seat.Bool ne once = ap (λ on. Variable (value.Bool on)) (get_or-set_other v.bits k m b false ne)
others_stay v k seat.Bool (value.Bool b) m (seat.Int i) ne once = refl
others_stay v k seat.Bool (value.Bool b) m (seat.Time i) ne once = refl
others_stay v k seat.Bool (value.Bool b) m (seat.Block i) ne once = refl
others_stay v k seat.Bool (value.Int n) m t ne once = refl
others_stay v k seat.Bool (value.Time n) m t ne once = refl
others_stay v k (seat.Int j) (value.Bool b) m t ne once = refl
others_stay v k (seat.Int j) (value.Int n) m seat.Bool ne once = refl
others_stay v k (seat.Int j) (value.Int n) m (seat.Int i) ne once = ap (λ w. Variable (value.Int w)) (get_or-set_other v.ints j i n (pos 0) (λ e. let never = once (ap seat.Int e) in absurd cc))
others_stay v k (seat.Int j) (value.Int n) m (seat.Time i) ne once = refl
others_stay v k (seat.Int j) (value.Int n) m (seat.Block i) ne once = refl
others_stay v k (seat.Int j) (value.Time n) m t ne once = refl
others_stay v k (seat.Time j) (value.Bool b) m t ne once = refl
others_stay v k (seat.Time j) (value.Int n) m t ne once = refl
others_stay v k (seat.Time j) (value.Time n) m seat.Bool ne once = refl
others_stay v k (seat.Time j) (value.Time n) m (seat.Int i) ne once = refl
others_stay v k (seat.Time j) (value.Time n) m (seat.Time i) ne once = ap (λ w. Variable (value.Time w)) (get_or-set_other v.times j i n 0 (λ e. let never = once (ap seat.Time e) in absurd cc))
others_stay v k (seat.Time j) (value.Time n) m (seat.Block i) ne once = refl
others_stay v k (seat.Block j) x m t ne once = refl

-- the same seat at two places is a BOOL's
only_bools : (seats : List Seat) (v : ListsValue) (k m : ℕ) (s t : Seat) → IsSeating seats v → slice_get seats k ≡ Some s → slice_get seats m ≡ Some t → m ≢ k → t ≡ s → s ≡ seat.Bool
only_bools seats v k m s t is at at' ne same = elim (is.apart m k s (at' ∙ ap Some same) at) [ inl bool ↦ bool | inr e ↦ absurd (ne e) ]

pub inside : (seats : List Seat) (v : ListsValue) (k : ℕ) (s : Seat) → IsSeating seats v → slice_get seats k ≡ Some s → k < length v.bits
inside seats v k s is at = let lt = slice_get_within seats k s at in let long = is.long in omega arith

-- what stands at a place, whatever else would stand there
read_there : (slots : List Slot) (k : ℕ) (s d : Slot) → slice_get slots k ≡ Some s → get_or slots k d ≡ s
read_there slots k s d at = get_or_from_slice_get slots k s d at

-- the slots once a value is put at a place
pub value_at_seat : (seats : List Seat) (v : ListsValue) (k : ℕ) (s : Seat) (x : Value) → IsSeating seats v → slice_get seats k ≡ Some s
    → slots_from 0 seats (lists_put v k s x) ≡ value_put (slots_from 0 seats v) k x
value_at_seat seats v k s x is at =
    let same : 0 + k ≡ k = omega arith in
    let slots = slots_from 0 seats v in
    one_changed 0 seats v (lists_put v k s x) k s at (λ m t at' ne. let here : 0 + m ≡ m = omega arith in rw here (others_stay v k s x m t ne (only_bools seats v k m s t is at at' ne)))
    ∙ ap (λ p. set slots k (slot_at (lists_put v k s x) p s)) same
    ∙ ap (set slots k) (put_slot v k s x (inside seats v k s is at) (is.within k s at))
    ∙ ap (λ w. set slots k (with_value w x)) (sym (read_there slots k (slot_at v k s) (Variable x) (slot_found seats v k s at)))

pub value_at_none : (seats : List Seat) (v : ListsValue) (k : ℕ) (x : Value) → slice_get seats k ≡ None → slots_from 0 seats v ≡ value_put (slots_from 0 seats v) k x
value_at_none seats v k x none =
    let slots = slots_from 0 seats v in
    sym (set_none slots k (with_value (get_or slots k (Variable x)) x) (no_slot seats v k none))

-- whether a variable of the value's kind stands at a place
pub kind_there : (seats : List Seat) (v : ListsValue) (k : ℕ) (s : Seat) (x : Value) → slice_get seats k ≡ Some s → (is_kind_of s x ≡ true) ↔ IsKindAt (slots_from 0 seats v) k x
kind_there seats v k s x at = (there s x (slot_found seats v k s at), back s x (slot_found seats v k s at))
  where
    slots : List Slot
    slots = slots_from 0 seats v

    found : (w : Value) (s : Slot) → slice_get (slots_from 0 seats v) k ≡ Some s → s ≡ Variable w → variable_at (slots_from 0 seats v) k ≡ Some w
    found w s here is = ap (option_and_then variable_of) here ∙ ap variable_of is

    there : (s : Seat) (x : Value) → slice_get (slots_from 0 seats v) k ≡ Some (slot_at v k s) → is_kind_of s x ≡ true → IsKindAt (slots_from 0 seats v) k x
    there seat.Bool (value.Bool b) here is = (value.Bool (bit_at v.bits k), found (value.Bool (bit_at v.bits k)) (slot_at v k seat.Bool) here refl, refl)
    there seat.Bool (value.Int n) here is = absurd cc
    there seat.Bool (value.Time n) here is = absurd cc
    there (seat.Int j) (value.Bool b) here is = absurd cc
    there (seat.Int j) (value.Int n) here is = (value.Int (get_or v.ints j (pos 0)), found (value.Int (get_or v.ints j (pos 0))) (slot_at v k (seat.Int j)) here refl, refl)
    there (seat.Int j) (value.Time n) here is = absurd cc
    there (seat.Time j) (value.Bool b) here is = absurd cc
    there (seat.Time j) (value.Int n) here is = absurd cc
    there (seat.Time j) (value.Time n) here is = (value.Time (get_or v.times j 0), found (value.Time (get_or v.times j 0)) (slot_at v k (seat.Time j)) here refl, refl)
    there (seat.Block j) x here is = absurd cc

    kinds : (w x : Value) (had : Value) → Some w ≡ Some had → kind_of had ≡ kind_of x → kind_of w ≡ kind_of x
    kinds w x had e same = ap kind_of (some_same e) ∙ same

    back : (s : Seat) (x : Value) → slice_get (slots_from 0 seats v) k ≡ Some (slot_at v k s) → IsKindAt (slots_from 0 seats v) k x → is_kind_of s x ≡ true
    back seat.Bool x here (had, is, same) = bool x (kinds (value.Bool (bit_at v.bits k)) x had (sym (ap (option_and_then variable_of) here) ∙ is) same)
      where
        bool : (x : Value) → kind_of (value.Bool (bit_at v.bits k)) ≡ kind_of x → is_kind_of seat.Bool x ≡ true
        bool (value.Bool b) e = refl
        bool (value.Int n) e = absurd cc
        bool (value.Time n) e = absurd cc
    back (seat.Int j) x here (had, is, same) = int x (kinds (value.Int (get_or v.ints j (pos 0))) x had (sym (ap (option_and_then variable_of) here) ∙ is) same)
      where
        int : (x : Value) → kind_of (value.Int (get_or v.ints j (pos 0))) ≡ kind_of x → is_kind_of (seat.Int j) x ≡ true
        int (value.Bool b) e = absurd cc
        int (value.Int n) e = refl
        int (value.Time n) e = absurd cc
    back (seat.Time j) x here (had, is, same) = time x (kinds (value.Time (get_or v.times j 0)) x had (sym (ap (option_and_then variable_of) here) ∙ is) same)
      where
        time : (x : Value) → kind_of (value.Time (get_or v.times j 0)) ≡ kind_of x → is_kind_of (seat.Time j) x ≡ true
        time (value.Bool b) e = absurd cc
        time (value.Int n) e = absurd cc
        time (value.Time n) e = refl
    back (seat.Block j) x here (had, is, same) =
        let none : None ≡ Some had = sym (ap (option_and_then variable_of) here) ∙ is in absurd cc

pub no_kind_there : (seats : List Seat) (v : ListsValue) (k : ℕ) (x : Value) → slice_get seats k ≡ None → IsKindAt (slots_from 0 seats v) k x → ⊥
no_kind_there seats v k x none (had, is, same) =
    let never : None ≡ Some had = sym (ap (option_and_then variable_of) (no_slot seats v k none)) ∙ is in absurd cc

-- a place keeps its seat once a value is put
pub seating_put : (seats : List Seat) (v : ListsValue) (k : ℕ) (s : Seat) (x : Value) → IsSeating seats v → slice_get seats k ≡ Some s → IsSeating seats (lists_put v k s x)
seating_put seats v k s x is at = record {
  long = bits s x ∙ is.long;
  within = λ m t at'. of s x m t at at' (is.within m t at');
  apart = is.apart;
}
  where
    bits : (s : Seat) (x : Value) → length (lists_put v k s x).bits ≡ length v.bits
    bits seat.Bool (value.Bool b) = length-set v.bits k b
    bits seat.Bool (value.Int n) = refl
    bits seat.Bool (value.Time t) = refl
    bits (seat.Int j) (value.Bool b) = refl
    bits (seat.Int j) (value.Int n) = refl
    bits (seat.Int j) (value.Time t) = refl
    bits (seat.Time j) (value.Bool b) = refl
    bits (seat.Time j) (value.Int n) = refl
    bits (seat.Time j) (value.Time t) = refl
    bits (seat.Block j) x = refl

    bit_kept : (b : Bool) (m : ℕ) (t : Seat) → slice_get seats k ≡ Some seat.Bool → slice_get seats m ≡ Some t → (t ≡ seat.Bool → ⊥) → bit_at (set v.bits k b) m ≡ bit_at v.bits m
    bit_kept b m t at at' other = get_or-set_other v.bits k m b false (λ e. other (some_same (sym at' ∙ ap (slice_get seats) e ∙ at)))

    of : (s : Seat) (x : Value) (m : ℕ) (t : Seat) → slice_get seats k ≡ Some s → slice_get seats m ≡ Some t → IsInLists v m t → IsInLists (lists_put v k s x) m t
    of seat.Bool (value.Bool b) m seat.Bool at at' h = tt
    of seat.Bool (value.Bool b) m (seat.Int i) at at' h = (h.0, bit_kept b m (seat.Int i) at at' (λ e. absurd cc) ∙ h.1)
    of seat.Bool (value.Bool b) m (seat.Time i) at at' h = (h.0, bit_kept b m (seat.Time i) at at' (λ e. absurd cc) ∙ h.1)
    of seat.Bool (value.Bool b) m (seat.Block i) at at' h = (h.0, bit_kept b m (seat.Block i) at at' (λ e. absurd cc) ∙ h.1)
    of seat.Bool (value.Int n) m t at at' h = h
    of seat.Bool (value.Time n) m t at at' h = h
    of (seat.Int j) (value.Bool b) m t at at' h = h
    of (seat.Int j) (value.Int n) m seat.Bool at at' h = tt
    of (seat.Int j) (value.Int n) m (seat.Int i) at at' h = (let long = length-set v.ints j n in let lt = h.0 in omega arith, h.1)
    of (seat.Int j) (value.Int n) m (seat.Time i) at at' h = h
    of (seat.Int j) (value.Int n) m (seat.Block i) at at' h = h
    of (seat.Int j) (value.Time n) m t at at' h = h
    of (seat.Time j) (value.Bool b) m t at at' h = h
    of (seat.Time j) (value.Int n) m t at at' h = h
    of (seat.Time j) (value.Time n) m seat.Bool at at' h = tt
    of (seat.Time j) (value.Time n) m (seat.Int i) at at' h = h
    of (seat.Time j) (value.Time n) m (seat.Time i) at at' h = (let long = length-set v.times j n in let lt = h.0 in omega arith, h.1)
    of (seat.Time j) (value.Time n) m (seat.Block i) at at' h = h
    of (seat.Block j) x m t at at' h = h

-- the block at a seat
pub block_found : (v : ListsValue) (k : ℕ) (s : Seat) → IsInLists v k s → block_in v s ≡ block_of (slot_at v k s)
block_found v k seat.Bool h = refl
block_found v k (seat.Int j) h = refl
block_found v k (seat.Time j) h = refl
block_found v k (seat.Block j) h = slice_get-get_or v.blocks j (instance_first SR) h.0

-- a block is put back at its seat
block_slot : (v : ListsValue) (k : ℕ) (s : Seat) (i : Instance) → IsInLists v k s → slot_at (lists_put_block v s i) k s ≡ with_block (slot_at v k s) i
block_slot v k seat.Bool i h = refl
block_slot v k (seat.Int j) i h = refl
block_slot v k (seat.Time j) i h = refl
block_slot v k (seat.Block j) i h = ap Block (get_or-set_same v.blocks j i (instance_first SR) h.0)

others_beside : (v : ListsValue) (s : Seat) (i : Instance) (m : ℕ) (t : Seat) → (t ≡ s → s ≡ seat.Bool) → slot_at (lists_put_block v s i) m t ≡ slot_at v m t
others_beside v seat.Bool i m t once = refl
others_beside v (seat.Int j) i m t once = refl
others_beside v (seat.Time j) i m t once = refl
others_beside v (seat.Block j) i m seat.Bool once = refl
others_beside v (seat.Block j) i m (seat.Int a) once = refl
others_beside v (seat.Block j) i m (seat.Time a) once = refl
others_beside v (seat.Block j) i m (seat.Block a) once = ap Block (get_or-set_other v.blocks j a i (instance_first SR) (λ e. let never = once (ap seat.Block e) in absurd cc))

pub block_at_seat : (seats : List Seat) (v : ListsValue) (k : ℕ) (s : Seat) (i : Instance) → IsSeating seats v → slice_get seats k ≡ Some s
    → slots_from 0 seats (lists_put_block v s i) ≡ block_put (slots_from 0 seats v) k i
block_at_seat seats v k s i is at =
    let same : 0 + k ≡ k = omega arith in
    let slots = slots_from 0 seats v in
    one_changed 0 seats v (lists_put_block v s i) k s at (λ m t at' ne. let here : 0 + m ≡ m = omega arith in rw here (others_beside v s i m t (only_bools seats v k m s t is at at' ne)))
    ∙ ap (λ p. set slots k (slot_at (lists_put_block v s i) p s)) same
    ∙ ap (set slots k) (block_slot v k s i (is.within k s at))
    ∙ ap (λ w. set slots k (with_block w i)) (sym (read_there slots k (slot_at v k s) (Block i) (slot_found seats v k s at)))

pub block_at_none : (seats : List Seat) (v : ListsValue) (k : ℕ) (i : Instance) → slice_get seats k ≡ None → slots_from 0 seats v ≡ block_put (slots_from 0 seats v) k i
block_at_none seats v k i none =
    let slots = slots_from 0 seats v in
    sym (set_none slots k (with_block (get_or slots k (Block i)) i) (no_slot seats v k none))

pub seating_block : (seats : List Seat) (v : ListsValue) (s : Seat) (i : Instance) → IsSeating seats v → IsSeating seats (lists_put_block v s i)
seating_block seats v seat.Bool i is = is
seating_block seats v (seat.Int j) i is = is
seating_block seats v (seat.Time j) i is = is
seating_block seats v (seat.Block j) i is = record {
  long = is.long;
  within = λ m t at. of m t (is.within m t at);
  apart = is.apart;
}
  where
    of : (m : ℕ) (t : Seat) → IsInLists v m t → IsInLists (lists_put_block v (seat.Block j) i) m t
    of m seat.Bool h = tt
    of m (seat.Int a) h = h
    of m (seat.Time a) h = h
    of m (seat.Block a) h = (let long = length-set v.blocks j i in let lt = h.0 in omega arith, h.1)

-- what is read by a seat
pub variable_found : (seats : List Seat) (v : ListsValue) (k : ℕ) (s : Seat) → slice_get seats k ≡ Some s → variable_of (slot_at v k s) ≡ variable_at (slots_from 0 seats v) k
variable_found seats v k s at = ap (option_and_then variable_of) (sym (slot_found seats v k s at))

pub no_variable : (seats : List Seat) (v : ListsValue) (k : ℕ) → slice_get seats k ≡ None → None ≡ variable_at (slots_from 0 seats v) k
no_variable seats v k at = ap (option_and_then variable_of) (sym (no_slot seats v k at))

pub block_read : (seats : List Seat) (v : ListsValue) (k : ℕ) (s : Seat) → IsSeating seats v → slice_get seats k ≡ Some s → block_in v s ≡ block_at (slots_from 0 seats v) k
block_read seats v k s is at = block_found v k s (is.within k s at) ∙ ap (option_and_then block_of) (sym (slot_found seats v k s at))

pub no_block : (seats : List Seat) (v : ListsValue) (k : ℕ) → slice_get seats k ≡ None → None ≡ block_at (slots_from 0 seats v) k
no_block seats v k at = ap (option_and_then block_of) (sym (no_slot seats v k at))

-- a value of the kind that stands there is put as it is, and no other
pub put_is_set : (slots : List Slot) (k : ℕ) (x : Value) → IsKindAt slots k x → value_put slots k x ≡ set slots k (Variable x)
put_is_set slots k x (had, is, same) =
    let here = slot_of_variable slots k had is in
    ap (λ w. set slots k (with_value w x)) (read_there slots k (Variable had) (Variable x) here) ∙ ap (λ w. set slots k (Variable w)) (of_kind had x same)
  where
    of_kind : (u v : Value) → kind_of u ≡ kind_of v → of_same_kind u v ≡ v
    of_kind (value.Bool a) (value.Bool b) e = refl
    of_kind (value.Bool a) (value.Int b) e = absurd cc
    of_kind (value.Bool a) (value.Time b) e = absurd cc
    of_kind (value.Int a) (value.Bool b) e = absurd cc
    of_kind (value.Int a) (value.Int b) e = refl
    of_kind (value.Int a) (value.Time b) e = absurd cc
    of_kind (value.Time a) (value.Bool b) e = absurd cc
    of_kind (value.Time a) (value.Int b) e = absurd cc
    of_kind (value.Time a) (value.Time b) e = refl

pub put_is_none : (slots : List Slot) (k : ℕ) (x : Value) → (IsKindAt slots k x → ⊥) → value_put slots k x ≡ slots
put_is_none slots k x other = by (slice_get slots k) refl
  where
    same : (s : Slot) → (variable_of s ≡ variable_of s) → ((w : Value) → s ≡ Variable w → kind_of w ≡ kind_of x → ⊥) → with_value s x ≡ s
    same (Block i) e never = refl
    same (Variable w) e never = of w x (λ k'. never w refl k')
      where
        of : (u v : Value) → (kind_of u ≡ kind_of v → ⊥) → with_value (Variable u) v ≡ Variable u
        of (value.Bool a) (value.Bool b) unlike = absurd (unlike refl)
        of (value.Bool a) (value.Int b) unlike = refl
        of (value.Bool a) (value.Time b) unlike = refl
        of (value.Int a) (value.Bool b) unlike = refl
        of (value.Int a) (value.Int b) unlike = absurd (unlike refl)
        of (value.Int a) (value.Time b) unlike = refl
        of (value.Time a) (value.Bool b) unlike = refl
        of (value.Time a) (value.Int b) unlike = refl
        of (value.Time a) (value.Time b) unlike = absurd (unlike refl)

    by : (o : Option Slot) → slice_get slots k ≡ o → value_put slots k x ≡ slots
    by None none = set_none slots k (with_value (get_or slots k (Variable x)) x) none
    by (Some s) some =
        let here = read_there slots k s (Variable x) some in
        ap (λ w. set slots k (with_value w x)) here
        ∙ ap (set slots k) (same s refl (λ w is kinds. other (w, ap (option_and_then variable_of) some ∙ ap variable_of is, kinds)))
        ∙ ap (set slots k) (sym here) ∙ set-get_or slots k (Variable x)

-- so the kinds stay
pub put_keeps : (ds : List Declaration) (slots : List Slot) (k : ℕ) (x : Value) (b : Bool) → (b ≡ true) ↔ IsKindAt slots k x → AreSlotsOf ds slots → AreSlotsOf ds (value_put slots k x)
put_keeps ds slots k x true answer h =
    let at = answer.0 refl in
    subst (AreSlotsOf ds) (sym (put_is_set slots k x at)) (AreSlotsOf-set ds slots k at.0 x at.1 at.2 h)
put_keeps ds slots k x false answer h =
    subst (AreSlotsOf ds) (sym (put_is_none slots k x (λ at. let on = answer.1 at in absurd cc))) h

pub put_stored : (slots : List Slot) (k : ℕ) (x : Value) → IsKindAt slots k x → slice_get (value_put slots k x) k ≡ Some (Variable x)
put_stored slots k x at =
    ap (λ l. slice_get l k) (put_is_set slots k x at)
    ∙ slice_get-set_same slots k (Variable x) (slice_get_within slots k (Variable at.0) (slot_of_variable slots k at.0 at.1))
