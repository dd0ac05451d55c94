-- One more place: what stands at those before it stays.
use Rattle.std.proofs.Common.{◌≡◌, ℕ, suc, ◌+◌, ◌<◌, ◌⊎◌, inl, inr, List, [], ◌∷◌, ◌++◌, Bool, false, Some, pos, length, get_or, slice_get, refl, sym, ap, ◌∙◌, subst, arith}
use Rattle.std.proofs.lemmas.List.{get_or_append_left, length-append}
use Rattle.std.proofs.lemmas.Option.{get_or_from_slice_get}
use Rattle.lists.proofs.Places.{push_cases, push_here}
use Rattle.scan_steps.proofs.Seating.{inside}
use Rattle.std_blocks.specs.declared.value.Value.TheVariants as value
use Rattle.std_blocks.specs.declared.block_type.BlockType.{BlockType}
use Rattle.std_blocks.specs.declared.block_type.BlockType.TheVariants.{SR}
use Rattle.scan_steps.specs.declared.seat.Seat.{Seat}
use Rattle.scan_steps.specs.declared.seat.Seat.TheVariants as seat
use Rattle.scan_steps.specs.declared.slot.Slot.{Slot}
use Rattle.scan_steps.specs.declared.slot.Slot.TheVariants.{Variable, Block}
use Rattle.scan_steps.specs.First.{instance_first}
use Rattle.scan_steps.specs.Conducting.{bit_at}
use Rattle.scan_steps.specs.Steps.Seats.{ListsValue, slot_at, slots_from, IsInLists, IsSeating}

-- a list begins with another
record Begins {X : Type 0} (xs ys : List X) (d : X) : Type 0 where
  longer : (n : ℕ) → n < length xs → n < length ys
  same : (n : ℕ) → n < length xs → get_or ys n d ≡ get_or xs n d

all_same : {X : Type 0} (xs : List X) (d : X) → Begins xs xs d
all_same xs d = record { longer = λ n lt. lt; same = λ n lt. refl }

one_more : {X : Type 0} (xs : List X) (x d : X) → Begins xs (xs ++ x ∷ []) d
one_more xs x d = record { longer = λ n lt. (let long = length-append xs (x ∷ []) in let one : length (x ∷ []) ≡ 1 = refl in omega arith); same = λ n lt. get_or_append_left xs (x ∷ []) d n lt }

-- the last of a list
last_there : {X : Type 0} (xs : List X) (x d : X) → get_or (xs ++ x ∷ []) (length xs) d ≡ x
last_there xs x d = get_or_from_slice_get (xs ++ x ∷ []) (length xs) x d (push_here xs x)

last_in : {X : Type 0} (xs : List X) (x : X) → length xs < length (xs ++ x ∷ [])
last_in xs x = let long = length-append xs (x ∷ []) in let one : length (x ∷ []) ≡ 1 = refl in omega arith

-- lists with one more place
record Grows (v w : ListsValue) : Type 0 where
  bits : w.bits ≡ v.bits ++ false ∷ []
  ints : Begins v.ints w.ints (pos 0)
  times : Begins v.times w.times 0
  blocks : Begins v.blocks w.blocks (instance_first SR)

old_bit : (v w : ListsValue) (m : ℕ) → Grows v w → m < length v.bits → bit_at w.bits m ≡ bit_at v.bits m
old_bit v w m grows lt = ap (λ b. bit_at b m) grows.bits ∙ get_or_append_left v.bits (false ∷ []) false m lt

-- what stood at a place stays
old_slot : (v w : ListsValue) (m : ℕ) (t : Seat) → Grows v w → m < length v.bits → IsInLists v m t → slot_at w m t ≡ slot_at v m t
old_slot v w m seat.Bool grows lt h = ap (λ b. Variable (value.Bool b)) (old_bit v w m grows lt)
old_slot v w m (seat.Int i) grows lt h = ap (λ n. Variable (value.Int n)) (grows.ints.same i h.0)
old_slot v w m (seat.Time i) grows lt h = ap (λ n. Variable (value.Time n)) (grows.times.same i h.0)
old_slot v w m (seat.Block i) grows lt h = ap Block (grows.blocks.same i h.0)

old_in : (v w : ListsValue) (m : ℕ) (t : Seat) → Grows v w → m < length v.bits → IsInLists v m t → IsInLists w m t
old_in v w m seat.Bool grows lt h = tt
old_in v w m (seat.Int i) grows lt h = (grows.ints.longer i h.0, old_bit v w m grows lt ∙ h.1)
old_in v w m (seat.Time i) grows lt h = (grows.times.longer i h.0, old_bit v w m grows lt ∙ h.1)
old_in v w m (seat.Block i) grows lt h = (grows.blocks.longer i h.0, old_bit v w m grows lt ∙ h.1)

one_more_slot : (n : ℕ) (seats : List Seat) (s : Seat) (v w : ListsValue) → ((m : ℕ) (t : Seat) → slice_get seats m ≡ Some t → slot_at w (n + m) t ≡ slot_at v (n + m) t)
    → slots_from n (seats ++ s ∷ []) w ≡ slots_from n seats v ++ slot_at w (n + length seats) s ∷ []
one_more_slot n [] s v w same = let here : n ≡ n + 0 = omega arith in ap (λ p. slot_at w p s ∷ []) here
one_more_slot n (a ∷ seats) s v w same =
    let here : n ≡ n + 0 = omega arith in
    let further : n + 1 + length seats ≡ n + suc (length seats) = omega arith in
    let head : slot_at w n a ≡ slot_at v n a = rw (sym here) at (same 0 a refl) in
    ap (λ x. x ∷ slots_from (n + 1) (seats ++ s ∷ []) w) head
    ∙ ap (λ l. slot_at v n a ∷ l) (one_more_slot (n + 1) seats s v w (λ m t at. let along : n + suc m ≡ n + 1 + m = omega arith in rw along at (same (suc m) t at)))
    ∙ ap (λ p. slot_at v n a ∷ slots_from (n + 1) seats v ++ slot_at w p s ∷ []) further

grown_slots : (seats : List Seat) (v w : ListsValue) (s : Seat) → IsSeating seats v → Grows v w
    → slots_from 0 (seats ++ s ∷ []) w ≡ slots_from 0 seats v ++ slot_at w (length seats) s ∷ []
grown_slots seats v w s is grows =
    let none : 0 + length seats ≡ length seats = omega arith in
    one_more_slot 0 seats s v w (λ m t at. let here : 0 + m ≡ m = omega arith in rw here (old_slot v w m t grows (inside seats v m t is at) (is.within m t at)))
    ∙ ap (λ p. slots_from 0 seats v ++ slot_at w p s ∷ []) none

grown_seating : (seats : List Seat) (v w : ListsValue) (s : Seat) → IsSeating seats v → Grows v w → IsInLists w (length seats) s
    → ((k : ℕ) → slice_get seats k ≡ Some s → s ≡ seat.Bool) → IsSeating (seats ++ s ∷ []) w
grown_seating seats v w s is grows new fresh = record {
  long = ap (λ b. length b) grows.bits ∙ length-append v.bits (false ∷ []) ∙ ap (λ n. n + 1) is.long ∙ sym (length-append seats (s ∷ []));
  within = λ m t at. elim (push_cases seats s m t at) [
    | inl old ↦ old_in v w m t grows (inside seats v m t is old) (is.within m t old)
    | inr end ↦ subst (λ p. IsInLists w p t) (sym end.0) (subst (IsInLists w (length seats)) (sym end.1) new)
  ];
  apart = λ j k t at at'. both j k t (push_cases seats s j t at) (push_cases seats s k t at');
}
  where
    both : (j k : ℕ) (t : Seat) → (slice_get seats j ≡ Some t) ⊎ ((j ≡ length seats) × (t ≡ s)) → (slice_get seats k ≡ Some t) ⊎ ((k ≡ length seats) × (t ≡ s)) → (t ≡ seat.Bool) ⊎ (j ≡ k)
    both j k t (inl old) (inl old') = is.apart j k t old old'
    both j k t (inl old) (inr end) = inl (end.1 ∙ fresh j (old ∙ ap Some end.1))
    both j k t (inr end) (inl old) = inl (end.1 ∙ fresh k (old ∙ ap Some end.1))
    both j k t (inr end) (inr end') = inr (end.0 ∙ sym end'.0)

-- one more place, with this slot
pub record IsOneMore (seats : List Seat) (v : ListsValue) (s : Seat) (w : ListsValue) (slot : Slot) : Type 0 where
  pub seating : IsSeating (seats ++ s ∷ []) w
  pub slots : slots_from 0 (seats ++ s ∷ []) w ≡ slots_from 0 seats v ++ slot ∷ []

new_bit : (seats : List Seat) (v w : ListsValue) → IsSeating seats v → Grows v w → bit_at w.bits (length seats) ≡ false
new_bit seats v w is grows = ap (λ b. bit_at b (length seats)) grows.bits ∙ ap (bit_at (v.bits ++ false ∷ [])) (sym is.long) ∙ last_there v.bits false false

is_one_more : (seats : List Seat) (v w : ListsValue) (s : Seat) (slot : Slot) → IsSeating seats v → Grows v w → IsInLists w (length seats) s
    → ((k : ℕ) → slice_get seats k ≡ Some s → s ≡ seat.Bool) → slot_at w (length seats) s ≡ slot → IsOneMore seats v s w slot
is_one_more seats v w s slot is grows new fresh same = record {
  seating = grown_seating seats v w s is grows new fresh;
  slots = grown_slots seats v w s is grows ∙ ap (λ x. slots_from 0 seats v ++ x ∷ []) same;
}

abbrev pub with_place : ListsValue → ListsValue
with_place v = record v { bits = v.bits ++ false ∷ [] }

pub bool_more : (seats : List Seat) (v : ListsValue) → IsSeating seats v → IsOneMore seats v seat.Bool (with_place v) (Variable (value.Bool false))
bool_more seats v is = is_one_more seats v (with_place v) seat.Bool (Variable (value.Bool false)) is grows tt (λ k at. refl) (ap (λ b. Variable (value.Bool b)) (new_bit seats v (with_place v) is grows))
  where
    grows : Grows v (with_place v)
    grows = record { bits = refl; ints = all_same v.ints (pos 0); times = all_same v.times 0; blocks = all_same v.blocks (instance_first SR) }

abbrev pub with_int : ListsValue → ListsValue
with_int v = record v { bits = v.bits ++ false ∷ []; ints = v.ints ++ pos 0 ∷ [] }

pub int_more : (seats : List Seat) (v : ListsValue) → IsSeating seats v → IsOneMore seats v (seat.Int (length v.ints)) (with_int v) (Variable (value.Int (pos 0)))
int_more seats v is =
    is_one_more seats v (with_int v) (seat.Int (length v.ints)) (Variable (value.Int (pos 0))) is grows (last_in v.ints (pos 0), new_bit seats v (with_int v) is grows)
    (λ k at. absurd (let lt = (is.within k (seat.Int (length v.ints)) at).0 in omega arith)) (ap (λ n. Variable (value.Int n)) (last_there v.ints (pos 0) (pos 0)))
  where
    grows : Grows v (with_int v)
    grows = record { bits = refl; ints = one_more v.ints (pos 0) (pos 0); times = all_same v.times 0; blocks = all_same v.blocks (instance_first SR) }

abbrev pub with_time : ListsValue → ListsValue
with_time v = record v { bits = v.bits ++ false ∷ []; times = v.times ++ 0 ∷ [] }

pub time_more : (seats : List Seat) (v : ListsValue) → IsSeating seats v → IsOneMore seats v (seat.Time (length v.times)) (with_time v) (Variable (value.Time 0))
time_more seats v is =
    is_one_more seats v (with_time v) (seat.Time (length v.times)) (Variable (value.Time 0)) is grows (last_in v.times 0, new_bit seats v (with_time v) is grows)
    (λ k at. absurd (let lt = (is.within k (seat.Time (length v.times)) at).0 in omega arith)) (ap (λ n. Variable (value.Time n)) (last_there v.times 0 0))
  where
    grows : Grows v (with_time v)
    grows = record { bits = refl; ints = all_same v.ints (pos 0); times = one_more v.times 0 0; blocks = all_same v.blocks (instance_first SR) }

abbrev pub with_instance : ListsValue → BlockType → ListsValue
with_instance v b = record v { bits = v.bits ++ false ∷ []; blocks = v.blocks ++ instance_first b ∷ [] }

pub block_more : (seats : List Seat) (v : ListsValue) (b : BlockType) → IsSeating seats v → IsOneMore seats v (seat.Block (length v.blocks)) (with_instance v b) (Block (instance_first b))
block_more seats v b is =
    is_one_more seats v (with_instance v b) (seat.Block (length v.blocks)) (Block (instance_first b)) is grows (last_in v.blocks (instance_first b), new_bit seats v (with_instance v b) is grows)
    (λ k at. absurd (let lt = (is.within k (seat.Block (length v.blocks)) at).0 in omega arith)) (ap Block (last_there v.blocks (instance_first b) (instance_first SR)))
  where
    grows : Grows v (with_instance v b)
    grows = record { bits = refl; ints = all_same v.ints (pos 0); times = all_same v.times 0; blocks = one_more v.blocks (instance_first b) (instance_first SR) }

pub no_seats : (bits : List Bool) → bits ≡ [] → IsSeating [] (record { bits = []; ints = []; times = []; blocks = [] })
no_seats bits is = record { long = refl; within = λ k s at. absurd cc; apart = λ j k s at at'. absurd cc }
