-- Slots that are the same but for counts beyond their limits, and what is read of them.
use Rattle.std.proofs.Common.{◌≡◌, ◌≢◌, ◌⊎◌, inl, inr, ℕ, List, [], ◌∷◌, Bool, true, false, Option, Some, None, All, Contains, MatchOption, slice_get, set, length, length-set, refl, sym, ap, ◌∙◌, subst, arith}
use Rattle.std.specs.Prelude.{codes, if◌then◌else◌, slice_index_or}
use Rattle.std.specs.List.{before_first, after_first}
use Rattle.std.specs.Option.{option_map, option_and_then}
use Rattle.std.specs.Str.{bytes_eq, str_to_ascii_lowercase}
use Rattle.std.proofs.lemmas.Bool.{cases_eq, cases_lt}
use Rattle.std.proofs.lemmas.Option.{slice_get_past}
use Rattle.std.proofs.lemmas.Slice.Eq.{bytes_eq-Decides}
use Rattle.words.specs.Chars.{same_word}
use Rattle.lists.proofs.Places.{slice_get-set_same, slice_get-set_other}
use Rattle.lists.proofs.Members.{at_contains, all_at}
use Rattle.drawings.specs.declared.drawn_box.Operand.{Operand}
use Rattle.network.specs.declared.element.Element.TheVariants.{Box}
use Rattle.network.specs.Links.{Diagram}
use Rattle.std_blocks.specs.declared.block_type.BlockType.{BlockType}
use Rattle.std_blocks.specs.declared.block_type.BlockType.TheVariants.{CTU, CTD}
use Rattle.std_blocks.specs.declared.pin.Field.{Field}
use Rattle.std_blocks.specs.declared.pin.Field.TheVariants.{Bit, Int, Time}
use Rattle.std_blocks.specs.declared.pin.Pin.{Pin}
use Rattle.std_blocks.specs.declared.value.Value.{Value}
use Rattle.std_blocks.specs.declared.value.Value.TheVariants.{Bool as BoolValue}
use Rattle.std_blocks.specs.Pins.{pin_of, pins_of, field_value, named}
use Rattle.declared_names.specs.declared.declarations.Declaration.{Declaration}
use Rattle.declared_names.specs.Names.{place_of, is_dot}
use Rattle.name_faults.specs.Literals.{literal_value}
use Rattle.scan_steps.specs.declared.slot.Instance.{Instance}
use Rattle.scan_steps.specs.declared.slot.Slot.{Slot}
use Rattle.scan_steps.specs.declared.slot.Slot.TheVariants.{Variable, Block}
use Rattle.scan_steps.specs.Values.{is_true}
use Rattle.power_flow.specs.Meaning.{stored}
use Rattle.power_flow.specs.Values.{value_at, value_of, value_or, text_value, slot_value, shown_at}
use Rattle.needed_networks.specs.declared.count_limit.CountLimit.{CountLimit}
use Rattle.needed_networks.specs.declared.count_limit.CountLimit.TheVariants.{Whole, UpTo, FromZero}
use Rattle.needed_networks.specs.Needs.{IsReadAt}
use Rattle.needed_networks.specs.Counts.{AreCounters, HidesCounts, IsLimited, MayLimit, ReadsNoCount, ShowsNoCount, StoresNoCount, limit_at, limited_at, limited_instance, limited_slot}
use Rattle.needed_networks.proofs.Values.{ReadsAlike, ShowsAlike}

-- the slots are the same as far as counts matter
pub record AreNear (limits : List CountLimit) (xs ys : List Slot) : Type 0 where
  pub long : length ys ≡ length xs
  pub same : (k : ℕ) → limited_at limits xs k ≡ limited_at limits ys k

pub limit_cases : (limit : CountLimit) → (limit ≡ Whole) ⊎ (limit ≢ Whole)
limit_cases Whole = inl refl
limit_cases (UpTo most) = inr (λ e. cc)
limit_cases FromZero = inr (λ e. cc)

-- what holds of all holds of what is in the list
pub all_found : {X : Type 0} (P : X → Type 0) (xs : List X) (x : X) → All P xs → Contains xs x → P x
all_found P xs x all in' = let at = at_contains xs x in' in all_at P xs at.0 x all at.1

whole_option : (o : Option Slot) → option_map (limited_slot Whole) o ≡ o
whole_option None = refl
whole_option (Some (Variable v)) = refl
whole_option (Some (Block i)) = refl

-- where there is no limit they are the same
pub same_whole : (limits : List CountLimit) (xs ys : List Slot) (k : ℕ) → AreNear limits xs ys → limit_at limits k ≡ Whole → slice_get xs k ≡ slice_get ys k
same_whole limits xs ys k near is =
    sym (whole_option (slice_get xs k)) ∙ sym (ap (λ l. option_map (limited_slot l) (slice_get xs k)) is) ∙ near.same k
    ∙ ap (λ l. option_map (limited_slot l) (slice_get ys k)) is ∙ whole_option (slice_get ys k)

-- where one has a block the other has one
pub block_back : (limit : CountLimit) (o p : Option Slot) (i : Instance) → option_map (limited_slot limit) o ≡ option_map (limited_slot limit) p → o ≡ Some (Block i)
    → (j : Instance) × (p ≡ Some (Block j)) × (limited_instance limit i ≡ limited_instance limit j)
block_back limit o None i near is = absurd cc
block_back limit o (Some (Variable v)) i near is = absurd cc
block_back limit o (Some (Block j)) i near is = (j, refl, (let e : Some (Block (limited_instance limit i)) ≡ Some (Block (limited_instance limit j)) = sym (ap (option_map (limited_slot limit)) is) ∙ near in cc))

-- what a block shows at a pin that is no number
shown_true : (i j : Instance) (left : Bool) (field : Field) → i.outputs.bits ≡ j.outputs.bits
    → is_true (if left then None else Some (field_value i.outputs field)) ≡ is_true (if left then None else Some (field_value j.outputs field))
shown_true i j true field bits = refl
shown_true i j false (Bit k) bits = ap (λ (l : List Bool). slice_index_or l k false) bits
shown_true i j false Int bits = refl
shown_true i j false Time bits = refl

block_true : (limit : CountLimit) (i j : Instance) (pin : List ℕ) → limited_instance limit i ≡ limited_instance limit j → is_true (slot_value (Block i) pin) ≡ is_true (slot_value (Block j) pin)
block_true limit i j [] near = refl
block_true limit i j (c ∷ pin) near =
    let block : i.state.block ≡ j.state.block = ap (λ (x : Instance). x.state.block) near in
    let bits : i.outputs.bits ≡ j.outputs.bits = ap (λ (x : Instance). x.outputs.bits) near in
    ap (λ b. is_true (option_and_then (shown_at i.outputs) (pin_of b (c ∷ pin)))) block ∙ go bits (pin_of j.state.block (c ∷ pin))
  where
    go : i.outputs.bits ≡ j.outputs.bits → (o : Option Pin) → is_true (option_and_then (shown_at i.outputs) o) ≡ is_true (option_and_then (shown_at j.outputs) o)
    go bits None = refl
    go bits (Some p) = shown_true i j p.left p.field bits

-- what a place shows there
option_true : (limit : CountLimit) (o p : Option Slot) (pin : List ℕ) → option_map (limited_slot limit) o ≡ option_map (limited_slot limit) p
    → is_true (option_and_then (λ s. slot_value s pin) o) ≡ is_true (option_and_then (λ s. slot_value s pin) p)
option_true limit None None pin near = refl
option_true limit None (Some y) pin near = absurd cc
option_true limit (Some x) None pin near = absurd cc
option_true limit (Some (Variable v)) (Some (Variable w)) pin near = let e : v ≡ w = cc in ap (λ x. is_true (slot_value (Variable x) pin)) e
option_true limit (Some (Variable v)) (Some (Block j)) pin near = absurd cc
option_true limit (Some (Block i)) (Some (Variable w)) pin near = absurd cc
option_true limit (Some (Block i)) (Some (Block j)) pin near = block_true limit i j pin (let e : Some (Block (limited_instance limit i)) ≡ Some (Block (limited_instance limit j)) = near in cc)

pub value_true : (ds : List Declaration) (limits : List CountLimit) (xs ys : List Slot) (name pin : List ℕ) → AreNear limits xs ys
    → is_true (value_at ds xs name pin) ≡ is_true (value_at ds ys name pin)
value_true ds limits xs ys name pin near = go (place_of ds name)
  where
    go : (o : Option ℕ) → is_true (option_and_then (λ k. option_and_then (λ s. slot_value s pin) (slice_get xs k)) o) ≡ is_true (option_and_then (λ k. option_and_then (λ s. slot_value s pin) (slice_get ys k)) o)
    go None = refl
    go (Some k) = option_true (limit_at limits k) (slice_get xs k) (slice_get ys k) pin (near.same k)

-- Q of a counter
up_q : (i : Instance) → i.state.block ≡ CTU → slot_value (Block i) (codes "Q") ≡ Some (BoolValue (slice_index_or i.outputs.bits 0 false))
unfolding pin_of
up_q i is = ap (λ b. option_and_then (shown_at i.outputs) (pin_of b (codes "Q"))) is

down_q : (i : Instance) → i.state.block ≡ CTD → slot_value (Block i) (codes "Q") ≡ Some (BoolValue (slice_index_or i.outputs.bits 0 false))
unfolding pin_of
down_q i is = ap (λ b. option_and_then (shown_at i.outputs) (pin_of b (codes "Q"))) is

block_q : (limit : CountLimit) (i j : Instance) → limited_instance limit i ≡ limited_instance limit j → MayLimit limit i.state.block → slot_value (Block i) (codes "Q") ≡ slot_value (Block j) (codes "Q")
block_q Whole i j near may = ap (λ x. slot_value (Block x) (codes "Q")) near
block_q (UpTo most) i j near may =
    up_q i may ∙ ap (λ (x : Instance). Some (BoolValue (slice_index_or x.outputs.bits 0 false))) near ∙ sym (up_q j (sym (ap (λ (x : Instance). x.state.block) near) ∙ may))
block_q FromZero i j near may =
    down_q i may ∙ ap (λ (x : Instance). Some (BoolValue (slice_index_or x.outputs.bits 0 false))) near ∙ sym (down_q j (sym (ap (λ (x : Instance). x.state.block) near) ∙ may))

option_q : (limit : CountLimit) (o p : Option Slot) → option_map (limited_slot limit) o ≡ option_map (limited_slot limit) p → ((i : Instance) → o ≡ Some (Block i) → MayLimit limit i.state.block)
    → option_and_then (λ s. slot_value s (codes "Q")) o ≡ option_and_then (λ s. slot_value s (codes "Q")) p
option_q limit None None near may = refl
option_q limit None (Some y) near may = absurd cc
option_q limit (Some x) None near may = absurd cc
option_q limit (Some (Variable v)) (Some (Variable w)) near may = let e : v ≡ w = cc in ap (λ x. slot_value (Variable x) (codes "Q")) e
option_q limit (Some (Variable v)) (Some (Block j)) near may = absurd cc
option_q limit (Some (Block i)) (Some (Variable w)) near may = absurd cc
option_q limit (Some (Block i)) (Some (Block j)) near may =
    block_q limit i j (let e : Some (Block (limited_instance limit i)) ≡ Some (Block (limited_instance limit j)) = near in cc) (may i refl)

-- names that are the same in either case are of one pin
named_same : (es : List (List ℕ × Pin)) (a b : List ℕ) → str_to_ascii_lowercase a ≡ str_to_ascii_lowercase b → named es a ≡ named es b
named_same [] a b lower = refl
named_same (e ∷ es) a b lower =
    ap (λ l. if bytes_eq l (str_to_ascii_lowercase e.0) then Some e.1 else named es a) lower
    ∙ ap (λ o. if bytes_eq (str_to_ascii_lowercase b) (str_to_ascii_lowercase e.0) then Some e.1 else o) (named_same es a b lower)

pub pin_same : (block : BlockType) (a b : List ℕ) → same_word a b ≡ true → pin_of block a ≡ pin_of block b
unfolding pin_of
pin_same block a b same = named_same (pins_of block) a b ((bytes_eq-Decides (str_to_ascii_lowercase a) (str_to_ascii_lowercase b)).0 same)

-- one that is Q in either case shows what Q does
slot_q : (s : Slot) (pin : List ℕ) → same_word pin (codes "Q") ≡ true → slot_value s pin ≡ slot_value s (codes "Q")
slot_q s [] same = absurd cc
slot_q (Variable v) (c ∷ pin) same = refl
slot_q (Block i) (c ∷ pin) same = ap (option_and_then (shown_at i.outputs)) (pin_same i.state.block (c ∷ pin) (codes "Q") same)

place_q : (o : Option Slot) (pin : List ℕ) → same_word pin (codes "Q") ≡ true → option_and_then (λ s. slot_value s pin) o ≡ option_and_then (λ s. slot_value s (codes "Q")) o
place_q None pin same = refl
place_q (Some s) pin same = slot_q s pin same

-- the value at a name, of a limited counter at Q alone
pub value_near : (ds : List Declaration) (limits : List CountLimit) (xs ys : List Slot) (name pin : List ℕ) → AreNear limits xs ys → AreCounters limits xs
    → ((k : ℕ) → place_of ds name ≡ Some k → IsLimited limits k → same_word pin (codes "Q") ≡ true) → value_at ds xs name pin ≡ value_at ds ys name pin
value_near ds limits xs ys name pin near counters shows = go (place_of ds name) refl
  where
    at_place : (k : ℕ) → place_of ds name ≡ Some k → option_and_then (λ s. slot_value s pin) (slice_get xs k) ≡ option_and_then (λ s. slot_value s pin) (slice_get ys k)
    at_place k is = elim (limit_cases (limit_at limits k)) [
      | inl whole ↦ ap (option_and_then (λ s. slot_value s pin)) (same_whole limits xs ys k near whole)
      | inr limited ↦
          place_q (slice_get xs k) pin (shows k is limited)
          ∙ option_q (limit_at limits k) (slice_get xs k) (slice_get ys k) (near.same k) (λ i at. counters k i at)
          ∙ sym (place_q (slice_get ys k) pin (shows k is limited))
    ]

    go : (o : Option ℕ) → place_of ds name ≡ o
        → option_and_then (λ k. option_and_then (λ s. slot_value s pin) (slice_get xs k)) o ≡ option_and_then (λ k. option_and_then (λ s. slot_value s pin) (slice_get ys k)) o
    go None e = refl
    go (Some k) e = at_place k e

-- what a network reads that hides counts
pub reads_near : (ds : List Declaration) (limits : List CountLimit) (d : Diagram) (xs ys : List Slot) → HidesCounts ds limits d → AreNear limits xs ys → AreCounters limits xs → ReadsAlike ds d xs ys
unfolding value_of text_value
reads_near ds limits d xs ys hides near counters = record {
  contacts = λ c in'. value_true ds limits xs ys (before_first is_dot c.name) (after_first is_dot c.name) near;
  bits = λ b pin o in' drawn side is. value_true ds limits xs ys (before_first is_dot o.text) (after_first is_dot o.text) near;
  texts = λ b pin o in' drawn side is.
      let whole : ShowsNoCount ds limits (Box b) = all_found (ShowsNoCount ds limits) d.elements (Box b) hides.shows in' in
      let quiet = all_found (ReadsNoCount ds limits) b.pins pin whole.0 drawn in
      let none = subst (λ (w : Option Operand). MatchOption w (Unit {0}) (λ q. (k : ℕ) → IsReadAt ds q.text k → IsLimited limits k → same_word (after_first is_dot q.text) (codes "Q") ≡ true)) is (quiet side) in
      ap (value_or (literal_value o.text)) (value_near ds limits xs ys (before_first is_dot o.text) (after_first is_dot o.text) near counters none);
}

-- what its boxes show and store
pub shows_near : (ds : List Declaration) (limits : List CountLimit) (d : Diagram) (xs ys : List Slot) → HidesCounts ds limits d → AreNear limits xs ys → AreCounters limits xs → ShowsAlike ds d xs ys
shows_near ds limits d xs ys hides near counters = record {
  lamps = λ b name in'. value_true ds limits xs ys b.instance name near;
  stored = λ b pin o in' drawn side is.
      let own : ShowsNoCount ds limits (Box b) = all_found (ShowsNoCount ds limits) d.elements (Box b) hides.shows in' in
      value_near ds limits xs ys b.instance pin.name near counters
      (λ k at limited. subst (λ (w : Option Operand). MatchOption w (Unit {0}) (λ q. same_word pin.name (codes "Q") ≡ true)) is (all_found StoresNoCount b.pins pin ((own.1 k at).1 limited) drawn side));
}

-- one store in both lists
set_near : (limits : List CountLimit) (xs ys : List Slot) (place : ℕ) (x : Slot) → AreNear limits xs ys → AreNear limits (set xs place x) (set ys place x)
set_near limits xs ys place x near = record {
  long = length-set ys place x ∙ near.long ∙ sym (length-set xs place x);
  same = λ k. elim (cases_eq k place) [
    | inl is ↦ subst (λ j. limited_at limits (set xs place x) j ≡ limited_at limits (set ys place x) j) (sym is) (ap (option_map (limited_slot (limit_at limits place))) here)
    | inr other ↦
        ap (option_map (limited_slot (limit_at limits k))) (slice_get-set_other xs place k x other) ∙ near.same k
        ∙ sym (ap (option_map (limited_slot (limit_at limits k))) (slice_get-set_other ys place k x other))
  ];
}
  where
    here : slice_get (set xs place x) place ≡ slice_get (set ys place x) place
    here = elim (cases_lt place (length xs)) [
      | inl lt ↦ slice_get-set_same xs place x lt ∙ sym (slice_get-set_same ys place x (let l = near.long in omega arith))
      | inr past ↦
          let p = length-set xs place x in
          let q = length-set ys place x in
          let l = near.long in
          slice_get_past (set xs place x) place (omega arith) ∙ sym (slice_get_past (set ys place x) place (omega arith))
    ]

pub stored_near : (limits : List CountLimit) (xs ys : List Slot) (all : List (ℕ × Value)) → AreNear limits xs ys → AreNear limits (stored xs all) (stored ys all)
stored_near limits xs ys [] near = near
stored_near limits xs ys (s ∷ all) near = stored_near limits (set xs s.0 (Variable s.1)) (set ys s.0 (Variable s.1)) all (set_near limits xs ys s.0 (Variable s.1) near)

set_counters : (limits : List CountLimit) (xs : List Slot) (place : ℕ) (v : Value) → AreCounters limits xs → AreCounters limits (set xs place (Variable v))
set_counters limits xs place v counters = λ k i at. elim (cases_eq k place) [
  | inl is ↦ absurd (none k i at is)
  | inr other ↦ counters k i (sym (slice_get-set_other xs place k (Variable v) other) ∙ at)
]
  where
    none : (k : ℕ) (i : Instance) → slice_get (set xs place (Variable v)) k ≡ Some (Block i) → k ≡ place → ⊥
    none k i at is = elim (cases_lt place (length xs)) [
      | inl lt ↦ let e : Some (Variable v) ≡ Some (Block i) = sym (slice_get-set_same xs place (Variable v) lt) ∙ ap (slice_get (set xs place (Variable v))) (sym is) ∙ at in cc
      | inr past ↦
          let p = length-set xs place (Variable v) in
          let e : None ≡ Some (Block i) = sym (slice_get_past (set xs place (Variable v)) k (omega arith)) ∙ at in
          cc
    ]

-- stores leave the blocks, or take them away
pub stored_counters : (limits : List CountLimit) (xs : List Slot) (all : List (ℕ × Value)) → AreCounters limits xs → AreCounters limits (stored xs all)
stored_counters limits xs [] counters = counters
stored_counters limits xs (s ∷ all) counters = stored_counters limits (set xs s.0 (Variable s.1)) all (set_counters limits xs s.0 s.1 counters)
