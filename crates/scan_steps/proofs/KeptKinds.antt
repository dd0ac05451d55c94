-- Slots of declared kinds, and stores that keep the kinds.
use Rattle.std.proofs.Common.{◌≡◌, ℕ, ◌<◌, List, length, set, get_or, slice_get, length-set, map, Option, None, Some, refl, sym, ap, ◌∙◌, subst, ◌⊎◌, ◌≢◌, inl, inr, arith}
use Rattle.std.specs.Option.{option_and_then, option_map}
use Rattle.std.proofs.lemmas.Bool.{cases_eq}
use Rattle.std.proofs.lemmas.List.{get_or-set_same, get_or-set_other, length-map}
use Rattle.std.proofs.lemmas.Option.{slice_get-get_or, get_or_from_slice_get, slice_get_within, slice_get-map}
use Rattle.lists.proofs.Places.{element_at}
use Rattle.std_blocks.specs.declared.value.Value.{Value}
use Rattle.declared_names.specs.declared.declarations.Declaration.{Declaration}
use Rattle.declared_names.specs.declared.declarations.Declared.{Declared}
use Rattle.declared_names.specs.declared.declarations.Declared.TheVariants.{Input, Output, Local, Instance}
use Rattle.declared_names.specs.declared.declarations.Kind.{Kind}
use Rattle.declared_names.specs.declared.declarations.Kind.TheVariants as kind
use Rattle.declared_names.specs.Kinds.{value_first}
use Rattle.scan_steps.specs.First.{slot_first}
use Rattle.scan_steps.specs.declared.slot.Slot.{Slot}
use Rattle.scan_steps.specs.declared.slot.Slot.TheVariants.{Variable, Block}
use Rattle.declared_names.specs.Kinds.{kind_of}
use Rattle.scan_steps.specs.Slots.{variable_of, variable_at, IsSlotOf, AreSlotsOf}

-- what is declared at a place before the end is that of the declaration there
pub declared_there : (ds : List Declaration) (k : ℕ) (o : Option Declared) → k < length ds → o ≡ option_map (λ (d : Declaration). d.declared) (slice_get ds k)
    → (e : Declaration) × (slice_get ds k ≡ Some e) × (o ≡ Some e.declared)
declared_there ds k o lt is = let there = element_at ds k lt in (there.0, there.1, is ∙ ap (option_map (λ (d : Declaration). d.declared)) there.1)

-- a value of the same kind serves as well
pub same_kind : (d : Declared) (v w : Value) → kind_of v ≡ kind_of w → IsSlotOf d (Variable v) → IsSlotOf d (Variable w)
same_kind (Input k) v w e h = sym e ∙ h
same_kind (Output k) v w e h = sym e ∙ h
same_kind (Local k) v w e h = sym e ∙ h
same_kind (Instance b) v w e h = h

-- a variable at a place is the slot there
pub slot_of_variable : (slots : List Slot) (place : ℕ) (v : Value) → variable_at slots place ≡ Some v → slice_get slots place ≡ Some (Variable v)
slot_of_variable slots place v at = by (slice_get slots place) refl
  where
    of : (s : Slot) → variable_of s ≡ Some v → s ≡ Variable v
    of (Variable w) e = cc
    of (Block b) e = absurd cc

    by : (o : Option Slot) → slice_get slots place ≡ o → slice_get slots place ≡ Some (Variable v)
    by None e = let none : None ≡ Some v = ap (option_and_then variable_of) (sym e) ∙ at in absurd cc
    by (Some s) e = let some : variable_of s ≡ Some v = ap (option_and_then variable_of) (sym e) ∙ at in e ∙ ap Some (of s some)

-- a store of the kind that stands there keeps the kinds
pub AreSlotsOf-set : (ds : List Declaration) (slots : List Slot) (place : ℕ) (had value : Value) → variable_at slots place ≡ Some had
    → kind_of had ≡ kind_of value → AreSlotsOf ds slots → AreSlotsOf ds (set slots place (Variable value))
AreSlotsOf-set ds slots place had value at kind h = record {
  long = length-set slots place (Variable value) ∙ h.long;
  each = λ k e s declared found. by k e s declared found (cases_eq k place);
}
  where
    by : (k : ℕ) (e : Declaration) (s : Slot) → slice_get ds k ≡ Some e → slice_get (set slots place (Variable value)) k ≡ Some s → (k ≡ place) ⊎ (k ≢ place) → IsSlotOf e.declared s
    by k e s declared found (inl same) =
        let inside : k < length slots = omega (arith, slice_get_within (set slots place (Variable value)) k s found, length-set slots place (Variable value)) in
        let old : slice_get slots k ≡ Some (Variable had) = ap (slice_get slots) same ∙ slot_of_variable slots place had at in
        let stored : get_or (set slots place (Variable value)) k s ≡ Variable value =
        ap (λ (i : ℕ). get_or (set slots i (Variable value)) k s) (sym same) ∙ get_or-set_same slots k (Variable value) s inside in
        let is : s ≡ Variable value = sym (get_or_from_slice_get (set slots place (Variable value)) k s s found) ∙ stored in
        subst (IsSlotOf e.declared) (sym is) (same_kind e.declared had value kind (h.each k e (Variable had) declared old))
    by k e s declared found (inr apart) =
        let inside : k < length slots = omega (arith, slice_get_within (set slots place (Variable value)) k s found, length-set slots place (Variable value)) in
        h.each k e s declared (slice_get-get_or slots k s inside ∙ ap Some (sym (get_or-set_other slots place k (Variable value) s apart) ∙ get_or_from_slice_get (set slots place (Variable value)) k s s found))

-- the first slots are of the declared kinds
pub AreSlotsOf-first : (ds : List Declaration) → AreSlotsOf ds (map (λ (e : Declaration). slot_first e.declared) ds)
AreSlotsOf-first ds = record {
  long = length-map ds (λ (e : Declaration). slot_first e.declared);
  each = λ k e s declared found.
      let first : slice_get (map (λ (e : Declaration). slot_first e.declared) ds) k ≡ Some (slot_first e.declared) =
      slice_get-map (λ (e : Declaration). slot_first e.declared) ds k ∙ ap (option_map (λ (e : Declaration). slot_first e.declared)) declared in
      let is : s ≡ slot_first e.declared = cc in
      subst (IsSlotOf e.declared) (sym is) (of e.declared);
}
  where
    value : (k : Kind) → kind_of (value_first k) ≡ k
    value kind.Bool = refl
    value kind.Int = refl
    value kind.Time = refl

    of : (d : Declared) → IsSlotOf d (slot_first d)
    of (Input k) = value k
    of (Output k) = value k
    of (Local k) = value k
    of (Instance b) = refl
