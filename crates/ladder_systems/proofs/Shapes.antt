-- Slots of signals as they are declared.
use Rattle.std.proofs.Common.{◌≡◌, ◌⊎◌, inl, inr, ℕ, zero, suc, ◌<◌, List, [], ◌∷◌, Bool, Some, length, set, slice_get, refl, sym, ap, ◌∙◌, subst, arith}
use Rattle.std.specs.Option.{option_map}
use Rattle.std.proofs.lemmas.List.{length-map, map-set}
use Rattle.std.proofs.lemmas.Option.{slice_get-map}
use Rattle.std.proofs.Math.ListN.{length-set}
use Rattle.lists.proofs.Places.{element_at, some_same}
use Rattle.std_blocks.specs.declared.value.Value.{Value}
use Rattle.declared_names.specs.Kinds.{kind_of, value_first}
use Rattle.declared_names.specs.declared.declarations.Declaration.{Declaration}
use Rattle.declared_names.specs.declared.declarations.Declared.{Declared}
use Rattle.declared_names.specs.declared.declarations.Declared.TheVariants.{Input, Output, Local, Instance}
use Rattle.declared_names.specs.declared.declarations.Kind.{Kind}
use Rattle.declared_names.specs.declared.declarations.Kind.TheVariants as kind
use Rattle.name_faults.specs.BindFaults.{IsVariable}
use Rattle.scan_steps.specs.First.{slot_first}
use Rattle.scan_steps.specs.Slots.{IsSlotOf, AreSlotsOf}
use Rattle.scan_steps.specs.declared.slot.Slot.{Slot}
use Rattle.scan_steps.specs.declared.slot.Slot.TheVariants as slot
use Rattle.scan_gates.specs.declared.encoded.EncodedValue.{EncodedValue}
use Rattle.scan_gates.specs.declared.encoded.EncodedSlot.{EncodedSlot}
use Rattle.scan_gates.specs.declared.encoded.EncodedSlot.TheVariants.{Variable}
use Rattle.scan_gates.specs.Encoded.{slot_at, slots_at, value_at}
use Rattle.scan_gates.specs.States.{AreLike}
use Rattle.text_commands.specs.Restarts.{first_slots}
use Rattle.text_commands.specs.Series.{IsVariableAt}
use Rattle.verifying.specs.Runs.{IsBool, IsBoolAt}
use Rattle.ladder_systems.specs.Steps.States.{AreOf, none}

-- what is like what is declared is what is declared
abbrev pub KindsAreShapes : Type 0
KindsAreShapes = (v w : ℕ → Bool) (ds : List Declaration) (a b : List EncodedSlot) → AreLike a b → AreSlotsOf ds (slots_at v a) → AreSlotsOf ds (slots_at w b)

-- what is declared once is alike
abbrev pub DeclaredAreLike : Type 0
DeclaredAreLike = (v w : ℕ → Bool) (ds : List Declaration) (a b : List EncodedSlot) → AreSlotsOf ds (slots_at v a) → AreSlotsOf ds (slots_at w b) → AreLike a b

-- so it is whatever the variables are
pub of_any : KindsAreShapes → DeclaredAreLike → (v w : ℕ → Bool) (ds : List Declaration) (slots : List EncodedSlot) → AreSlotsOf ds (slots_at v slots) → AreSlotsOf ds (slots_at w slots)
of_any kinds alike v w ds slots of = kinds v w ds slots slots (alike v v ds slots slots of of) of

variable_here : (d : Declared) (x : Value) → IsVariable d (kind_of x) → IsSlotOf d (slot.Variable x)
variable_here (Input k) x is = sym is
variable_here (Output k) x is = sym is
variable_here (Local k) x is = sym is
variable_here (Instance b) x is = absurd is

here_variable : (d : Declared) (x : Value) → IsSlotOf d (slot.Variable x) → IsVariable d (kind_of x)
here_variable (Input k) x is = sym is
here_variable (Output k) x is = sym is
here_variable (Local k) x is = sym is
here_variable (Instance b) x is = absurd is

set_at : (slots : List Slot) (place k : ℕ) (x s : Slot) → slice_get (set slots place x) k ≡ Some s → ((k ≡ place) × (s ≡ x)) ⊎ (slice_get slots k ≡ Some s)
set_at [] place k x s is = inr is
set_at (y ∷ slots) zero zero x s is = inl (refl, sym (some_same is))
set_at (y ∷ slots) zero (suc k) x s is = inr is
set_at (y ∷ slots) (suc place) zero x s is = inr is
set_at (y ∷ slots) (suc place) (suc k) x s is = elim (set_at slots place k x s is) [ inl h ↦ inl (ap suc h.0, h.1) | inr h ↦ inr h ]

-- a variable of the kind that is declared is put at a place
pub declared_set : (ds : List Declaration) (slots : List Slot) (place : ℕ) (x : Value) → AreSlotsOf ds slots → IsVariableAt ds place (kind_of x) → AreSlotsOf ds (set slots place (slot.Variable x))
declared_set ds slots place x are there = record {
  long = length-set slots place (slot.Variable x) ∙ are.long;
  each = λ k e s at is. elim (set_at slots place k (slot.Variable x) s is) [
    | inl here ↦
        let same : e ≡ there.0 = some_same (sym at ∙ ap (slice_get ds) here.0 ∙ there.1) in
        let Of : Declaration → Type 0 = λ d. IsSlotOf d.declared (slot.Variable x) in
        subst (IsSlotOf e.declared) (sym here.1) (subst Of (sym same) (variable_here there.0.declared x there.2))
    | inr was ↦ are.each k e s at was
  ];
}

pub of_set : (ds : List Declaration) (slots : List EncodedSlot) (place : ℕ) (x : EncodedValue) → AreOf ds slots → IsVariableAt ds place (kind_of (value_at none x))
    → AreOf ds (set slots place (Variable x))
of_set ds slots place x of there =
    let Of : List Slot → Type 0 = λ l. AreSlotsOf ds l in
    subst Of (sym (map-set (slot_at none) slots place (Variable x))) (declared_set ds (slots_at none slots) place (value_at none x) of there)

-- where a variable stands, one of its kind is declared
below : (slots : List EncodedSlot) (place : ℕ) (s : EncodedSlot) → slice_get slots place ≡ Some s → place < length slots
below [] place s at = absurd cc
below (x ∷ slots) zero s at = omega arith
below (x ∷ slots) (suc place) s at = let lt = below slots place s at in omega arith

pub variable_there : (ds : List Declaration) (slots : List EncodedSlot) (place : ℕ) (x : EncodedValue) → AreOf ds slots → slice_get slots place ≡ Some (Variable x)
    → IsVariableAt ds place (kind_of (value_at none x))
variable_there ds slots place x of at =
    let lt : place < length ds = omega (arith, below slots place (Variable x) at, of.long, length-map slots (slot_at none)) in
    let there = element_at ds place lt in
    let is : slice_get (slots_at none slots) place ≡ Some (slot.Variable (value_at none x)) = slice_get-map (slot_at none) slots place ∙ ap (option_map (slot_at none)) at in
    (there.0, there.1, here_variable there.0.declared (value_at none x) (of.each place there.0 (slot.Variable (value_at none x)) there.1 is))

-- a BOOL is a variable of its kind
bool_is : (d : Declared) → IsBool d → IsVariable d kind.Bool
bool_is (Input k) is = is
bool_is (Output k) is = is
bool_is (Local k) is = is
bool_is (Instance b) is = absurd is

pub bool_there : (ds : List Declaration) (place : ℕ) → IsBoolAt ds place → IsVariableAt ds place kind.Bool
bool_there ds place (e, at, is) = (e, at, bool_is e.declared is)

-- what stands before the first scan is what is declared
pub first_declared : (ds : List Declaration) → AreSlotsOf ds (first_slots ds)
first_declared ds = record {
  long = length-map ds (λ (e : Declaration). slot_first e.declared);
  each = λ k e s declared found.
      let first : slice_get (first_slots ds) k ≡ Some (slot_first e.declared) =
      slice_get-map (λ (e : Declaration). slot_first e.declared) ds k ∙ ap (option_map (λ (e : Declaration). slot_first e.declared)) declared in
      let is : s ≡ slot_first e.declared = cc in
      subst (IsSlotOf e.declared) (sym is) (of e.declared);
}
  where
    first_kind : (k : Kind) → kind_of (value_first k) ≡ k
    first_kind kind.Bool = refl
    first_kind kind.Int = refl
    first_kind kind.Time = refl

    of : (d : Declared) → IsSlotOf d (slot_first d)
    of (Input k) = first_kind k
    of (Output k) = first_kind k
    of (Local k) = first_kind k
    of (Instance b) = refl
