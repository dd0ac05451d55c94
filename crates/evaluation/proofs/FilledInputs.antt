-- How the bound inputs of a program are filled.
use Rattle.std.proofs.Common.{◌≡◌, ◌≢◌, ℕ, ◌+◌, ◌<◌, ◌⊎◌, inl, inr, List, length, slice_get, set, Bool, true, false, ◌&&◌, ◌==◌, cond, [], ◌∷◌, Option, Some, None, arith, refl, sym, ap, ◌∙◌, subst}
use Rattle.std.specs.List.{find}
use Rattle.std.specs.Option.{option_map, option_and_then}
use Rattle.std.proofs.lemmas.Bool.{cases_eq}
use Rattle.std.proofs.lemmas.Option.{slice_get_within, slice_get-map, get_or_from_slice_get, same_Some}
use Rattle.lists.proofs.Places.{element_at, slice_get-set_other}
use Rattle.std_blocks.specs.declared.value.Value.{Value}
use Rattle.declared_names.specs.declared.declarations.Kind.{Kind}
use Rattle.declared_names.specs.declared.declarations.Declared.{Declared}
use Rattle.declared_names.specs.declared.declarations.Declared.TheVariants.{Input, Output, Local, Instance}
use Rattle.declared_names.specs.declared.declarations.Declaration.{Declaration}
use Rattle.scan_steps.specs.declared.slot.Slot.{Slot}
use Rattle.scan_steps.specs.declared.slot.Slot.TheVariants.{Variable, Block}
use Rattle.declared_names.specs.Kinds.{value_first, kind_of, kind_of_space, input_kind, input_kind_at}
use Rattle.power_flow.specs.StateValue.{StateValue}
use Rattle.scan_steps.specs.Slots.{variable_of, variable_at, IsKindAt, IsSlotOf, AreSlotsOf}
use Rattle.words.specs.declared.address.Space.{Space}
use Rattle.words.specs.declared.address.Space.TheVariants.{Bit as BitSpace, Word as WordSpace}
use Rattle.words.specs.declared.address.Address.{Address}
use Rattle.task_codes.specs.declared.binding.Source.{Source}
use Rattle.task_codes.specs.declared.binding.Source.TheVariants.{Field, Given}
use Rattle.task_codes.specs.declared.binding.Binding.{Binding}
use Rattle.lists.specs.Items.{items_or_none}
use Rattle.task_codes.specs.CodeValue.{ProgramValue, CodeValue, source_kind, bindings_at, AreOnce, IsBindingSound, IsSoundCode}
use Rattle.evaluation.specs.declared.field_input.FieldInput.{FieldInput}
use Rattle.evaluation.specs.declared.field_input.FieldInput.TheVariants.{Bit, Word}
use Rattle.evaluation.specs.declared.take.Take.{Take}
use Rattle.evaluation.specs.Inputs.{address_of, value_of, same_address, same_space, value_or_first, field_value}
use Rattle.evaluation.specs.Takes.{AreTakesOf}
use Rattle.evaluation.specs.Meaning.{given, IsFilled, AllFilled}
use Rattle.evaluation.specs.Steps.Filling.{AreReady}
use Rattle.evaluation.specs.States.{AreStatesOf}
use Rattle.power_flow.specs.LadderValue.{LadderValue, Fits}
use Rattle.evaluation.proofs.MappedLists.{option_map_some, InPlace, in_place_more, in_place_all}

-- what an address holds is of the kind of its space
pub kind_of_field : (inputs : List FieldInput) (a : Address) → kind_of (field_value inputs a) ≡ kind_of_space a.space
unfolding field_value
kind_of_field inputs a = by inputs
  where
    first : (s : Space) → kind_of (value_first (kind_of_space s)) ≡ kind_of_space s
    first BitSpace = refl
    first WordSpace = refl

    of : (i : FieldInput) (s : Space) → same_space (address_of i).space s ≡ true → kind_of (value_of i) ≡ kind_of_space s
    of (Bit n v) BitSpace e = refl
    of (Bit n v) WordSpace e = absurd cc
    of (Word n v) BitSpace e = absurd cc
    of (Word n v) WordSpace e = refl

    left : (p q : Bool) → (p && q) ≡ true → p ≡ true
    left true q e = refl
    left false q e = absurd cc

    one : (i : FieldInput) (more : List FieldInput) (b : Bool) → same_address (address_of i) a ≡ b → kind_of (value_or_first a (find (λ i. same_address (address_of i) a) more)) ≡ kind_of_space a.space
        → kind_of (value_or_first a (cond b (Some i) (find (λ i. same_address (address_of i) a) more))) ≡ kind_of_space a.space
    one i more true e rest = of i a.space (left (same_space (address_of i).space a.space) ((address_of i).number == a.number) e)
    one i more false e rest = rest

    by : (l : List FieldInput) → kind_of (value_or_first a (find (λ i. same_address (address_of i) a) l)) ≡ kind_of_space a.space
    by [] = first a.space
    by (i ∷ more) = one i more (same_address (address_of i) a) refl (by more)

-- an input's slot is a variable of the input's kind
pub input_slot : (ds : List Declaration) (slots : List Slot) (place : ℕ) (k : Kind) → AreSlotsOf ds slots → input_kind_at ds place ≡ Some k
    → (v : Value) × (variable_at slots place ≡ Some v) × (kind_of v ≡ k)
input_slot ds slots place k are at = by (slice_get ds place) refl
  where
    of : (e : Declared) (s : Slot) → input_kind e ≡ Some k → IsSlotOf e s → (v : Value) × (variable_of s ≡ Some v) × (kind_of v ≡ k)
    of (Input j) (Variable v) e h = (v, refl, h ∙ same_Some j k e)
    of (Input j) (Block b) e h = absurd h
    of (Output j) s e h = absurd cc
    of (Local j) s e h = absurd cc
    of (Instance b) s e h = absurd cc

    by : (o : Option Declaration) → slice_get ds place ≡ o → (v : Value) × (variable_at slots place ≡ Some v) × (kind_of v ≡ k)
    by None e = let none : None ≡ Some k = ap (option_and_then (λ (d : Declaration). input_kind d.declared)) (sym e) ∙ at in absurd cc
    by (Some d) e =
        let kind : input_kind d.declared ≡ Some k = ap (option_and_then (λ (d : Declaration). input_kind d.declared)) (sym e) ∙ at in
        let slot = element_at slots place (let lt = slice_get_within ds place d e in let long = are.long in omega arith) in
        let found = of d.declared slot.0 kind (are.each place d slot.0 e slot.1) in
        (found.0, ap (option_and_then variable_of) slot.1 ∙ found.1, found.2)

-- a source gives a value of its kind
pub source_gives : (c : CodeValue) (inputs : List FieldInput) (takes : List Take) (s : Source) (k : Kind) → IsSoundCode c → AreTakesOf c takes → source_kind c s ≡ Some k
    → (v : Value) × (given inputs takes s ≡ Some v) × (kind_of v ≡ k)
source_gives c inputs takes (Field a) k sound are at = (field_value inputs a, refl, kind_of_field inputs a ∙ same_Some (kind_of_space a.space) k at)
source_gives c inputs takes (Given p o) k sound are at =
    let listed = element_at c.expected p (inside (slice_get c.expected p) refl) in
    let lt = slice_get_within c.expected p listed.0 listed.1 in
    let expected_long = sound.each_expected in
    let many = are.many in
    let take = element_at takes p (omega arith) in
    let producer = element_at c.producers p (omega arith) in
    let is = are.each p take.0 producer.0 take.1 producer.1 in
    let there : option_map kind_of (slice_get (take.0).image o) ≡ Some k = sym (slice_get-map kind_of (take.0).image o) ∙ ap (λ (l : List Kind). slice_get l o) is.kinds_are ∙ at in
    let value = option_map_some kind_of (slice_get (take.0).image o) k there in
    (value.0, ap (option_and_then (λ (t : Take). slice_get t.image o)) take.1 ∙ value.1, value.2)
  where
    inside : (e : Option (List Kind)) → slice_get c.expected p ≡ e → p < length c.expected
    inside None e = let none : None ≡ Some k = ap (λ (l : Option (List Kind)). slice_get (items_or_none l) o) (sym e) ∙ at in absurd cc
    inside (Some kinds) e = slice_get_within c.expected p kinds e

-- each source of a sound code gives a value of the kind that stands at the place of its input
pub ready : (c : CodeValue) (inputs : List FieldInput) (takes : List Take) (i : ℕ) (p : ProgramValue) (slots : List Slot) → IsSoundCode c → AreTakesOf c takes
    → slice_get c.programs i ≡ Some p → AreSlotsOf p.ladder.declarations slots → AreReady inputs takes (bindings_at c i) slots
ready c inputs takes i p slots sound suit at are j b found =
    let lt = slice_get_within (bindings_at c i) j b found in
    let bound : IsBindingSound c p b = subst (IsBindingSound c p) (get_or_from_slice_get (bindings_at c i) j b b found) (sound.sound i p at j b lt) in
    let value = source_gives c inputs takes b.source bound.0 sound suit bound.2 in
    let slot = input_slot p.ladder.declarations slots b.place bound.0 are bound.1 in
    (value.0, value.1, (slot.0, slot.1, slot.2 ∙ sym value.2))

-- the first n bound inputs of a program are filled
pub record FilledTo (inputs : List FieldInput) (takes : List Take) (bindings : List Binding) (n : ℕ) (s t : StateValue) : Type 0 where
  pub bound : (j : ℕ) (b : Binding) → j < n → slice_get bindings j ≡ Some b → slice_get t.slots b.place ≡ option_map (λ v. Variable v) (given inputs takes b.source)
  pub unbound : (place : ℕ) → ((j : ℕ) (b : Binding) → j < n → slice_get bindings j ≡ Some b → b.place ≡ place → ⊥) → slice_get t.slots place ≡ slice_get s.slots place
  pub rest : t ≡ record s { slots = t.slots }
  pub declared : (ds : List Declaration) → AreSlotsOf ds s.slots → AreSlotsOf ds t.slots

pub filled_none : (inputs : List FieldInput) (takes : List Take) (bindings : List Binding) (s : StateValue) → FilledTo inputs takes bindings 0 s s
filled_none inputs takes bindings s = record {
  bound = λ j b lt. absurd (omega arith);
  unbound = λ place h. refl;
  rest = refl;
  declared = λ ds h. h;
}

-- two bindings at one place are one
once_at : (bindings : List Binding) (j n : ℕ) (a b : Binding) → AreOnce bindings → slice_get bindings j ≡ Some a → slice_get bindings n ≡ Some b → a.place ≡ b.place → j ≡ n
once_at bindings j n a b once at found same =
    once j n a (slice_get_within bindings j a at) (slice_get_within bindings n b found)
    (ap (λ (x : Binding). x.place) (get_or_from_slice_get bindings j a a at) ∙ same ∙ sym (ap (λ (x : Binding). x.place) (get_or_from_slice_get bindings n b a found)))

-- the next input's slot is still as it was
pub next_slot : (inputs : List FieldInput) (takes : List Take) (bindings : List Binding) (n : ℕ) (s t : StateValue) (b : Binding) → AreOnce bindings → FilledTo inputs takes bindings n s t
    → slice_get bindings n ≡ Some b → slice_get t.slots b.place ≡ slice_get s.slots b.place
next_slot inputs takes bindings n s t b once h found = h.unbound b.place (λ j a lt at same. let e = once_at bindings j n a b once at found same in omega arith)

pub next_kind : (inputs : List FieldInput) (takes : List Take) (bindings : List Binding) (n : ℕ) (s t : StateValue) (b : Binding) (v : Value) → AreOnce bindings → FilledTo inputs takes bindings n s t
    → slice_get bindings n ≡ Some b → IsKindAt s.slots b.place v → IsKindAt t.slots b.place v
next_kind inputs takes bindings n s t b v once h found is =
    (is.0, ap (option_and_then variable_of) (next_slot inputs takes bindings n s t b once h found) ∙ is.1, is.2)

-- one more input is filled
pub filled_more : (inputs : List FieldInput) (takes : List Take) (bindings : List Binding) (n : ℕ) (s t u : StateValue) (b : Binding) (v : Value) → AreOnce bindings
    → FilledTo inputs takes bindings n s t → slice_get bindings n ≡ Some b → given inputs takes b.source ≡ Some v → slice_get u.slots b.place ≡ Some (Variable v)
    → u ≡ record t { slots = set t.slots b.place (Variable v) } → ((ds : List Declaration) → AreSlotsOf ds t.slots → AreSlotsOf ds u.slots)
    → FilledTo inputs takes bindings (n + 1) s u
filled_more inputs takes bindings n s t u b v once h found gives stored is keeps = record {
  bound = λ j a lt at. bound j a lt at (cases_eq j n);
  unbound = λ place free.
      ap (λ (x : List Slot). slice_get x place) slots
      ∙ slice_get-set_other t.slots b.place place (Variable v) (λ same. free n b (omega arith) found (sym same))
      ∙ h.unbound place (λ j a lt at. free j a (omega arith) at);
  rest = same_rest;
  declared = λ ds are. keeps ds (h.declared ds are);
}
  where
    slots : u.slots ≡ set t.slots b.place (Variable v)
    slots = ap (λ (x : StateValue). x.slots) is

    same_rest : u ≡ record s { slots = u.slots }
    same_rest =
        is ∙ ap (λ (x : StateValue). record x { slots = set t.slots b.place (Variable v) }) h.rest
        ∙ ap (λ (x : List Slot). record s { slots = x }) (sym slots)

    bound : (j : ℕ) (a : Binding) → j < n + 1 → slice_get bindings j ≡ Some a → (j ≡ n) ⊎ (j ≢ n) → slice_get u.slots a.place ≡ option_map (λ v. Variable v) (given inputs takes a.source)
    bound j a lt at (inl same) =
        let one : b ≡ a = same_Some b a (sym found ∙ ap (slice_get bindings) (sym same) ∙ at) in
        subst (λ (x : Binding). slice_get u.slots x.place ≡ option_map (λ v. Variable v) (given inputs takes x.source)) one
        (stored ∙ sym (ap (option_map (λ v. Variable v)) gives))
    bound j a lt at (inr ne) =
        ap (λ (x : List Slot). slice_get x a.place) slots
        ∙ slice_get-set_other t.slots b.place a.place (Variable v) (λ same. ne (once_at bindings j n a b once at found same))
        ∙ h.bound j a (omega arith) at

pub filled_all : (inputs : List FieldInput) (takes : List Take) (bindings : List Binding) (n : ℕ) (s t : StateValue) → FilledTo inputs takes bindings n s t → n ≡ length bindings
    → IsFilled inputs takes bindings s t
filled_all inputs takes bindings n s t h all = record {
  slots = record {
    bound = λ j b at. h.bound j b (let lt = slice_get_within bindings j b at in omega arith) at;
    unbound = λ place free. h.unbound place (λ j b lt at. free j b at);
  };
  memories = ap (λ (x : StateValue). x.memories) h.rest;
}

-- what the filling of program k does to its state
abbrev pub FillsProgram : CodeValue → List FieldInput → List Take → ℕ → StateValue → StateValue → Type 0
FillsProgram c inputs takes k s t = IsFilled inputs takes (bindings_at c k) s t × ((p : ProgramValue) → slice_get c.programs k ≡ Some p → Fits p.ladder t)

-- a filled state still fits
pub filled_fits : (inputs : List FieldInput) (takes : List Take) (bindings : List Binding) (n : ℕ) (s t : StateValue) (l : LadderValue) → FilledTo inputs takes bindings n s t → Fits l s → Fits l t
filled_fits inputs takes bindings n s t l h fits = record {
  slots = h.declared l.declarations fits.slots;
  memories = ap (λ (x : StateValue). length x.memories) h.rest ∙ fits.memories;
  waiting_links = ap (λ (x : StateValue). x.waiting_links) h.rest ∙ fits.waiting_links;
  waiting_results = ap (λ (x : StateValue). x.waiting_results) h.rest ∙ fits.waiting_results;
}

-- the state that comes next is still as it was, and fits
pub next_fits : (c : CodeValue) (inputs : List FieldInput) (takes : List Take) (i : ℕ) (p : ProgramValue) (old now : List StateValue) (s : StateValue) → AreStatesOf c old
    → InPlace (FillsProgram c inputs takes) i old now → slice_get now i ≡ Some s → slice_get c.programs i ≡ Some p → Fits p.ladder s
next_fits c inputs takes i p old now s fits h is at = fits.each i p s at (sym (h.rest i (omega arith)) ∙ is)

pub fill_more : (c : CodeValue) (inputs : List FieldInput) (takes : List Take) (i : ℕ) (old now : List StateValue) (s t : StateValue) → AreStatesOf c old
    → InPlace (FillsProgram c inputs takes) i old now → slice_get now i ≡ Some s → IsFilled inputs takes (bindings_at c i) s t
    → ((l : LadderValue) → Fits l s → Fits l t) → InPlace (FillsProgram c inputs takes) (i + 1) old (set now i t)
fill_more c inputs takes i old now s t fits h is filled keeps =
    in_place_more (FillsProgram c inputs takes) i old now s t h is
    (filled, λ p at. keeps p.ladder (next_fits c inputs takes i p old now s fits h is at))

pub fill_all : (c : CodeValue) (inputs : List FieldInput) (takes : List Take) (i : ℕ) (old now : List StateValue) → InPlace (FillsProgram c inputs takes) i old now → i ≡ length old
    → AllFilled c inputs takes old now
fill_all c inputs takes i old now h all = record { many = h.many; each = λ k s t was is. (in_place_all (FillsProgram c inputs takes) i old now h all k s t was is).0 }

pub fill_fits : (c : CodeValue) (inputs : List FieldInput) (takes : List Take) (i : ℕ) (old now : List StateValue) → AreStatesOf c old → InPlace (FillsProgram c inputs takes) i old now → i ≡ length old
    → AreStatesOf c now
fill_fits c inputs takes i old now fits h all = record {
  many = h.many ∙ fits.many;
  each = λ k p t at is.
      let lt = slice_get_within now k t is in
      let many = h.many in
      let was = element_at old k (omega arith) in
      (in_place_all (FillsProgram c inputs takes) i old now h all k was.0 t was.1 is).1 p at;
}
