-- What a circuit leaves is the meaning of its network: by its steps, or where it is one rung.
use Rattle.std.proofs.Common.{◌≡◌, ℕ, ◌<◌, List, [], ◌++◌, Bool, true, false, Some, All, length, set, get_or-set_same, refl, sym, ap, ◌∙◌, subst, arith}
use Rattle.std.specs.Option.{option_map, option_and_then}
use Rattle.std.proofs.lemmas.List.{append-nil, set-get_or}
use Rattle.std.proofs.lemmas.Option.{slice_get_within}
use Rattle.std.proofs.lemmas.List.Elements.{All-head}
use Rattle.lists.proofs.Places.{element_at}
use Rattle.drawings.specs.declared.coil.CoilKind.TheVariants.{Plain}
use Rattle.std_blocks.specs.declared.value.Value.{Value}
use Rattle.std_blocks.specs.declared.value.Value.TheVariants.{Bool as BoolValue}
use Rattle.network.specs.Links.{Diagram}
use Rattle.declared_names.specs.declared.declarations.Declaration.{Declaration}
use Rattle.declared_names.specs.declared.declarations.Declared.{Declared}
use Rattle.declared_names.specs.declared.declarations.Declared.TheVariants.{Input, Output, Local, Instance as InstanceOf}
use Rattle.declared_names.specs.declared.declarations.Kind.TheVariants as kind
use Rattle.declared_names.specs.Kinds.{kind_of}
use Rattle.scan_steps.specs.declared.slot.Instance.{Instance}
use Rattle.scan_steps.specs.declared.slot.Slot.{Slot}
use Rattle.scan_steps.specs.declared.slot.Slot.TheVariants.{Variable, Block}
use Rattle.scan_steps.specs.declared.rung.Rung.{Rung}
use Rattle.scan_steps.specs.declared.step.BoundCoil.{BoundCoil}
use Rattle.scan_steps.specs.declared.step.Step.{Step}
use Rattle.scan_steps.specs.declared.step.Step.TheVariants as step
use Rattle.scan_steps.specs.declared.bound_contact.VariableContact.{VariableContact}
use Rattle.scan_steps.specs.Conducting.{bit_at}
use Rattle.scan_steps.specs.Slots.{variable_of, IsKindAt, IsSlotOf, AreSlotsOf}
use Rattle.scan_steps.specs.Steps.Storing.{value_put}
use Rattle.scan_steps.specs.Steps.Passing.{Pass, pass_of, ArePassed, IsStepIn, behind_all, after_rung}
use Rattle.power_flow.specs.declared.steps.circuit.Circuit.{Circuit}
use Rattle.power_flow.specs.Meaning.{NetworkMeaning, moment, store, coil_value, coil_memory}
use Rattle.power_flow.specs.Steps.BoxStores.{with_blocks, kinds_stored, boxes_stored}
use Rattle.power_flow.specs.Steps.Circuit.{IsBool, IsBoolAt, IsCircuit, IsRung, HasShape}
use Rattle.power_flow.specs.Steps.CoilStores.{bound_store, bound_memory, bound_stores, bound_memories}
use Rattle.power_flow.proofs.Boxes.BoxesSources.{room}
use Rattle.power_flow.proofs.Boxes.BoxesMeaning.{circuit_meaning}
use Rattle.power_flow.proofs.Boxes.BlocksStored.{stored_apart, blocks_length, blocks_others, blocks_placed}
use Rattle.power_flow.proofs.Boxes.KindsStored.{sorts_of, stored_same, boxes_same, boxes_right, coils_right}

-- steps are passed, and then boxes and coils are stored
pub circuit_scanned : (ds : List Declaration) (d : Diagram) (circuit : Circuit) (dt : ℕ) (slots after : List Slot) (old new : List Bool) (a b : Pass)
    → IsCircuit ds d circuit → AreSlotsOf ds slots → ArePassed circuit.boxes.items slots dt circuit.steps.items a b
    → a.memories ≡ old → length old ≡ length circuit.elements.items → length a.rows ≡ circuit.rows → length a.links ≡ length circuit.coils.items → length a.results ≡ length circuit.boxes.items
    → after ≡ kinds_stored (boxes_stored circuit.boxes.items b.results slots) (bound_stores circuit.coils.items 0 b.links b.memories)
    → new ≡ bound_memories circuit.coils.items 0 b.links b.memories
    → NetworkMeaning ds d dt (moment slots old) (moment after new)
circuit_scanned ds d circuit dt slots after old new a b is fits passed same long rows links results after_is new_is =
    let boxes = circuit.boxes.items in
    let coil_stores = bound_stores circuit.coils.items 0 b.links b.memories in
    let made = boxes_same ds boxes b.results slots (sorts_of ds slots fits) (boxes_right ds d is.top boxes is.boxes.bound is.named) (stored_apart ds d is.top boxes is.boxes.bound is.named) in
    let changed = after_is ∙ ap (λ s. kinds_stored s coil_stores) made.0
    ∙ (stored_same ds _ coil_stores made.1 (coils_right ds d circuit.coils.items b.links b.memories is.named is.coils)).0 in
    circuit_meaning ds d circuit dt slots (with_blocks boxes b.results slots) old a b
    is fits passed same (rw is.elements long) rows links results (blocks_length boxes b.results slots)
    (λ j e i at has. blocks_placed boxes b.results slots is.boxes.apart j e i at has (room ds d is.top boxes is.boxes.bound slots fits.long j e at)) (blocks_others boxes b.results slots)
    new after new_is changed

-- a plain coil stores its left link
plain_store : (c : BoundCoil) (link on : Bool) (memories : List Bool) → c.kind ≡ Plain → link ≡ on → bound_store c link memories ++ [] ≡ store c.place (Some (BoolValue on))
plain_store c link on memories plain same =
    append-nil (bound_store c link memories)
    ∙ ap (λ k. store c.place (option_map BoolValue (coil_value k link (bit_at memories c.memory)))) plain
    ∙ ap (λ l. store c.place (Some (BoolValue l))) same

-- and its memory stays
plain_memory : (c : BoundCoil) (link : Bool) (memories : List Bool) → c.kind ≡ Plain → bound_memory c link memories ≡ memories
plain_memory c link memories plain =
    ap (λ k. set memories c.memory (coil_memory k link (bit_at memories c.memory))) plain ∙ set-get_or memories c.memory false

-- where a BOOL is declared, one stands
declared_bool : (w : Declared) (s : Slot) → IsBool w → IsSlotOf w s → (v : Value) × (s ≡ Variable v) × (kind_of v ≡ kind.Bool)
declared_bool (Input k) (Variable v) is of = (v, refl, of ∙ is)
declared_bool (Output k) (Variable v) is of = (v, refl, of ∙ is)
declared_bool (Local k) (Variable v) is of = (v, refl, of ∙ is)
declared_bool (InstanceOf b) s is of = absurd is
declared_bool (Input k) (Block i) is of = absurd of
declared_bool (Output k) (Block i) is of = absurd of
declared_bool (Local k) (Block i) is of = absurd of

pub bool_there : (ds : List Declaration) (slots : List Slot) (place : ℕ) (on : Bool) → IsBoolAt ds place → AreSlotsOf ds slots → IsKindAt slots place (BoolValue on)
bool_there ds slots place on bool fits =
    let lt = slice_get_within ds place bool.entry bool.at in
    let long = fits.long in
    let s = element_at slots place (omega arith) in
    let v = declared_bool bool.entry.declared s.0 bool.bool (fits.each place bool.entry s.0 bool.at s.1) in
    (v.0, ap (option_and_then variable_of) (s.1 ∙ ap Some v.1), v.2)

-- what a circuit's rung is
pub rung_is : (ds : List Declaration) (d : Diagram) (c : Circuit) (r : Rung) → IsCircuit ds d c → c.rung ≡ Some r → IsRung ds c.steps.items c.coils.items c.boxes.items r.contacts.items r.coil
rung_is ds d c r is some = rw some at is.rung

-- its contacts are of variables that there are
pub contacts_within : (ds : List Declaration) (slots : List Slot) (contacts : List VariableContact) → AreSlotsOf ds slots → All (λ (v : VariableContact). v.place < length ds) contacts
    → All (λ (v : VariableContact). v.place < length slots) contacts
contacts_within ds slots contacts fits within =
    let P : ℕ → Type 0 = λ n. All (λ (v : VariableContact). v.place < n) contacts in
    subst P (sym fits.long) within

-- a rung stores at its coil whether all its contacts conduct, and all memories stay
pub rung_scanned : (ds : List Declaration) (d : Diagram) (circuit : Circuit) (dt : ℕ) (slots after : List Slot) (memories rows links : List Bool) (results : List Instance)
    (contacts : List VariableContact) (place : ℕ)
    → IsRung ds circuit.steps.items circuit.coils.items circuit.boxes.items contacts place → HasShape circuit
    → length memories ≡ length circuit.elements.items → length rows ≡ circuit.rows → length links ≡ length circuit.coils.items → length results ≡ length circuit.boxes.items
    → after ≡ value_put slots place (BoolValue (behind_all slots true contacts))
    → IsCircuit ds d circuit → AreSlotsOf ds slots → NetworkMeaning ds d dt (moment slots memories) (moment after memories)
rung_scanned ds d circuit dt slots after memories rows links results contacts place rung shape memories_long rows_long links_long results_long after_is is fits =
    circuit_scanned ds d circuit dt slots after memories memories a b is fits passed refl memories_long rows_long links_long results_long
    (after_is ∙ stores) kept
  where
    on : Bool
    on = behind_all slots true contacts

    a : Pass
    a = pass_of rows memories links results

    b : Pass
    b = after_rung slots rung.row rung.number contacts a

    passed : ArePassed circuit.boxes.items slots dt circuit.steps.items a b
    passed = rw rung.steps_are (b, refl, refl)

    inside : IsStepIn circuit.rows (length circuit.elements.items) (length circuit.coils.items) (length circuit.boxes.items) (step.Rung rung.row rung.number contacts)
    inside =
        let In : Step → Type 0 = λ s. IsStepIn circuit.rows (length circuit.elements.items) (length circuit.coils.items) (length circuit.boxes.items) s in
        All-head In (step.Rung rung.row rung.number contacts) [] (rw rung.steps_are at shape.steps_in)

    first : rung.number ≡ 0
    first = let one : length circuit.coils.items ≡ 1 = ap length rung.coils_are in let within = inside.2 in omega arith

    link : bit_at b.links 0 ≡ on
    link =
        let row_in : rung.row < length rows = let within = inside.0 in omega arith in
        let link_in : rung.number < length links = let within = inside.2 in omega arith in
        ap (bit_at b.links) (sym first) ∙ get_or-set_same links rung.number (bit_at b.rows rung.row) false link_in ∙ get_or-set_same rows rung.row on false row_in

    stores : value_put slots place (BoolValue on) ≡ kinds_stored (boxes_stored circuit.boxes.items results slots) (bound_stores circuit.coils.items 0 b.links memories)
    stores = rw (rung.no_box, rung.coils_are)
        (ap (kinds_stored slots) (sym (plain_store rung.coil (bit_at b.links 0) on memories rung.plain link ∙ ap (λ p. store p (Some (BoolValue on))) rung.stored)))

    kept : memories ≡ bound_memories circuit.coils.items 0 b.links memories
    kept = rw rung.coils_are (sym (plain_memory rung.coil (bit_at b.links 0) memories rung.plain))
