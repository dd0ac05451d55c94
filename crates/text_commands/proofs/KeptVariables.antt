-- What a restart keeps.
use Rattle.std.proofs.Common.{◌≡◌, ℕ, ◌+◌, ◌<◌, List, [], ◌∷◌, ◌++◌, Bool, false, length, take, get_or, refl, replicate, sym, ap, ◌∙◌, arith}
use Rattle.std.specs.Prelude.{All, Some}
use Rattle.std.proofs.lemmas.List.{take_more}
use Rattle.std.proofs.lemmas.List.Elements.{All-head, All-tail}
use Rattle.std.proofs.lemmas.List.Sums.{fold-append}
use Rattle.std.proofs.lemmas.Option.{slice_get_within}
use Rattle.lists.proofs.Places.{element_at}
use Rattle.std_blocks.specs.declared.value.Value.{Value}
use Rattle.declared_names.specs.declared.declarations.Declaration.{Declaration}
use Rattle.declared_names.specs.declared.declarations.Declared.{Declared}
use Rattle.declared_names.specs.declared.declarations.Declared.TheVariants.{Input, Output, Local, Instance}
use Rattle.declared_names.specs.Kinds.{kind_of}
use Rattle.name_faults.specs.BindFaults.{IsVariable}
use Rattle.scan_steps.proofs.KeptKinds.{slot_of_variable}
use Rattle.scan_steps.specs.declared.slot.Slot.{Slot}
use Rattle.scan_steps.specs.declared.slot.Slot.TheVariants.{Variable}
use Rattle.scan_steps.specs.Slots.{AreSlotsOf, IsKindAt, IsSlotOf, variable_at}
use Rattle.power_flow.specs.StateValue.{StateValue}
use Rattle.text_commands.specs.Restarts.{restarted}
use Rattle.text_commands.specs.Series.{set_value}
use Rattle.text_commands.specs.Steps.Setting.{kind_at}

-- where a variable stands, one of its kind is declared
declared_kind : (declared : Declared) (value : Value) → IsSlotOf declared (Variable value) → IsVariable declared (kind_of value)
declared_kind (Input k) value is = sym is
declared_kind (Output k) value is = sym is
declared_kind (Local k) value is = sym is
declared_kind (Instance block) value is = is

-- the value of a variable can be stored at its place in other slots of the same declarations
pub kept_kind : (ds : List Declaration) (slots fresh : List Slot) (place : ℕ) (value : Value) → AreSlotsOf ds slots → AreSlotsOf ds fresh → variable_at slots place ≡ Some value → IsKindAt fresh place value
kept_kind ds slots fresh place value are new at =
    let slot = slot_of_variable slots place value at in
    let inside = slice_get_within slots place (Variable value) slot in
    let long = are.long in
    let declared = element_at ds place (omega arith) in
    kind_at ds fresh place (kind_of value) value new (declared.0, declared.1, declared_kind declared.0.declared value (are.each place declared.0 (Variable value) declared.1 slot)) refl

-- memories that are OFF
pub off_all : (memories : List Bool) (count : ℕ) → length memories ≡ count → All (λ m. m ≡ false) memories → memories ≡ replicate count false
off_all memories count long off = each memories off ∙ ap (λ n. replicate n false) long
  where
    each : (ms : List Bool) → All (λ m. m ≡ false) ms → ms ≡ replicate (length ms) false
    each [] are = refl
    each (m ∷ ms) are = ap (λ b. b ∷ ms) (All-head (λ b. b ≡ false) m ms are) ∙ ap (λ l. false ∷ l) (each ms (All-tail (λ b. b ≡ false) m ms are))

-- one place more is kept
pub restarted_more : (kept : List ℕ) (n place : ℕ) (first slots : List Slot) → n < length kept → place ≡ get_or kept n 0
    → set_value (restarted (take n kept) first slots) place (variable_at slots place) ≡ restarted (take (n + 1) kept) first slots
restarted_more kept n place first slots lt is =
    let keep : List Slot → ℕ → List Slot = λ fresh p. set_value fresh p (variable_at slots p) in
    let more : take (n + 1) kept ≡ take n kept ++ place ∷ [] = take_more kept n 0 lt ∙ ap (λ p. take n kept ++ p ∷ []) (sym is) in
    sym (ap (λ l. restarted l first slots) more ∙ fold-append keep first (take n kept) (place ∷ []))

-- so it is in the state
pub kept_more : (kept : List ℕ) (n place : ℕ) (first old new : StateValue) (slots : List Slot) → n < length kept → place ≡ get_or kept n 0 → old ≡ record first { slots = restarted (take n kept) first.slots slots }
    → new ≡ record old { slots = set_value old.slots place (variable_at slots place) } → new ≡ record first { slots = restarted (take (n + 1) kept) first.slots slots }
kept_more kept n place first old new slots lt is before kept_is =
    kept_is ∙ ap (λ (s : StateValue). record s { slots = set_value s.slots place (variable_at slots place) }) before
    ∙ ap (λ (ss : List Slot). record first { slots = ss }) (restarted_more kept n place first.slots slots lt is)
