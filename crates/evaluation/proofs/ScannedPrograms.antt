-- How the programs of a task are scanned, and its outputs read.
use Rattle.std.proofs.Common.{◌≡◌, ℕ, ◌+◌, ◌<◌, List, [], ◌∷◌, ◌++◌, length, slice_get, set, map, take, Some, None, arith, refl, sym, ap, ◌∙◌, subst}
use Rattle.std.specs.Option.{option_map, option_and_then}
use Rattle.std.proofs.lemmas.List.{map_push, take_more}
use Rattle.std.proofs.lemmas.Option.{slice_get_within, get_or_from_slice_get, same_Some}
use Rattle.lists.proofs.Places.{element_at}
use Rattle.std_blocks.specs.declared.value.Value.{Value}
use Rattle.declared_names.specs.declared.declarations.Declared.{Declared}
use Rattle.declared_names.specs.declared.declarations.Declared.TheVariants.{Input, Output, Local, Instance}
use Rattle.scan_steps.specs.declared.slot.Slot.{Slot}
use Rattle.scan_steps.specs.declared.slot.Slot.TheVariants.{Variable, Block}
use Rattle.power_flow.specs.LadderValue.{LadderValue, Fits}
use Rattle.declared_names.specs.Kinds.{kind_of}
use Rattle.power_flow.specs.StateValue.{StateValue}
use Rattle.scan_steps.specs.Slots.{variable_of, variable_at, IsSlotOf}
use Rattle.task_codes.specs.declared.task_output.TaskOutput.{TaskOutput}
use Rattle.task_codes.specs.CodeValue.{ProgramValue, CodeValue, output_kind, IsOutputOf, IsSoundCode}
use Rattle.evaluation.specs.Meaning.{IsScanned, AllScanned, output_value}
use Rattle.evaluation.specs.States.{AreStatesOf}
use Rattle.evaluation.proofs.MappedLists.{option_map_some, option_map_none, found_not_none, InPlace, in_place_more, in_place_all}

-- what the scan of program k does to its state
abbrev pub ScansProgram : CodeValue → ℕ → ℕ → StateValue → StateValue → Type 0
ScansProgram c dt k s t = (p : ProgramValue) → slice_get c.programs k ≡ Some p → IsScanned p.ladder dt s t × Fits p.ladder t

-- the state that comes next is still as it was, and fits
pub next_scan_fits : (c : CodeValue) (dt i : ℕ) (p : ProgramValue) (old now : List StateValue) (s : StateValue) → AreStatesOf c old
    → InPlace (ScansProgram c dt) i old now → slice_get now i ≡ Some s → slice_get c.programs i ≡ Some p → Fits p.ladder s
next_scan_fits c dt i p old now s fits h is at = fits.each i p s at (sym (h.rest i (omega arith)) ∙ is)

pub scan_more : (c : CodeValue) (dt i : ℕ) (p : ProgramValue) (old now : List StateValue) (s t : StateValue) → InPlace (ScansProgram c dt) i old now → slice_get now i ≡ Some s
    → slice_get c.programs i ≡ Some p → IsScanned p.ladder dt s t → Fits p.ladder t → InPlace (ScansProgram c dt) (i + 1) old (set now i t)
scan_more c dt i p old now s t h is at scanned fits =
    in_place_more (ScansProgram c dt) i old now s t h is
    (λ q at'. subst (λ (x : ProgramValue). IsScanned x.ladder dt s t × Fits x.ladder t) (same_Some p q (sym at ∙ at')) (scanned, fits))

pub scan_all : (c : CodeValue) (dt i : ℕ) (old now : List StateValue) → AreStatesOf c old → InPlace (ScansProgram c dt) i old now → i ≡ length old → AllScanned c dt old now
scan_all c dt i old now fits h all = record {
  many = fits.many;
  as_many = h.many;
  each = λ k p s t at was is. (in_place_all (ScansProgram c dt) i old now h all k s t was is p at).0;
}

pub scan_fits : (c : CodeValue) (dt i : ℕ) (old now : List StateValue) → AreStatesOf c old → InPlace (ScansProgram c dt) i old now → i ≡ length old → AreStatesOf c now
scan_fits c dt i old now fits h all = record {
  many = h.many ∙ fits.many;
  each = λ k p t at is.
      let lt = slice_get_within now k t is in
      let many = h.many in
      let was = element_at old k (omega arith) in
      (in_place_all (ScansProgram c dt) i old now h all k was.0 t was.1 is p at).1;
}

-- an output's value is a variable of its kind
pub output_has_value : (c : CodeValue) (states : List StateValue) (o : TaskOutput) → AreStatesOf c states → IsOutputOf c o → (v : Value) × (output_value states o ≡ Some v) × (kind_of v ≡ o.kind)
output_has_value c states o fits is =
    let many = fits.many in
    let run = slice_get_within c.programs o.program is.program is.run in
    let state = element_at states o.program (omega arith) in
    let slots = (fits.each o.program is.program state.0 is.run state.1).slots in
    let long = slots.long in
    let place = slice_get_within (is.program).ladder.declarations o.place is.variable is.declared in
    let slot = element_at (state.0).slots o.place (omega arith) in
    let found = of (is.variable).declared slot.0 is.kind_is (slots.each o.place is.variable slot.0 is.declared slot.1) in
    (found.0, ap (option_and_then (λ (s : StateValue). variable_at s.slots o.place)) state.1 ∙ ap (option_and_then variable_of) slot.1 ∙ found.1, found.2)
  where
    of : (e : Declared) (s : Slot) → output_kind e ≡ Some o.kind → IsSlotOf e s → (v : Value) × (variable_of s ≡ Some v) × (kind_of v ≡ o.kind)
    of (Input j) s e h = absurd cc
    of (Output j) (Variable v) e h = (v, refl, h ∙ same_Some j o.kind e)
    of (Output j) (Block b) e h = absurd h
    of (Local j) s e h = absurd cc
    of (Instance b) s e h = absurd cc

-- one more element of a list that is mapped
pub mapped_more : {X Y : Type 0} (f : X → Y) (xs : List X) (k : ℕ) (x : X) (ys : List Y) → slice_get xs k ≡ Some x → ys ≡ map f (take k xs) → ys ++ f x ∷ [] ≡ map f (take (k + 1) xs)
mapped_more f xs k x ys at is =
    let more = take_more xs k x (slice_get_within xs k x at) in
    let here = get_or_from_slice_get xs k x x at in
    let pushed = map_push f (take k xs) x in
    ap (λ (l : List _). l ++ f x ∷ []) is ∙ sym pushed ∙ ap (λ d. map f (take k xs ++ d ∷ [])) (sym here) ∙ ap (map f) (sym more)

-- the program of which a ladder is
pub program_of : (c : CodeValue) (i : ℕ) (l : LadderValue) → Some l ≡ option_map (λ (p : ProgramValue). p.ladder) (slice_get c.programs i)
    → (p : ProgramValue) × (slice_get c.programs i ≡ Some p) × (p.ladder ≡ l)
program_of c i l e = option_map_some (λ (p : ProgramValue). p.ladder) (slice_get c.programs i) l (sym e)

pub has_program : (c : CodeValue) (i : ℕ) → i < length c.programs → None ≡ option_map (λ (p : ProgramValue). p.ladder) (slice_get c.programs i) → ⊥
has_program c i lt e = found_not_none c.programs i lt (option_map_none (λ (p : ProgramValue). p.ladder) (slice_get c.programs i) (sym e))

-- one more output is read
pub value_more : (c : CodeValue) (states : List StateValue) (k : ℕ) (o : TaskOutput) (v : Value) (values new : List Value) → slice_get c.outputs k ≡ Some o → output_value states o ≡ Some v
    → new ≡ values ++ v ∷ [] → map (λ v. Some v) values ≡ map (output_value states) (take k c.outputs) → map (λ v. Some v) new ≡ map (output_value states) (take (k + 1) c.outputs)
value_more c states k o v values new at is pushed so =
    ap (map (λ v. Some v)) pushed ∙ map_push (λ v. Some v) values v
    ∙ ap (λ x. map (λ v. Some v) values ++ x ∷ []) (sym is)
    ∙ mapped_more (output_value states) c.outputs k o (map (λ v. Some v) values) at so

pub kind_more : (c : CodeValue) (states : List StateValue) (k : ℕ) (o : TaskOutput) (v : Value) (values new : List Value) → AreStatesOf c states → IsSoundCode c → slice_get c.outputs k ≡ Some o
    → output_value states o ≡ Some v → new ≡ values ++ v ∷ [] → map kind_of values ≡ map (λ (o : TaskOutput). o.kind) (take k c.outputs) → map kind_of new ≡ map (λ (o : TaskOutput). o.kind) (take (k + 1) c.outputs)
kind_more c states k o v values new fits sound at is pushed so =
    let has = output_has_value c states o fits (sound.each_output k o at) in
    let same : has.0 ≡ v = same_Some has.0 v (sym has.1 ∙ is) in
    let kind : kind_of v ≡ o.kind = ap kind_of (sym same) ∙ has.2 in
    ap (map kind_of) pushed ∙ map_push kind_of values v
    ∙ ap (λ x. map kind_of values ++ x ∷ []) kind
    ∙ mapped_more (λ (o : TaskOutput). o.kind) c.outputs k o (map kind_of values) at so
