-- The task meaning has one result.
use Rattle.std.proofs.Common.{◌≡◌, ◌≢◌, ◌⊎◌, ℕ, zero, suc, inl, inr, List, [], ◌∷◌, slice_get, map, Bool, Option, Some, None, arith, refl, sym, ap, ◌∙◌, subst}
use Rattle.std.proofs.lemmas.Bool.{cases_eq}
use Rattle.std.proofs.lemmas.Option.{slice_get_within, same_Some}
use Rattle.network.specs.Links.{Diagram}
use Rattle.declared_names.specs.declared.declarations.Declaration.{Declaration}
use Rattle.scan_steps.specs.declared.slot.Slot.{Slot}
use Rattle.power_flow.specs.StateValue.{StateValue, IsSame}
use Rattle.scan_steps.specs.Slots.{variable_at}
use Rattle.power_flow.specs.Scan.{AllAreWide, ScanMeaning}
use Rattle.std.specs.Option.{option_and_then}
use Rattle.lists.proofs.Places.{element_at, same_by_slice_get, somes_same}
use Rattle.evaluation.specs.Steps.Facts.{same_as_itself, states_of_one}
use Rattle.power_flow.specs.LadderValue.{LadderValue}
use Rattle.task_codes.specs.declared.binding.Binding.{Binding}
use Rattle.task_codes.specs.declared.task_output.TaskOutput.{TaskOutput}
use Rattle.task_codes.specs.CodeValue.{CodeValue, bindings_at}
use Rattle.evaluation.specs.declared.field_input.FieldInput.{FieldInput}
use Rattle.evaluation.specs.declared.take.Take.{Take}
use Rattle.evaluation.specs.Meaning.{Evaluated, IsUnbound, AreFilled, IsFilled, IsScanned, AllFilled, AllScanned, Means, IsMeant, IsAsked, evaluated, output_value}
use Rattle.evaluation.specs.Laws.{OneMeaning, OneEvaluation}
use Rattle.evaluation.specs.States.{AreStatesOf, AreSame}
use Rattle.evaluation.proofs.MappedLists.{found_not_none}

-- a place is bound by some binding, or by none
bound_or_not : (bindings : List Binding) (place : ℕ) → ((j : ℕ) × (b : Binding) × (slice_get bindings j ≡ Some b) × (b.place ≡ place)) ⊎ IsUnbound bindings place
bound_or_not [] place = inr (λ j b at. absurd cc)
bound_or_not (a ∷ more) place = by (cases_eq a.place place) (bound_or_not more place)
  where
    by : (a.place ≡ place) ⊎ (a.place ≢ place) → ((j : ℕ) × (b : Binding) × (slice_get more j ≡ Some b) × (b.place ≡ place)) ⊎ IsUnbound more place
        → ((j : ℕ) × (b : Binding) × (slice_get (a ∷ more) j ≡ Some b) × (b.place ≡ place)) ⊎ IsUnbound (a ∷ more) place
    by (inl here) rest = inl (zero, a, refl, here)
    by (inr ne) (inl found) = inl (suc found.0, found.1, found.2, found.3)
    by (inr ne) (inr none) = inr each where
      each : IsUnbound (a ∷ more) place
      each zero b at same = ne (ap (λ (x : Binding). x.place) (same_Some a b at) ∙ same)
      each (suc j) b at same = none j b at same

slots_same : (inputs : List FieldInput) (takes : List Take) (bindings : List Binding) (slots slots2 x y : List Slot) → slots ≡ slots2
    → AreFilled inputs takes bindings slots x → AreFilled inputs takes bindings slots2 y → x ≡ y
slots_same inputs takes bindings slots slots2 x y same a b = same_by_slice_get x y (λ place. by place (bound_or_not bindings place))
  where
    by : (place : ℕ) → ((j : ℕ) × (b : Binding) × (slice_get bindings j ≡ Some b) × (b.place ≡ place)) ⊎ IsUnbound bindings place → slice_get x place ≡ slice_get y place
    by place (inl found) = subst (λ (k : ℕ). slice_get x k ≡ slice_get y k) found.3 (a.bound found.0 found.1 found.2 ∙ sym (b.bound found.0 found.1 found.2))
    by place (inr none) = a.unbound place none ∙ ap (λ (l : List Slot). slice_get l place) same ∙ sym (b.unbound place none)

filled_same : (inputs : List FieldInput) (takes : List Take) (bindings : List Binding) (s s2 x y : StateValue) → IsSame s s2
    → IsFilled inputs takes bindings s x → IsFilled inputs takes bindings s2 y → IsSame x y
filled_same inputs takes bindings s s2 x y same a b = record {
  slots = slots_same inputs takes bindings s.slots s2.slots x.slots y.slots same.slots a.slots b.slots;
  memories = a.memories ∙ same.memories ∙ sym b.memories;
}

all_filled_same : (c : CodeValue) (inputs : List FieldInput) (takes : List Take) (before before2 x y : List StateValue) → AreSame before before2
    → AllFilled c inputs takes before x → AllFilled c inputs takes before2 y → AreSame x y
all_filled_same c inputs takes before before2 x y same a b = record {
  many = a.many ∙ same.many ∙ sym b.many;
  each = λ k s t at found.
      let lt = slice_get_within x k s at in
      let a_many = a.many in
      let many = same.many in
      let was = element_at before k (omega arith) in
      let was2 = element_at before2 k (omega arith) in
      filled_same inputs takes (bindings_at c k) was.0 was2.0 s t (same.each k was.0 was2.0 was.1 was2.1) (a.each k was.0 s was.1 at) (b.each k was2.0 t was2.1 found);
}

-- a scan has one result, as power_flow promises
abbrev pub OneScan : Type 0
OneScan =
    (ds : List Declaration) (dt : ℕ) (networks : List Diagram) (slots : List Slot) (ms : List Bool) (a b : List Slot) (one two : List Bool)
    → AllAreWide networks → ScanMeaning ds dt networks slots ms a one → ScanMeaning ds dt networks slots ms b two → (a ≡ b) × (one ≡ two)

scanned_same : OneScan → (l : LadderValue) (dt : ℕ) (s s2 x y : StateValue) → IsSame s s2 → IsScanned l dt s x → IsScanned l dt s2 y → IsSame x y
scanned_same one_scan l dt s s2 x y same a b =
    let memories : ScanMeaning l.declarations dt l.networks s2.slots s.memories y.slots y.memories =
    subst (λ (ms : List Bool). ScanMeaning l.declarations dt l.networks s2.slots ms y.slots y.memories) (sym same.memories) b.scan in
    let slots : ScanMeaning l.declarations dt l.networks s.slots s.memories y.slots y.memories =
    subst (λ (x : List Slot). ScanMeaning l.declarations dt l.networks x s.memories y.slots y.memories) (sym same.slots) memories in
    let one = one_scan l.declarations dt l.networks s.slots s.memories x.slots y.slots x.memories y.memories a.wide a.scan slots in
    record { slots = one.0; memories = one.1 }

all_scanned_same : OneScan → (c : CodeValue) (dt : ℕ) (filled filled2 x y : List StateValue) → AreSame filled filled2 → AllScanned c dt filled x → AllScanned c dt filled2 y → AreSame x y
all_scanned_same one_scan c dt filled filled2 x y same a b = record {
  many = a.as_many ∙ same.many ∙ sym b.as_many;
  each = λ k s t at found.
      let lt = slice_get_within x k s at in
      let as_many = a.as_many in
      let many = a.many in
      let both = same.many in
      let was = element_at filled k (omega arith) in
      let was2 = element_at filled2 k (omega arith) in
      let p = element_at c.programs k (omega arith) in
      scanned_same one_scan (p.0).ladder dt was.0 was2.0 s t (same.each k was.0 was2.0 was.1 was2.1) (a.each k p.0 was.0 s p.1 was.1 at) (b.each k p.0 was2.0 t p.1 was2.1 found);
}

-- an output has one value in states that are the same
output_same : (a b : List StateValue) (o : TaskOutput) → AreSame a b → output_value a o ≡ output_value b o
output_same a b o same = by (slice_get a o.program) (slice_get b o.program) refl refl
  where
    by : (p q : Option StateValue) → slice_get a o.program ≡ p → slice_get b o.program ≡ q → output_value a o ≡ output_value b o
    by None None e f = ap (option_and_then (λ (s : StateValue). variable_at s.slots o.place)) (e ∙ sym f)
    by None (Some t) e f = (let lt = slice_get_within b o.program t f in let many = same.many in absurd (found_not_none a o.program (omega arith) e))
    by (Some s) None e f = (let lt = slice_get_within a o.program s e in let many = same.many in absurd (found_not_none b o.program (omega arith) f))
    by (Some s) (Some t) e f =
        ap (option_and_then (λ (s : StateValue). variable_at s.slots o.place)) e
        ∙ ap (λ (slots : List Slot). variable_at slots o.place) (same.each o.program s t e f).slots
        ∙ sym (ap (option_and_then (λ (s : StateValue). variable_at s.slots o.place)) f)

outputs_same : (a b : List StateValue) → AreSame a b → (outputs : List TaskOutput) → map (output_value a) outputs ≡ map (output_value b) outputs
outputs_same a b same [] = refl
outputs_same a b same (o ∷ outputs) =
    ap (λ v. v ∷ map (output_value a) outputs) (output_same a b o same) ∙ ap (λ vs. output_value b o ∷ vs) (outputs_same a b same outputs)

pub one_meaning : OneScan → OneMeaning
unfolding Means
one_meaning one_scan c inputs takes dt before before2 outputs outputs2 after after2 same a b =
    let filled = all_filled_same c inputs takes before before2 a.filled b.filled same a.inputs_filled b.inputs_filled in
    let left = all_scanned_same one_scan c dt a.filled b.filled after after2 filled a.programs_scanned b.programs_scanned in
    (somes_same outputs outputs2 (a.outputs_read ∙ outputs_same after after2 left c.outputs ∙ sym b.outputs_read), left)

pub one_evaluation : OneMeaning → OneEvaluation
one_evaluation one_meaning ticket name heard dt inputs takes before code x y a b =
    a.is ∙ ap (λ o. evaluated ticket name heard dt inputs takes before code o x.after) same.0 ∙ ap (λ s. evaluated ticket name heard dt inputs takes before code y.outputs s) left ∙ sym b.is
  where
    means : (z : Evaluated) → IsAsked ticket name heard dt inputs takes before code z → Means code inputs takes dt before z.outputs z.after
    means z c = subst IsMeant c.is c.meant

    fits : (z : Evaluated) → IsAsked ticket name heard dt inputs takes before code z → AreStatesOf code z.after
    fits z c = subst (λ (k : CodeValue). AreStatesOf k z.after) (ap (λ (e : Evaluated). e.code) c.is) c.whole.after_fits

    same : (x.outputs ≡ y.outputs) × AreSame x.after y.after
    same = one_meaning code inputs takes dt before before x.outputs y.outputs x.after y.after (same_as_itself before) (means x a) (means y b)

    left : x.after ≡ y.after
    left = states_of_one code x.after y.after (fits x a) (fits y b) same.1
