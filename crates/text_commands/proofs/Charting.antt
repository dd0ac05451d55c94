-- A line of a chart grows by one value after the other.
use Rattle.std.proofs.Common.{◌≡◌, ℕ, ◌+◌, ◌<◌, ◌++◌, List, [], ◌∷◌, Option, Some, None, length, take, get_or, max, inl, inr, refl, sym, ap, ap₂, ◌∙◌, append_assoc, add-one, arith}
use Rattle.std.proofs.lemmas.List.{take_more}
use Rattle.std.proofs.lemmas.List.Sums.{fold-append}
use Rattle.std.proofs.lemmas.Option.{slice_get_cases, get_or_from_slice_get}
use Rattle.std.specs.Prelude.{slice_get}
use Rattle.std.specs.Option.{option_to_list, option_map_or}
use Rattle.std_blocks.specs.declared.value.Value.{Value}
use Rattle.declared_names.specs.declared.declarations.Declaration.{Declaration}
use Rattle.scan_steps.specs.declared.slot.Slot.{Slot}
use Rattle.scan_steps.specs.Slots.{variable_at}
use Rattle.power_flow.specs.StateValue.{StateValue}
use Rattle.text_commands.specs.Chart.{chart_line, chart_lines, name_width, sign_of, signs_of, values_at, width_of}
use Rattle.text_commands.specs.Steps.Testing.{last_of, slots_of}
use Rattle.text_commands.proofs.Tracing.{states_more}

signs-append : (before : Option Value) (vs us : List Value) → signs_of before (vs ++ us) ≡ signs_of before vs ++ signs_of (last_of before vs) us
signs-append before [] us = refl
signs-append before (v ∷ vs) us = ap (λ l. sign_of before v ++ l) (signs-append (Some v) vs us) ∙ sym (append_assoc (sign_of before v) (signs_of (Some v) vs) (signs_of (last_of (Some v) vs) us))

last-append : (before : Option Value) (vs us : List Value) → last_of before (vs ++ us) ≡ last_of (last_of before vs) us
last-append before [] us = refl
last-append before (v ∷ vs) us = last-append (Some v) vs us

-- the values with that of one state more
pub values_more : (place : ℕ) (states : List StateValue) (i : ℕ) (x : StateValue) (value : Option Value) → i < length states → x ≡ get_or states i x → value ≡ variable_at x.slots place
    → values_at place (slots_of (take (i + 1) states)) ≡ values_at place (slots_of (take i states)) ++ option_to_list value
values_more place states i x value lt x_is value_is =
    let vs = values_at place (slots_of (take i states)) in
    states_more (λ slots. option_to_list (variable_at slots place)) states i x lt
    ∙ ap (λ (s : StateValue). vs ++ option_to_list (variable_at s.slots place)) (sym x_is) ∙ ap (λ v. vs ++ option_to_list v) (sym value_is)

-- the signs with those of one state more
pub signs_more : (place : ℕ) (states : List StateValue) (i : ℕ) (x : StateValue) (value : Option Value) (first line line' : List ℕ) (before : Option Value) → i < length states → x ≡ get_or states i x
    → value ≡ variable_at x.slots place → line ≡ first ++ signs_of None (values_at place (slots_of (take i states))) → before ≡ last_of None (values_at place (slots_of (take i states)))
    → line' ≡ line ++ signs_of before (option_to_list value) → line' ≡ first ++ signs_of None (values_at place (slots_of (take (i + 1) states)))
signs_more place states i x value first line line' before lt x_is value_is is last more =
    let vs = values_at place (slots_of (take i states)) in
    let us = option_to_list value in
    more ∙ ap₂ (λ l b. l ++ signs_of b us) is last ∙ append_assoc first (signs_of None vs) (signs_of (last_of None vs) us)
    ∙ ap (λ l. first ++ l) (sym (signs-append None vs us)) ∙ ap (λ l. first ++ signs_of None l) (sym (values_more place states i x value lt x_is value_is))

pub last_more : (place : ℕ) (states : List StateValue) (i : ℕ) (x : StateValue) (value before before' : Option Value) → i < length states → x ≡ get_or states i x
    → value ≡ variable_at x.slots place → before ≡ last_of None (values_at place (slots_of (take i states))) → before' ≡ last_of before (option_to_list value)
    → before' ≡ last_of None (values_at place (slots_of (take (i + 1) states)))
last_more place states i x value before before' lt x_is value_is last more =
    let vs = values_at place (slots_of (take i states)) in
    let us = option_to_list value in
    more ∙ ap (λ b. last_of b us) last ∙ sym (last-append None vs us) ∙ ap (last_of None) (sym (values_more place states i x value lt x_is value_is))

-- the greatest width with that of one name more
pub width_more : (ds : List Declaration) (i most w most' : ℕ) → i < length ds → most ≡ name_width (take i ds) → w ≡ option_map_or width_of (slice_get ds i) 0 → most' ≡ max most w
    → most' ≡ name_width (take (i + 1) ds)
width_more ds i most w most' lt is w_is more = elim ((slice_get_cases ds i).1) [
  | inl found ↦ (let e = found.0 in
      let at : get_or ds i e ≡ e = get_or_from_slice_get ds i e e found.2 in
      let width : w ≡ width_of e = w_is ∙ ap (λ o. option_map_or width_of o 0) found.2 in
      let all : name_width (take (i + 1) ds) ≡ max (name_width (take i ds)) (width_of e) = ap (λ l. name_width l) (take_more ds i e lt ∙ ap (λ x. take i ds ++ x ∷ []) at) ∙ fold-append (λ most d. max most (width_of d)) 0 (take i ds) (e ∷ []) in
      more ∙ ap₂ max is width ∙ sym all)
  | inr past ↦ absurd (let long = past.0 in omega (arith, lt, long))
]

-- the chart with one line more
pub lines_more : (ds : List Declaration) (states : List (List Slot)) (place width : ℕ) (text text' : List ℕ) → text ≡ chart_lines ds states place → width ≡ name_width ds
    → text' ≡ text ++ option_map_or (chart_line width states place) (slice_get ds place) [] → text' ≡ chart_lines ds states (place + 1)
lines_more ds states place width text text' is wide more =
    rw add-one (more ∙ ap₂ (λ l w. l ++ option_map_or (chart_line w states place) (slice_get ds place) []) is wide)
