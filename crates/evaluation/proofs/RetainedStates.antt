-- Retained variables in the states of a task, and states that are given their values.
use Rattle.std.proofs.Common.{◌≡◌, ℕ, suc, ◌+◌, ◌<◌, List, [], ◌∷◌, length, map, slice_get, set, length-set, Some, arith, refl, sym, ap, ◌∙◌, subst, unwrap_or, fold, take, get_or, ◌≤◌, ◌≢◌, ◌⊎◌, inl, inr, zero}
use Rattle.std.specs.Option.{option_and_then}
use Rattle.std.proofs.lemmas.Option.{slice_get_within, same_Some}
use Rattle.lists.proofs.Places.{element_at, slice_get-set_same, slice_get-set_other}
use Rattle.std_blocks.specs.declared.value.Value.{Value}
use Rattle.declared_names.specs.declared.declarations.Declared.{Declared}
use Rattle.declared_names.specs.declared.declarations.Declared.TheVariants.{Input, Output, Local, Instance}
use Rattle.declared_names.specs.Kinds.{kind_of, value_first}
use Rattle.scan_steps.specs.declared.slot.Slot.{Slot}
use Rattle.scan_steps.specs.declared.slot.Slot.TheVariants.{Variable, Block}
use Rattle.scan_steps.specs.Slots.{variable_of, variable_at, IsSlotOf, AreSlotsOf}
use Rattle.declared_names.specs.declared.declarations.Declaration.{Declaration}
use Rattle.power_flow.specs.StateValue.{StateValue, with_variable}
use Rattle.power_flow.specs.LadderValue.{LadderValue, Fits}
use Rattle.task_codes.specs.declared.retained_variable.RetainedVariable.{RetainedVariable}
use Rattle.task_codes.specs.CodeValue.{ProgramValue, CodeValue, IsRetainedOf, IsSoundCode, local_kind}
use Rattle.evaluation.specs.States.{AreStatesOf}
use Rattle.evaluation.specs.Retained.{Suits, initial_retained, retained_value, retained_values, with_value}
use Rattle.evaluation.specs.Steps.Warming.{HasPlace}
use Rattle.std.proofs.lemmas.Bool.{cases_eq}
use Rattle.std.specs.List.{zip}
use Rattle.std.proofs.lemmas.List.{take_more, take_all, length-map}
use Rattle.std.proofs.lemmas.List.Sums.{fold-append}
use Rattle.std.proofs.lemmas.Slice.Zip.{length-zip, get_or-zip}

-- at the place of a retained variable stands a variable of its kind
pub retained_has_value : (c : CodeValue) (states : List StateValue) (v : RetainedVariable) → AreStatesOf c states → IsRetainedOf c v
    → (s : StateValue) × (slice_get states v.program ≡ Some s) × (x : Value) × (variable_at s.slots v.place ≡ Some x) × (kind_of x ≡ v.kind)
retained_has_value c states v fits is =
    let many = fits.many in
    let run = slice_get_within c.programs v.program is.program is.run in
    let state = element_at states v.program (omega arith) in
    let slots = (fits.each v.program is.program state.0 is.run state.1).slots in
    let long = slots.long in
    let place = slice_get_within (is.program).ladder.declarations v.place is.variable is.declared in
    let slot = element_at (state.0).slots v.place (omega arith) in
    let found = of (is.variable).declared slot.0 is.kind_is (slots.each v.place is.variable slot.0 is.declared slot.1) in
    (state.0, state.1, found.0, ap (option_and_then variable_of) slot.1 ∙ found.1, found.2)
  where
    of : (e : Declared) (s : Slot) → local_kind e ≡ Some v.kind → IsSlotOf e s → (x : Value) × (variable_of s ≡ Some x) × (kind_of x ≡ v.kind)
    of (Input j) s e h = absurd cc
    of (Output j) s e h = absurd cc
    of (Local j) (Variable x) e h = (x, refl, h ∙ same_Some j v.kind e)
    of (Local j) (Block b) e h = absurd h
    of (Instance b) s e h = absurd cc

one_kind : (c : CodeValue) (states : List StateValue) (v : RetainedVariable) → AreStatesOf c states → IsRetainedOf c v → kind_of (retained_value states v) ≡ v.kind
one_kind c states v fits is =
    let found = retained_has_value c states v fits is in
    let there : option_and_then (λ (s : StateValue). variable_at s.slots v.place) (slice_get states v.program) ≡ Some found.2 =
    ap (option_and_then (λ (s : StateValue). variable_at s.slots v.place)) found.1 ∙ found.3 in
    ap (λ o. kind_of (unwrap_or o (value_first v.kind))) there ∙ found.4

kinds_by_each : (f : RetainedVariable → Value) (vs : List RetainedVariable) → ((k : ℕ) (v : RetainedVariable) → slice_get vs k ≡ Some v → kind_of (f v) ≡ v.kind)
    → map kind_of (map f vs) ≡ map (λ (v : RetainedVariable). v.kind) vs
kinds_by_each f [] h = refl
kinds_by_each f (v ∷ vs) h =
    let first : kind_of (f v) ≡ v.kind = h 0 v refl in
    let rest : map kind_of (map f vs) ≡ map (λ (v : RetainedVariable). v.kind) vs = kinds_by_each f vs (λ k. h (suc k)) in
    cc

-- what states have in the retained variables suits the code
pub values_suit : (c : CodeValue) (states : List StateValue) → IsSoundCode c → AreStatesOf c states → Suits c (retained_values c states)
values_suit c states sound fits = kinds_by_each (retained_value states) c.retained (λ k v at. one_kind c states v fits (sound.each_retained k v at))

-- a value of a retained variable's kind has its place
pub has_place : (c : CodeValue) (states : List StateValue) (v : RetainedVariable) (x : Value) → AreStatesOf c states → IsRetainedOf c v → kind_of x ≡ v.kind → HasPlace states v x
has_place c states v x fits is kind_is =
    let found = retained_has_value c states v fits is in
    (found.0, found.1, (found.2, found.3, found.4 ∙ sym kind_is))

-- values are of the kinds of retained variables, where that is so at each place
pub kinds_at_each : (xs : List Value) (vs : List RetainedVariable) → length xs ≡ length vs
    → ((k : ℕ) (x : Value) (v : RetainedVariable) → slice_get xs k ≡ Some x → slice_get vs k ≡ Some v → kind_of x ≡ v.kind)
    → map kind_of xs ≡ map (λ (v : RetainedVariable). v.kind) vs
kinds_at_each [] [] l h = refl
kinds_at_each [] (v ∷ vs) l h = absurd (omega arith)
kinds_at_each (x ∷ xs) [] l h = absurd (omega arith)
kinds_at_each (x ∷ xs) (v ∷ vs) l h =
    let first : kind_of x ≡ v.kind = h 0 x v refl refl in
    let rest : map kind_of xs ≡ map (λ (v : RetainedVariable). v.kind) vs = kinds_at_each xs vs (omega arith) (λ k. h (suc k)) in
    cc

-- and the other way round
pub kind_at : (xs : List Value) (vs : List RetainedVariable) → map kind_of xs ≡ map (λ (v : RetainedVariable). v.kind) vs
    → (k : ℕ) (x : Value) (v : RetainedVariable) → slice_get xs k ≡ Some x → slice_get vs k ≡ Some v → kind_of x ≡ v.kind
kind_at [] [] e k x v at found = absurd cc
kind_at [] (w ∷ vs) e k x v at found = absurd cc
kind_at (y ∷ xs) [] e k x v at found = absurd cc
kind_at (y ∷ xs) (w ∷ vs) e zero x v at found = ap (λ (z : Value). kind_of z) (sym (same_Some y x at)) ∙ head_same e ∙ ap (λ (z : RetainedVariable). z.kind) (same_Some w v found)
  where
    head_same : map kind_of (y ∷ xs) ≡ map (λ (v : RetainedVariable). v.kind) (w ∷ vs) → kind_of y ≡ w.kind
    head_same h = cc
kind_at (y ∷ xs) (w ∷ vs) e (suc k) x v at found = kind_at xs vs (let t : map kind_of xs ≡ map (λ (v : RetainedVariable). v.kind) vs = cc in t) k x v at found

-- one of the states of a code is changed, and still fits each ladder that it fitted
pub changed_fits : (c : CodeValue) (states : List StateValue) (n : ℕ) (s t : StateValue) → AreStatesOf c states → slice_get states n ≡ Some s
    → ((l : LadderValue) → Fits l s → Fits l t) → AreStatesOf c (set states n t)
changed_fits c states n s t fits at keeps =
    record {
      many = length-set states n t ∙ fits.many;
      each = λ i p u here there. by i p u here there (cases_eq i n);
    }
  where
    by : (i : ℕ) (p : ProgramValue) (u : StateValue) → slice_get c.programs i ≡ Some p → slice_get (set states n t) i ≡ Some u → (i ≡ n) ⊎ (i ≢ n) → Fits p.ladder u
    by i p u here there (inl same) =
        let is : t ≡ u = same_Some t u (sym (slice_get-set_same states n t (slice_get_within states n s at)) ∙ ap (slice_get (set states n t)) (sym same) ∙ there) in
        subst (Fits p.ladder) is (keeps p.ladder (fits.each i p s here (ap (slice_get states) same ∙ at)))
    by i p u here there (inr ne) = fits.each i p u here (sym (slice_get-set_other states n i t ne) ∙ there)

-- the first values, variable by variable
pub first_values_are : (c : CodeValue) (xs : List Value) → xs ≡ map (λ (v : RetainedVariable). value_first v.kind) c.retained → xs ≡ initial_retained c
first_values_are c xs e = e ∙ of c.retained
  where
    of : (vs : List RetainedVariable) → map (λ (v : RetainedVariable). value_first v.kind) vs ≡ map value_first (map (λ (v : RetainedVariable). v.kind) vs)
    of [] = refl
    of (v ∷ vs) = ap (λ (l : List Value). value_first v.kind ∷ l) (of vs)

-- a variable is changed, and the state still fits each ladder that it fitted
pub variable_fits : (l : LadderValue) (s t : StateValue) (place : ℕ) (x : Value) → t ≡ with_variable s place x
    → ((ds : List Declaration) → AreSlotsOf ds s.slots → AreSlotsOf ds t.slots) → Fits l s → Fits l t
variable_fits l s t place x is declared fits = record {
  slots = declared l.declarations fits.slots;
  memories = ap (λ (y : StateValue). length y.memories) is ∙ fits.memories;
  waiting_links = ap (λ (y : StateValue). y.waiting_links) is ∙ fits.waiting_links;
  waiting_results = ap (λ (y : StateValue). y.waiting_results) is ∙ fits.waiting_results;
}

pub as_many : (xs : List Value) (vs : List RetainedVariable) → map kind_of xs ≡ map (λ (v : RetainedVariable). v.kind) vs → length xs ≡ length vs
as_many xs vs e = sym (length-map xs kind_of) ∙ ap length e ∙ length-map vs (λ (v : RetainedVariable). v.kind)

-- one more of the values is set
pub set_more : (old now : List StateValue) (vs : List RetainedVariable) (xs : List Value) (k : ℕ) (d : RetainedVariable) (e : Value) → k < length vs → length xs ≡ length vs
    → now ≡ fold with_value old (take k (zip vs xs)) → with_value now (get_or vs k d, get_or xs k e) ≡ fold with_value old (take (k + 1) (zip vs xs))
set_more old now vs xs k d e lt many is =
    let pair : get_or (zip vs xs) k (d, e) ≡ (get_or vs k d, get_or xs k e) = get_or-zip vs xs k (d, e) lt (omega arith) in
    let long : k < length (zip vs xs) = omega (arith, length-zip vs xs) in
    let step : fold with_value old (take (k + 1) (zip vs xs)) ≡ with_value (fold with_value old (take k (zip vs xs))) (get_or (zip vs xs) k (d, e)) =
    ap (fold with_value old) (take_more (zip vs xs) k (d, e) long) ∙ fold-append with_value old (take k (zip vs xs)) (get_or (zip vs xs) k (d, e) ∷ []) in
    ap (λ s. with_value s (get_or vs k d, get_or xs k e)) is ∙ ap (with_value (fold with_value old (take k (zip vs xs)))) (sym pair) ∙ sym step

pub set_all : (old now : List StateValue) (vs : List RetainedVariable) (xs : List Value) (k : ℕ) → length vs ≤ k
    → now ≡ fold with_value old (take k (zip vs xs)) → now ≡ fold with_value old (zip vs xs)
set_all old now vs xs k le is = is ∙ ap (fold with_value old) (take_all k (zip vs xs) (omega (arith, length-zip vs xs)))
