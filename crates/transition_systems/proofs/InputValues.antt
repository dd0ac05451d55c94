-- Values of inputs.
use Rattle.std.proofs.Common.{◌≡◌, ℕ, ◌+◌, ◌<◌, Bool, false, not, cond, List, ◌++◌, Some, length, get_or, map, ap, sym, ◌∙◌, arith, subst, ⊎_elim}
use Rattle.std.proofs.lemmas.List.{ext_get_or, get_or-append-add, get_or-map, get_or_append_left, length-map}
use Rattle.std.proofs.lemmas.Option.{same_Some, slice_get-get_or}
use Rattle.std.proofs.lemmas.Bool.{cases_lt}
use Rattle.std.specs.Prelude.{slice_get}
use Rattle.gates.specs.declared.signal.Signal.{Signal}
use Rattle.gates.specs.declared.gates.Gate.{Gate}
use Rattle.gates.specs.Signals.{bit_of, signal_value}
use Rattle.gates.specs.Gates.{AreValues, HaveValues}
use Rattle.transition_systems.specs.declared.system.TransitionSystem.{TransitionSystem}
use Rattle.transition_systems.specs.Systems.{AreValuesAt, IsWhole, bits_at}
use Rattle.transition_systems.specs.Steps.Inputs.{AreInputs, IsInput, IsLaidOut}

-- the signal of an input has its value
input_value : (gates : List Gate) (v inputs : ℕ → Bool) (number : ℕ) (s : Signal) → IsInput gates number s
    → AreValues inputs gates v → signal_value v s ≡ inputs number
input_value gates v inputs number s is are =
    ap (λ b. cond b (not (v s.variable)) (v s.variable)) is.0 ∙ are.given s.variable number is.1

-- so do those of many
bits_are : (gates : List Gate) (v inputs : ℕ → Bool) (from : ℕ) (signals : List Signal) (bits : List Bool) → AreInputs gates from signals
    → AreValues inputs gates v → length bits ≡ length signals
    → ((k : ℕ) → k < length bits → inputs (from + k) ≡ get_or bits k false) → bits_at v signals ≡ bits
bits_are gates v inputs from signals bits are values long reads =
    let d : Signal = record { variable = 0; is_negated = false } in
    ext_get_or false (map (signal_value v) signals) bits (length-map signals (signal_value v) ∙ sym long)
    (λ k lt.
    let within : k < length signals = omega (arith, length-map signals (signal_value v)) in
    get_or-map (signal_value v) signals k d false within
    ∙ input_value gates v inputs (from + k) (get_or signals k d) (are k (get_or signals k d) (slice_get-get_or signals k d within)) values
    ∙ reads k (omega arith))

-- in a state under a row of inputs, the variables have the values of the gates' inputs
values_at : (t : TransitionSystem) (state row : List Bool) (v : ℕ → Bool) → AreInputs t.gates 0 t.state.items
    → AreInputs t.gates (length t.state.items) t.inputs.items → length state ≡ length t.state.items → length row ≡ length t.inputs.items
    → AreValues (bit_of (state ++ row)) t.gates v → AreValuesAt t state row v
values_at t state row v states inputs state_long row_long are = record {
  agree = are.agree;
  state_is = bits_are t.gates v (bit_of (state ++ row)) 0 t.state.items state states are state_long
      (λ k lt. let same : 0 + k ≡ k = omega arith in ap (bit_of (state ++ row)) same ∙ get_or_append_left state row false k lt);
  row_is = bits_are t.gates v (bit_of (state ++ row)) (length t.state.items) t.inputs.items row inputs are row_long
      (λ k lt. ap (λ n. bit_of (state ++ row) (n + k)) (sym state_long) ∙ get_or-append-add state row k false);
}

-- a system whose parts fit together goes on
pub whole : (t : TransitionSystem) → length t.first.items ≡ length t.state.items → length t.next.items ≡ length t.state.items
    → HaveValues t.gates → AreInputs t.gates 0 t.state.items → AreInputs t.gates (length t.state.items) t.inputs.items → IsWhole t
whole t first next have states inputs = record {
  first_fits = first;
  next_fits = next;
  steps = λ state row state_long row_long.
      let found = have (bit_of (state ++ row)) in
      (found.0, values_at t state row found.0 states inputs state_long row_long found.1);
}

-- one input more
pub inputs_more : (gates : List Gate) (from : ℕ) (signals : List Signal) (i number : ℕ) (item : Signal) → slice_get signals i ≡ Some item
    → number ≡ from + i → IsInput gates number item
    → ((k : ℕ) (s : Signal) → k < i → slice_get signals k ≡ Some s → IsInput gates (from + k) s)
    → (k : ℕ) (s : Signal) → k < i + 1 → slice_get signals k ≡ Some s → IsInput gates (from + k) s
inputs_more gates from signals i number item here e is below k s lt at =
    ⊎_elim
    (λ less. below k s less at)
    (λ le.
    let same : i ≡ k = omega arith in
    let found : item ≡ s = same_Some item s (sym here ∙ ap (slice_get signals) same ∙ at) in
    let number_is : number ≡ from + k = e ∙ ap (λ n. from + n) same in
    subst (λ (n : ℕ). IsInput gates n s) number_is (subst (λ (m : Signal). IsInput gates number m) found is))
    (cases_lt k i)

-- values of a system whose signals are laid out
pub laid_out_values : (t : TransitionSystem) (state row : List Bool) (v : ℕ → Bool) → IsLaidOut t → length state ≡ length t.state.items
    → length row ≡ length t.inputs.items → AreValues (bit_of (state ++ row)) t.gates v → AreValuesAt t state row v
laid_out_values t state row v is state_long row_long are =
    values_at t state row v is.states is.inputs state_long row_long are
