-- Values of variables, by their gates.
use Rattle.std.proofs.Common.{◌≡◌, ℕ, zero, suc, ◌+◌, ◌-◌, ◌<◌, ◌≤◌, Bool, false, not, cond, List, [], ◌∷◌, ◌++◌, Some, length, get_or, refl, ap, sym, ◌∙◌, ⊎_elim, add-one, subst, arith}
use Rattle.std.proofs.lemmas.Bool.{cases_lt, cases_order, eq-eqb, ne_eqb}
use Rattle.std.proofs.lemmas.List.{get_or_append_left, get_or_past, get_or_push, length_push}
use Rattle.std.proofs.lemmas.Option.{get_or_from_slice_get, same_Some, slice_get_within}
use Rattle.std.specs.Prelude.{slice_get}
use Rattle.gates.specs.declared.signal.Signal.{Signal}
use Rattle.gates.specs.declared.gates.Gate.{Gate}
use Rattle.gates.specs.declared.gates.Gate.TheVariants.{Off, Input, And}
use Rattle.gates.specs.Signals.{bit_of, signal_value}
use Rattle.gates.specs.Gates.{AreValues, IsBefore, IsGate, IsOrdered}
use Rattle.gates.specs.Steps.Values.{first_values, own_value}

-- a signal under values that agree at its variable
pub signal_same : (v w : ℕ → Bool) (s : Signal) → v s.variable ≡ w s.variable → signal_value v s ≡ signal_value w s
signal_same v w s same = ap (λ b. cond s.is_negated (not b) b) same

-- a gate under values that agree below its number
pub own_same : (inputs v w : ℕ → Bool) (g : Gate) (k : ℕ) → IsBefore k g → ((j : ℕ) → j < k → v j ≡ w j)
    → own_value inputs v g ≡ own_value inputs w g
own_same inputs v w Off k before same = refl
own_same inputs v w (Input i) k before same = refl
own_same inputs v w (And left right) k before same =
    let one = signal_same v w left (same left.variable before.0) in
    let two = signal_same v w right (same right.variable before.1) in
    cc

-- a gate under values that agree everywhere
pub own_equal : (inputs v w : ℕ → Bool) (g : Gate) → ((j : ℕ) → v j ≡ w j) → own_value inputs v g ≡ own_value inputs w g
own_equal inputs v w Off same = refl
own_equal inputs v w (Input i) same = refl
own_equal inputs v w (And left right) same =
    let one = signal_same v w left (same left.variable) in
    let two = signal_same v w right (same right.variable) in
    cc

-- the last of the first values
pub first_last : (inputs : ℕ → Bool) (gates : List Gate) (n : ℕ)
    → first_values inputs gates (suc n) n ≡ own_value inputs (first_values inputs gates n) (get_or gates n Off)
first_last inputs gates n =
    ap (λ b. cond b (own_value inputs (first_values inputs gates n) (get_or gates n Off)) (first_values inputs gates n n)) (eq-eqb n n refl)

-- the others
pub first_other : (inputs : ℕ → Bool) (gates : List Gate) (n k : ℕ) → (k ≡ n → ⊥) → first_values inputs gates (suc n) k ≡ first_values inputs gates n k
first_other inputs gates n k ne =
    ap (λ b. cond b (own_value inputs (first_values inputs gates n) (get_or gates n Off)) (first_values inputs gates n k)) (ne_eqb k n ne)

-- a variable keeps its value
first_stays : (inputs : ℕ → Bool) (gates : List Gate) (n m k : ℕ) → k < n → first_values inputs gates (m + n) k ≡ first_values inputs gates n k
first_stays inputs gates n zero k lt = let e : 0 + n ≡ n = omega arith in ap (λ j. first_values inputs gates j k) e
first_stays inputs gates n (suc m) k lt =
    let e : suc m + n ≡ suc (m + n) = omega arith in
    let ne : k ≡ m + n → ⊥ = λ same. omega arith in
    ap (λ j. first_values inputs gates j k) e ∙ first_other inputs gates (m + n) k ne ∙ first_stays inputs gates n m k lt

-- so among more it has the value that it has among the first
pub first_is : (inputs : ℕ → Bool) (gates : List Gate) (n all k : ℕ) → k < n → n ≤ all
    → first_values inputs gates n k ≡ first_values inputs gates all k
first_is inputs gates n all k lt le =
    let e : all - n + n ≡ all = omega arith in
    sym (first_stays inputs gates n (all - n) k lt) ∙ ap (λ j. first_values inputs gates j k) e

own_is_gate : (inputs v : ℕ → Bool) (g : Gate) (on : Bool) → on ≡ own_value inputs v g → IsGate on v g
own_is_gate inputs v Off on e = e
own_is_gate inputs v (Input i) on e = tt
own_is_gate inputs v (And left right) on e = e

-- where the gates are ordered, each variable is what its gate says
own_of_first : (inputs : ℕ → Bool) (gates : List Gate) (k : ℕ) (g : Gate) → slice_get gates k ≡ Some g → IsBefore k g
    → first_values inputs gates (length gates) k ≡ own_value inputs (first_values inputs gates (length gates)) g
own_of_first inputs gates k g at before =
    let all = length gates in
    let lt : k < length gates = slice_get_within gates k g at in
    let is : get_or gates k Off ≡ g = get_or_from_slice_get gates k g Off at in
    let same : own_value inputs (first_values inputs gates k) g ≡ own_value inputs (first_values inputs gates all) g =
    own_same inputs (first_values inputs gates k) (first_values inputs gates all) g k before (λ j less. first_is inputs gates k all j less (omega arith)) in
    sym (first_is inputs gates (suc k) all k (omega arith) (omega arith)) ∙ first_last inputs gates k
    ∙ ap (own_value inputs (first_values inputs gates k)) is ∙ same

pub first_are : (inputs : ℕ → Bool) (gates : List Gate) → IsOrdered gates → AreValues inputs gates (first_values inputs gates (length gates))
first_are inputs gates ordered = record {
  agree = λ k g at. own_is_gate inputs (first_values inputs gates (length gates)) g _ (own_of_first inputs gates k g at (ordered k g at));
  given = λ k number at. own_of_first inputs gates k (Input number) at tt;
}

-- values that are the same are values too
pub same_are : (inputs : ℕ → Bool) (gates : List Gate) (v w : ℕ → Bool) → ((k : ℕ) → w k ≡ v k) → AreValues inputs gates v → AreValues inputs gates w
same_are inputs gates v w same are = record {
  agree = λ k g at. gate_same v w same g (v k) (w k) (same k) (are.agree k g at);
  given = λ k number at. same k ∙ are.given k number at;
}
  where
    gate_same : (v w : ℕ → Bool) → ((k : ℕ) → w k ≡ v k) → (g : Gate) (a b : Bool) → b ≡ a → IsGate a v g → IsGate b w g
    gate_same v w same Off a b e h = e ∙ h
    gate_same v w same (Input i) a b e h = tt
    gate_same v w same (And left right) a b e h =
        let one = signal_same w v left (same left.variable) in
        let two = signal_same w v right (same right.variable) in
        cc

-- one value more
pub values_more : (inputs : ℕ → Bool) (gates : List Gate) (values new : List Bool) (i : ℕ) (g : Gate) → i < length gates
    → get_or gates i Off ≡ g → length values ≡ i → ((k : ℕ) → bit_of values k ≡ first_values inputs gates i k)
    → new ≡ values ++ own_value inputs (bit_of values) g ∷ [] → (k : ℕ) → bit_of new k ≡ first_values inputs gates (i + 1) k
values_more inputs gates values new i g lt is long same e k =
    let own = own_value inputs (bit_of values) g in
    let pushed : bit_of new k ≡ bit_of (values ++ own ∷ []) k = ap (λ (bits : List Bool). bit_of bits k) e in
    let next : suc i ≡ i + 1 = sym (add-one i) in
    let at_next = ap (λ n. first_values inputs gates n k) next in
    ⊎_elim
    (λ here.
    let one : get_or (values ++ own ∷ []) k false ≡ own = get_or_push values own false k (long ∙ sym here) in
    let two : own ≡ own_value inputs (first_values inputs gates i) g = own_equal inputs (bit_of values) (first_values inputs gates i) g same in
    let three : own_value inputs (first_values inputs gates i) g ≡ own_value inputs (first_values inputs gates i) (get_or gates i Off) =
    ap (own_value inputs (first_values inputs gates i)) (sym is) in
    let four : first_values inputs gates (suc i) k ≡ own_value inputs (first_values inputs gates i) (get_or gates i Off) =
    ap (first_values inputs gates (suc i)) here ∙ first_last inputs gates i in
    pushed ∙ one ∙ two ∙ three ∙ sym four ∙ at_next)
    (⊎_elim
    (λ before.
    let ne : k ≡ i → ⊥ = λ e'. omega arith in
    let one : get_or (values ++ own ∷ []) k false ≡ get_or values k false = get_or_append_left values (own ∷ []) false k (omega arith) in
    pushed ∙ one ∙ same k ∙ sym (first_other inputs gates i k ne) ∙ at_next)
    (λ behind.
    let ne : k ≡ i → ⊥ = λ e'. omega arith in
    let one : get_or (values ++ own ∷ []) k false ≡ false =
    get_or_past (values ++ own ∷ []) k false (omega (arith, length_push values own)) in
    let two : get_or values k false ≡ false = get_or_past values k false (omega arith) in
    pushed ∙ one ∙ sym two ∙ same k ∙ sym (first_other inputs gates i k ne) ∙ at_next))
    (cases_order k i)

-- the first gates are ordered, one more
pub ordered_more : (gates : List Gate) (n : ℕ) (item : Gate) → slice_get gates n ≡ Some item → IsBefore n item
    → ((k : ℕ) (g : Gate) → k < n → slice_get gates k ≡ Some g → IsBefore k g)
    → (k : ℕ) (g : Gate) → k < n + 1 → slice_get gates k ≡ Some g → IsBefore k g
ordered_more gates n item here before below k g lt at =
    ⊎_elim
    (λ less. below k g less at)
    (λ le.
    let same : n ≡ k = omega arith in
    let found : Some item ≡ Some g = sym here ∙ ap (slice_get gates) same ∙ at in
    let is : item ≡ g = same_Some item g found in
    subst (λ (j : ℕ). IsBefore j g) same (subst (λ (h : Gate). IsBefore n h) is before))
    (cases_lt k n)
