-- Facts of states, retained values and numbers, which the crates above cite too.
use Rattle.std.specs.Prelude.{Bool, ◌≡◌, ℕ, ◌<◌, ◌≤◌, List, [], ◌∷◌, Option, Some, None, map, refl}
use Rattle.std.proofs.Common.{ap, sym, ◌∙◌, subst}
use Rattle.std.proofs.Math.Nat.{le_refl, le_trans, le-max_right}
use Rattle.std.proofs.lemmas.Option.{same_Some, slice_get_within}
use Rattle.lists.proofs.Places.{element_at, same_by_each}
use Rattle.std_blocks.specs.declared.value.Value.{Value}
use Rattle.declared_names.specs.declared.declarations.Kind.{Kind}
use Rattle.declared_names.specs.declared.declarations.Kind.TheVariants as kind
use Rattle.declared_names.specs.Kinds.{kind_of, value_first}
use Rattle.scan_steps.specs.declared.slot.Slot.{Slot}
use Rattle.power_flow.specs.StateValue.{StateValue}
use Rattle.task_codes.specs.CodeValue.{CodeValue, retained_kinds}
use Rattle.evaluation.specs.Meaning.{Evaluated}
use Rattle.evaluation.specs.States.{AreStatesOf, AreSame}
use Rattle.evaluation.specs.Retained.{Suits, initial_retained}
use Rattle.evaluation.specs.Heard.{greatest}
use Rattle.evaluation.specs.Last.{left_by, state_from}

-- states are equal where all that they have is
pub same_state : (s t : StateValue) → s.slots ≡ t.slots → s.memories ≡ t.memories → s.waiting_links ≡ t.waiting_links → s.waiting_results ≡ t.waiting_results → s ≡ t
same_state s t slots memories links results =
    ap (λ (x : List Slot). record s { slots = x }) slots
    ∙ ap (λ (x : List Bool). record s { slots = t.slots; memories = x }) memories
    ∙ ap (λ (n : ℕ). record s { slots = t.slots; memories = t.memories; waiting_links = n }) links
    ∙ ap (λ (n : ℕ). record t { waiting_results = n }) results

-- states are the same as themselves
pub same_as_itself : (states : List StateValue) → AreSame states states
same_as_itself states = record {
  many = refl;
  each = λ i s t at found. (let same : s ≡ t = same_Some s t (sym at ∙ found) in
      record { slots = ap (λ (x : StateValue). x.slots) same; memories = ap (λ (x : StateValue). x.memories) same });
}

-- states of one code are equal where they are the same
pub states_of_one : (c : CodeValue) (a b : List StateValue) → AreStatesOf c a → AreStatesOf c b → AreSame a b → a ≡ b
states_of_one c a b one other same = same_by_each a b same.many (λ k s t at found.
    let p = element_at c.programs k (subst (λ n. k < n) one.many (slice_get_within a k s at)) in
    let x = one.each k p.0 s p.1 at in
    let y = other.each k p.0 t p.1 found in
    let is = same.each k s t at found in
    same_state s t is.slots is.memories (x.waiting_links ∙ sym y.waiting_links) (x.waiting_results ∙ sym y.waiting_results))

-- the first values of a code's retained variables suit it
pub initial_suits : (c : CodeValue) → Suits c (initial_retained c)
initial_suits c = of (retained_kinds c)
  where
    first : (k : Kind) → kind_of (value_first k) ≡ k
    first kind.Bool = refl
    first kind.Int = refl
    first kind.Time = refl

    of : (ks : List Kind) → map kind_of (map value_first ks) ≡ ks
    of [] = refl
    of (k ∷ ks) = ap (λ x. x ∷ map kind_of (map value_first ks)) (first k) ∙ ap (λ xs. k ∷ xs) (of ks)

-- the state of a task, by what a restart would leave of it
pub state-left : (code : CodeValue) (kept left : List Value) (o : Option Evaluated) → left_by kept o ≡ left → state_from code kept o ≡ state_from code left o
state-left code kept left None e = ap (λ v. state_from code v None) e
state-left code kept left (Some x) e = refl

-- the greatest of a first number and others is no lower
pub greatest-first : (first : ℕ) (xs : List ℕ) → first ≤ greatest first xs
greatest-first first [] = le_refl first
greatest-first first (x ∷ xs) = le_trans (greatest-first first xs) (le-max_right x (greatest first xs))
