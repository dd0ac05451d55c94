-- Of two evaluations of one task in a log, the later one's pair is greater.
use Rattle.std.proofs.Common.{◌≡◌, ℕ, suc, ◌<◌, ◌≤◌, Bool, true, false, cond, List, [], ◌∷◌, length, Some, refl, ap, sym, ◌∙◌, subst, arith, eqb}
use Rattle.std.specs.Prelude.{slice_get, reverse}
use Rattle.std.proofs.lemmas.Bool.{eqb-true, ne_eqb}
use Rattle.std.proofs.lemmas.List.{reverse-reverse}
use Rattle.std.proofs.lemmas.Option.{none-some, same_Some}
use Rattle.task_codes.specs.declared.task_ref.TaskRef.{TaskRef}
use Rattle.evaluation.specs.declared.name.Name.{Name}
use Rattle.evaluation.specs.Names.{precedes}
use Rattle.evaluation.specs.Meaning.{Evaluated}
use Rattle.evaluation.specs.Last.{same_task}
use Rattle.world.specs.History.{history_of}
use Rattle.world.specs.Run.{message}
use Rattle.world.specs.Laws.{PairsRise}
use Rattle.world.specs.Steps.Histories.Tasks.{same_task-itself}
use Rattle.world.specs.Steps.Histories.Latest.{AllBefore, Rises}
use Rattle.world.specs.Steps.Histories.Names.{log-rises}
use Rattle.world.proofs.Worlds.Moves.{run-message}

pub message-within : (log : List Evaluated) (k : ℕ) (x : Evaluated) → message log k ≡ Some x → k ≤ length log
message-within [] k x at = absurd (none-some x at)
message-within (y ∷ older) k x at = by (eqb k (suc (length older))) refl at (message-within older k x) where
  by : (b : Bool) → eqb k (suc (length older)) ≡ b → cond b (Some y) (message older k) ≡ Some x → (message older k ≡ Some x → k ≤ length older) → k ≤ suc (length older)
  by true e f ih = let same : k ≡ suc (length older) = eqb-true k (suc (length older)) e in omega arith
  by false e f ih = let low = ih f in omega arith

before-message : (p : TaskRef) (name : Name) (log : List Evaluated) (k : ℕ) (x : Evaluated) → AllBefore p name log → message log k ≡ Some x → same_task x.name.task p ≡ true → precedes x.name name ≡ true
before-message p name [] k x all at own = absurd (none-some x at)
before-message p name (y ∷ older) k x all at own = by (eqb k (suc (length older))) at (before-message p name older k x all.1) where
  by : (b : Bool) → cond b (Some y) (message older k) ≡ Some x → (message older k ≡ Some x → same_task x.name.task p ≡ true → precedes x.name name ≡ true) → precedes x.name name ≡ true
  by true f ih = let e : y ≡ x = same_Some y x f in subst (λ (z : Evaluated). precedes z.name name ≡ true) e (all.0 (subst (λ (z : Evaluated). same_task z.name.task p ≡ true) (sym e) own))
  by false f ih = ih f own

pub rises-messages : (p : TaskRef) (log : List Evaluated) (j k : ℕ) (x y : Evaluated) → Rises p log → message log j ≡ Some x → message log k ≡ Some y → same_task x.name.task p ≡ true → same_task y.name.task p ≡ true → j < k
    → precedes x.name y.name ≡ true
rises-messages p [] j k x y rises first second own_x own_y lt = absurd (none-some x first)
rises-messages p (z ∷ older) j k x y rises first second own_x own_y lt =
    by (eqb k (suc (length older))) refl second (rises-messages p older j k x y rises.1) where
      high : k ≤ suc (length older)
      high = message-within (z ∷ older) k y second

      below : message older j ≡ Some x
      below = sym (ap (λ b. cond b (Some z) (message older j)) (ne_eqb j (suc (length older)) (λ same. omega (arith, high, same)))) ∙ first

      by : (b : Bool) → eqb k (suc (length older)) ≡ b → cond b (Some z) (message older k) ≡ Some y
          → (message older j ≡ Some x → message older k ≡ Some y → same_task x.name.task p ≡ true → same_task y.name.task p ≡ true → j < k → precedes x.name y.name ≡ true)
          → precedes x.name y.name ≡ true
      by true e f ih =
          let same : z ≡ y = same_Some z y f in
          let own : same_task z.name.task p ≡ true = subst (λ (u : Evaluated). same_task u.name.task p ≡ true) (sym same) own_y in
          subst (λ (u : Evaluated). precedes x.name u.name ≡ true) same (before-message p z.name older j x (rises.0 own) below own_x)
      by false e f ih = ih below f own_x own_y lt

pub pairs-rise : PairsRise
pairs-rise s events log j k x y is first second same lt =
    rises-messages y.name.task (reverse log) (suc j) (suc k) x y (log-rises s y.name.task (history_of s events) (reverse log) is) (at j x first) (at k y second)
    (subst (λ t. same_task x.name.task t ≡ true) same (same_task-itself x.name.task)) (same_task-itself y.name.task) (omega arith) where
      at : (i : ℕ) (z : Evaluated) → slice_get log i ≡ Some z → message (reverse log) (suc i) ≡ Some z
      at i z e = sym (run-message (reverse log) i) ∙ ap (λ l. slice_get l i) (reverse-reverse log) ∙ e
