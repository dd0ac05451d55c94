-- What a delivery answers.
use Rattle.std.proofs.Common.{cond, ◌&&◌, ◌≡◌, ◌≢◌, ◌⊎◌, inl, inr, ℕ, suc, ◌<◌, ◌≤◌, ◌-◌, get_or, Bool, true, false, List, ◌∷◌, length, Option, Some, None, refl, ap, sym, ◌∙◌, subst, arith}
use Rattle.std.specs.Prelude.{slice_get, reverse}
use Rattle.std.proofs.lemmas.Bool.{ne_eqb, false≢true, cases_eq}
use Rattle.std.proofs.lemmas.List.{reverse-reverse}
use Rattle.std.proofs.lemmas.Option.{none-some, same_Some, slice_get_read}
use Rattle.plant.specs.PlantValue.{IsSoundPlant}
use Rattle.evaluation.specs.Names.{precedes}
use Rattle.evaluation.specs.Meaning.{Evaluated}
use Rattle.exchange_core.specs.declared.accepted.Accepted.{Accepted}
use Rattle.exchange_core.specs.declared.accepted.Accepted.TheVariants.{Taken, Old, Unused, Stray}
use Rattle.exchange_core.specs.Held.{known}
use Rattle.exchange_core.specs.CoreValue.{CoreValue, IsAccepted, is_greater}
use Rattle.world.specs.declared.event.Event.{Event}
use Rattle.world.specs.declared.event.Event.TheVariants.{Deliver}
use Rattle.world.specs.History.{Setting, history_of}
use Rattle.world.specs.Run.{IsLog, latest, message}
use Rattle.world.specs.Laws.{greater, held_with}
use Rattle.world.specs.World.{WorldValue, world_of, node_takes}
use Rattle.world.specs.Step.{Answers, IsDelivered}
use Rattle.world.specs.Steps.Nodes.{IsNode, IsWorld}
use Rattle.world.specs.Steps.Histories.Tasks.{same_task-itself}
use Rattle.world.specs.Steps.Histories.Latest.{not_itself}
use Rattle.world.specs.Steps.Histories.Names.{log-rises}
use Rattle.world.specs.Steps.Histories.Steps.{is_for, latest-deliver}
use Rattle.evaluation.specs.Heard.{is_addressed}
use Rattle.world.proofs.Worlds.Takes.{usable-takes}
use Rattle.world.proofs.Worlds.Moves.{message-usable, stays, grows, run-message}

same : (counts : Evaluated → Bool) (x : Evaluated) (o : Option Evaluated) → counts x ≡ true → held_with x.name.task counts o (Some x) ≡ greater o x
same counts x o e = ap (λ b. cond (b && counts x) (greater o x) o) (same_task-itself x.name.task) ∙ ap (λ b. cond b (greater o x) o) e

moved : (x : Evaluated) (o : Option Evaluated) → is_greater o x.name ≡ true → Some x ≢ o
moved x None e = λ f. none-some x (sym f)
moved x (Some y) e = λ f. false≢true (sym (not_itself x.name) ∙ subst (λ z. precedes z.name x.name ≡ true) (sym (same_Some x y f)) e)

pub delivered : (s : Setting) (events : List Event) (log : List Evaluated) (n k : ℕ) (core new : CoreValue) (x : Evaluated) (a : Accepted) → IsSoundPlant s.plant
    → IsLog s (history_of s events) (reverse log) → IsNode s (history_of s events) (reverse log) n core → message (reverse log) k ≡ Some x → IsAccepted core new x a
    → IsDelivered (world_of s events log) k n a
delivered s events log n k core new x a sound is node came done = (x, came, by a done) where
  h : List Event
  h = history_of s events

  now : Option Evaluated
  now = latest s n h x.name.task (reverse log)

  after : x.name.task.resource ≢ n → is_for s n h x ≡ true → latest s n (Deliver k n ∷ h) x.name.task (reverse log) ≡ greater now x
  after away counts =
      latest-deliver s n k h x.name.task (reverse log) (ne_eqb x.name.task.resource n away) (log-rises s x.name.task h (reverse log) is)
      ∙ ap (held_with x.name.task (is_for s n h) now) came
      ∙ same (is_for s n h) x now counts

  keeps : x.name.task.resource ≢ n → node_takes s.plant n x.name.task ≡ true → known core.table x.name.task ≡ now
  keeps away takes = node.keeps x.name.task ∙ rw (ne_eqb x.name.task.resource n away, takes)

  unused : ((x.name.task.resource ≢ n) → node_takes s.plant n x.name.task ≡ true → ⊥) → (x.name.task.resource ≡ n) ⊎ (x.name.task.resource ≢ n) → (b : Bool) → node_takes s.plant n x.name.task ≡ b
      → (x.name.task.resource ≡ n) ⊎ (node_takes s.plant n x.name.task ≡ false)
  unused none (inl own) b e = inl own
  unused none (inr away) false e = inr e
  unused none (inr away) true e = absurd (none away e)

  for-core : (b : Bool) → is_addressed x core.resource core.incarnation ≡ b → is_for s n h x ≡ b
  for-core b e = subst (λ i. is_addressed x n i ≡ b) node.incarnation (subst (λ r. is_addressed x r core.incarnation ≡ b) node.resource e)

  by : (a : Accepted) → IsAccepted core new x a → Answers (world_of s events log) k n x x.name.task a
  by Unused d = unused (λ away takes. d.0 (message-usable s h (reverse log) n k core x sound is node came away takes)) (cases_eq x.name.task.resource n) (node_takes s.plant n x.name.task) refl
  by Taken d =
      let parts = usable-takes s h (reverse log) n core x node d.0 in
      let g : is_greater now x.name ≡ true = subst (λ o. is_greater o x.name ≡ true) (keeps parts.0 parts.1) d.2 in
      let counts = for-core true d.1 in
      (parts.0, parts.1, counts, (λ e. moved x now g (sym (after parts.0 counts ∙ grows x now g) ∙ e)))
  by Stray d = let parts = usable-takes s h (reverse log) n core x node d.0 in (parts.0, parts.1, for-core false d.1)
  by Old d =
      let parts = usable-takes s h (reverse log) n core x node d.0 in
      let g : is_greater now x.name ≡ false = subst (λ o. is_greater o x.name ≡ false) (keeps parts.0 parts.1) d.2 in
      let counts = for-core true d.1 in
      (parts.0, parts.1, counts, after parts.0 counts ∙ stays x now g)

pub delivered_at : (old : WorldValue) (s : Setting) (events : List Event) (log : List Evaluated) (cores : List CoreValue) (m n : ℕ) (core new : CoreValue) (x : Evaluated) (a : Accepted) → world_of s events log ≡ old
    → IsWorld s events log cores → n < length cores → core ≡ get_or cores n core → 1 ≤ m → m ≤ length log → x ≡ get_or log (m - 1) x → IsAccepted core new x a → IsDelivered old m n a
delivered_at old s events log cores m n core new x a view world inside at low high came done =
    let e : suc (m - 1) ≡ m = omega arith in
    let arrived : message (reverse log) (suc (m - 1)) ≡ Some x = sym (run-message (reverse log) (m - 1)) ∙ ap (λ l. slice_get l (m - 1)) (reverse-reverse log) ∙ slice_get_read log (length log) (m - 1) x refl (omega (arith, low, high)) came in
    subst (λ w. IsDelivered w m n a) view
    (delivered s events log n m core new x a world.planned world.logged (world.nodes n core (slice_get_read cores (length cores) n core refl inside at)) (subst (λ k. message (reverse log) k ≡ Some x) e arrived) done)
