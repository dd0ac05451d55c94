-- A core follows the history.
use Rattle.std.proofs.Common.{◌≡◌, ◌≢◌, ◌⊎◌, inl, inr, ℕ, zero, suc, ◌+◌, ◌<◌, ◌≤◌, ◌-◌, get_or, ltb, Bool, true, false, cond, ◌&&◌, ◌||◌, List, [], ◌∷◌, ◌++◌, length, Option, Some, None, refl, ap, sym, ◌∙◌, subst, arith, eqb}
use Rattle.std.specs.Prelude.{map, not, slice_get, slice_set, slice_index, reverse}
use Rattle.std.proofs.lemmas.Bool.{eq-eqb, ne_eqb, eqb-true, eqb-false, false≢true, lt-ltb, le-leb, ltb-true, ltb-false}
use Rattle.std.proofs.lemmas.Bool.Decides.{nat_tests}
use Rattle.std.proofs.lemmas.List.{length-set, set-get_or, reverse-append, reverse-reverse, length-reverse}
use Rattle.std.proofs.lemmas.Option.{none-some, same_Some, slice_get_within, slice_get_read}
use Rattle.lists.proofs.Tables.{cell_same, cell_other, cell_place, row_lengths_kept}
use Rattle.exchange_core.specs.Steps.Fresh.{fresh_known, fresh_shape}
use Rattle.declared_names.specs.Kinds.{kind_of}
use Rattle.task_codes.specs.declared.task_ref.TaskRef.{TaskRef}
use Rattle.plant.specs.PlantValue.{PlantValue, code_at, IsSoundPlant}
use Rattle.task_codes.specs.CodeValue.{CodeValue, image_kinds}
use Rattle.evaluation.specs.declared.field_input.FieldInput.{FieldInput}
use Rattle.evaluation.specs.Meaning.{Evaluated}
use Rattle.exchange_core.specs.declared.accepted.Accepted.{Accepted}
use Rattle.exchange_core.specs.declared.accepted.Accepted.TheVariants.{Taken, Old, Unused, Stray}
use Rattle.evaluation.specs.Heard.{is_addressed}
use Rattle.evaluation.specs.Last.{same_task, left_by}
use Rattle.exchange_core.specs.Held.{known, with_known}
use Rattle.exchange_core.specs.Steps.Knowing.{has_place}
use Rattle.exchange_core.specs.CoreValue.{CoreValue, IsUsable, IsAccepted, is_greater, is_news, HasHeard, own_task, kept_at, IsRestartOf}
use Rattle.world.specs.declared.event.Event.{Event}
use Rattle.world.specs.declared.event.Event.TheVariants.{Evaluate, Deliver, Restart, Hear}
use Rattle.world.specs.History.{Setting, opening_of, made_count, is_lawful, heard_by, history_of, after_events}
use Rattle.world.specs.Run.{IsLog, IsNextEvaluation, next_name, latest, last_of, message}
use Rattle.world.specs.World.{node_takes}
use Rattle.world.specs.Laws.{greater, held_with}
use Rattle.world.specs.Steps.Nodes.{kept_of, IsNode, IsWorld}
use Rattle.world.specs.Steps.Histories.Tasks.{same_task-true, codes_in}
use Rattle.world.specs.Steps.Histories.Names.{AllLawful, length-log, log-rises, named}
use Rattle.world.specs.Steps.Histories.Heard.{with_heard, heard-restart, heard-other_restart, heard-hear, heard-own_hear, heard-other_hear}
use Rattle.world.specs.Steps.Histories.Steps.{is_for, latest-deliver, latest-own_deliver, latest-other_deliver, latest-restart, latest-other_restart, latest-evaluate, latest-other_evaluate, incarnation-restart}
use Rattle.world.proofs.Worlds.Takes.{usable-takes, takes-usable}
use Rattle.world.proofs.Worlds.Leaving.{last-same, last-other}

-- one more lawful event is the newest of the history
pub after-one_more : (s : Setting) (h es : List Event) (e : Event) → is_lawful s (after_events s h es) e ≡ true → after_events s h (es ++ e ∷ []) ≡ e ∷ after_events s h es
after-one_more s h [] e lawful = rw lawful
after-one_more s h (x ∷ xs) e lawful = after-one_more s (cond (is_lawful s h x) (x ∷ h) h) xs e lawful

pub history-one_more : (s : Setting) (es : List Event) (e : Event) → is_lawful s (history_of s es) e ≡ true → history_of s (es ++ e ∷ []) ≡ e ∷ history_of s es
history-one_more s es e lawful = after-one_more s [] es e lawful

-- an evaluation is of a task of the plant, with an image of its kinds
abbrev pub IsOfPlant : Setting → Evaluated → Type 0
IsOfPlant s x = (code : CodeValue) × (code_at s.plant x.name.task ≡ Some code) × (map kind_of x.outputs ≡ image_kinds code)

next-of_plant : (s : Setting) (h : List Event) (log : List Evaluated) (k : ℕ) (t : TaskRef) (dt : ℕ) (inputs : List FieldInput) (x : Evaluated) → IsNextEvaluation s h log k t dt inputs x → IsOfPlant s x
next-of_plant s h log k t dt inputs x next = (
  next.code,
  subst (λ n. code_at s.plant n.task ≡ Some next.code) (sym (named s h log k t dt inputs x next)) next.found,
  next.asked.whole.kinds_are ∙ ap image_kinds (ap (λ (y : Evaluated). y.code) next.asked.is),
)

-- each message is of a task of the plant
pub message-of_plant : (s : Setting) (h : List Event) (log : List Evaluated) → IsLog s h log → (k : ℕ) (x : Evaluated) → message log k ≡ Some x → IsOfPlant s x
message-of_plant s [] [] is k x at = absurd (none-some x at)
message-of_plant s [] (y ∷ older) is k x at = absurd is
message-of_plant s (Deliver j n ∷ h) log is k x at = message-of_plant s h log is k x at
message-of_plant s (Restart n ∷ h) log is k x at = message-of_plant s h log is k x at
message-of_plant s (Hear n of incarnation ∷ h) log is k x at = message-of_plant s h log is k x at
message-of_plant s (Evaluate j t dt inputs ∷ h) [] is k x at = absurd is
message-of_plant s (Evaluate j t dt inputs ∷ h) (y ∷ older) is k x at = by (message-of_plant s h older is.0 k x) (eqb k (suc (length older))) at where
  by : (message older k ≡ Some x → IsOfPlant s x) → (b : Bool) → cond b (Some y) (message older k) ≡ Some x → IsOfPlant s x
  by ih true e = subst (IsOfPlant s) (same_Some y x e) (next-of_plant s h older j t dt inputs y is.1)
  by ih false e = ih e

-- what is kept of a task after a delivery, by whether the message is of it and addressed
same-kept : (s : Setting) (h : List Event) (log : List Evaluated) (n k : ℕ) (p : TaskRef) (x : Evaluated) → IsLog s h log → message log k ≡ Some x
    → ((p.resource ≡ n → ⊥) → node_takes s.plant n p ≡ true → same_task x.name.task p ≡ true → is_for s n h x ≡ true → greater (latest s n h p log) x ≡ latest s n h p log)
    → kept_of s n (Deliver k n ∷ h) log p ≡ kept_of s n h log p
same-kept s h log n k p x is came unmoved = by (eqb p.resource n) refl (node_takes s.plant n p) refl where
  elsewhere : eqb p.resource n ≡ false → node_takes s.plant n p ≡ true → (t : Bool) → same_task x.name.task p ≡ t → (c : Bool) → is_for s n h x ≡ c → cond (t && c) (greater (latest s n h p log) x) (latest s n h p log) ≡ latest s n h p log
  elsewhere e f true g true c = unmoved (eqb-false _ _ e) f g c
  elsewhere e f true g false c = refl
  elsewhere e f false g m c = refl

  by : (b : Bool) → eqb p.resource n ≡ b → (w : Bool) → node_takes s.plant n p ≡ w
      → cond (b || w) (latest s n (Deliver k n ∷ h) p log) None ≡ cond (b || w) (latest s n h p log) None
  by true e w f = latest-own_deliver s n k n h p log e
  by false e false f = refl
  by false e true f =
      latest-deliver s n k h p log e (log-rises s p h log is)
      ∙ ap (held_with p (is_for s n h) (latest s n h p log)) came
      ∙ elsewhere e f (same_task x.name.task p) refl (is_for s n h x) refl

pub stays : (x : Evaluated) (o : Option Evaluated) → is_greater o x.name ≡ false → greater o x ≡ o
stays x None e = absurd (false≢true (sym e))
stays x (Some y) e = rw e

pub grows : (x : Evaluated) (o : Option Evaluated) → is_greater o x.name ≡ true → greater o x ≡ Some x
grows x None e = refl
grows x (Some y) e = rw e

module _ (s : Setting) (h : List Event) (log : List Evaluated) (n k : ℕ) (core : CoreValue) (x : Evaluated) (sound : IsSoundPlant s.plant) (is : IsLog s h log) (node : IsNode s h log n core) (came : message log k ≡ Some x) where
  -- the message is of use where its task's resource is another one, from which this one takes
  pub message-usable : x.name.task.resource ≢ n → node_takes s.plant n x.name.task ≡ true → IsUsable core x
  message-usable away takes = let made = message-of_plant s h log is k x came in takes-usable s h log n core x made.0 sound node made.1 made.2 away takes

  usable_at : (p : TaskRef) → same_task x.name.task p ≡ true → p.resource ≢ n → node_takes s.plant n p ≡ true → IsUsable core x
  usable_at p same away takes =
      let e : p ≡ x.name.task = sym (same_task-true x.name.task p same) in
      message-usable (subst (λ r. r.resource ≢ n) e away) (subst (λ r. node_takes s.plant n r ≡ true) e takes)

  known_at : (p : TaskRef) → p.resource ≢ n → node_takes s.plant n p ≡ true → known core.table p ≡ latest s n h p log
  known_at p away wanted = node.keeps p ∙ rw (ne_eqb p.resource n away, wanted)

  -- the core sees to whom the message is addressed
  for-core : (b : Bool) → is_addressed x core.resource core.incarnation ≡ b → is_for s n h x ≡ b
  for-core b e = subst (λ i. is_addressed x n i ≡ b) node.incarnation (subst (λ r. is_addressed x r core.incarnation ≡ b) node.resource e)

  keeps-stray : is_addressed x core.resource core.incarnation ≡ false → (p : TaskRef) → known core.table p ≡ kept_of s n (Deliver k n ∷ h) log p
  keeps-stray off p = node.keeps p ∙ sym (same-kept s h log n k p x is came (λ away wanted same counts. absurd (false≢true (sym (for-core false off) ∙ counts))))

  keeps-unused : (IsUsable core x → ⊥) → (p : TaskRef) → known core.table p ≡ kept_of s n (Deliver k n ∷ h) log p
  keeps-unused none p = node.keeps p ∙ sym (same-kept s h log n k p x is came (λ away wanted same counts. absurd (none (usable_at p same away wanted))))

  keeps-old : is_greater (known core.table x.name.task) x.name ≡ false → (p : TaskRef) → known core.table p ≡ kept_of s n (Deliver k n ∷ h) log p
  keeps-old f p =
      node.keeps p
      ∙ sym (same-kept s h log n k p x is came
      (λ away wanted same counts.
      let here : is_greater (latest s n h p log) x.name ≡ false = subst (λ o. is_greater o x.name ≡ false) (known_at p away wanted) (subst (λ r. is_greater (known core.table r) x.name ≡ false) (same_task-true x.name.task p same) f) in
      stays x (latest s n h p log) here))

  taken-same : IsUsable core x → is_addressed x core.resource core.incarnation ≡ true → is_greater (known core.table x.name.task) x.name ≡ true → (p : TaskRef) → same_task x.name.task p ≡ true → Some x ≡ kept_of s n (Deliver k n ∷ h) log p
  taken-same usable on_it f p same =
      let e : x.name.task ≡ p = same_task-true x.name.task p same in
      let parts = usable-takes s h log n core x node usable in
      let away : p.resource ≢ n = subst (λ r. r.resource ≢ n) e parts.0 in
      let wanted : node_takes s.plant n p ≡ true = subst (λ r. node_takes s.plant n r ≡ true) e parts.1 in
      let other : eqb p.resource n ≡ false = ne_eqb p.resource n away in
      let here : is_greater (latest s n h p log) x.name ≡ true = subst (λ o. is_greater o x.name ≡ true) (known_at p away wanted) (subst (λ r. is_greater (known core.table r) x.name ≡ true) e f) in
      let on : (eqb p.resource n || node_takes s.plant n p) ≡ true = rw (other, wanted) in
      let newest : held_with p (is_for s n h) (latest s n h p log) (Some x) ≡ Some x = ap (λ b. cond (b && is_for s n h x) (greater (latest s n h p log) x) (latest s n h p log)) same ∙ ap (λ b. cond b (greater (latest s n h p log) x) (latest s n h p log)) (for-core true on_it) ∙ grows x (latest s n h p log) here in
      sym (ap (λ w. cond w (latest s n (Deliver k n ∷ h) p log) None) on
      ∙ latest-deliver s n k h p log other (log-rises s p h log is)
      ∙ ap (held_with p (is_for s n h) (latest s n h p log)) came
      ∙ newest)

  keeps-taken : IsUsable core x → is_addressed x core.resource core.incarnation ≡ true → is_greater (known core.table x.name.task) x.name ≡ true → (p : TaskRef) → known (with_known core.table x.name.task (Some x)) p ≡ kept_of s n (Deliver k n ∷ h) log p
  keeps-taken usable on_it f p = by (same_task x.name.task p) refl where
    place : has_place core.table x.name.task
    place = let made = message-of_plant s h log is k x came in
        cell_place codes_in core.plant.resources core.table x.name.task.resource x.name.task.task made.0 refl node.shaped (subst (λ w. code_at w x.name.task ≡ Some made.0) (sym node.plant) made.1)

    by : (b : Bool) → same_task x.name.task p ≡ b → known (with_known core.table x.name.task (Some x)) p ≡ kept_of s n (Deliver k n ∷ h) log p
    by true same =
        subst (λ r. known (with_known core.table x.name.task (Some x)) r ≡ Some x) (same_task-true x.name.task p same) (cell_same core.table x.name.task.resource x.name.task.task (Some x) None place.0 place.1)
        ∙ taken-same usable on_it f p same
    by false other =
        cell_other core.table x.name.task.resource x.name.task.task p.resource p.task (Some x) None place.0 other
        ∙ node.keeps p
        ∙ sym (same-kept s h log n k p x is came (λ away wanted same counts. absurd (false≢true (sym other ∙ same))))

  -- a delivery changes nothing of an own task
  kept-own : (t : TaskRef) → t.resource ≡ n → kept_of s n (Deliver k n ∷ h) log t ≡ kept_of s n h log t
  kept-own t own = ap (λ o. cond (eqb t.resource n || node_takes s.plant n t) o None) (latest-own_deliver s n k n h t log (eq-eqb t.resource n own))

  -- a core to which a message is delivered
  pub node-deliver : (new : CoreValue) (a : Accepted) → IsAccepted core new x a → IsNode s (Deliver k n ∷ h) log n new
  node-deliver new Taken done = subst (IsNode s (Deliver k n ∷ h) log n) (sym done.3) (record {
    plant = node.plant;
    resource = node.resource;
    firsts = node.firsts;
    incarnation = node.incarnation;
    heard = node.heard;
    max_number = node.max_number;
    shaped = row_lengths_kept core.table x.name.task.resource x.name.task.task (Some x) ∙ node.shaped;
    keeps = keeps-taken done.0 done.1 done.2;
    long = node.long;
    left = λ t own lt. ap (left_by (kept_at core t.task)) (keeps-taken done.0 done.1 done.2 t ∙ kept-own t own ∙ sym (node.keeps t)) ∙ node.left t own lt;
  })
  node-deliver new Old done = subst (IsNode s (Deliver k n ∷ h) log n) (sym done.3) (record {
    plant = node.plant;
    resource = node.resource;
    firsts = node.firsts;
    incarnation = node.incarnation;
    heard = node.heard;
    max_number = node.max_number;
    shaped = node.shaped;
    keeps = keeps-old done.2;
    long = node.long;
    left = node.left;
  })
  node-deliver new Stray done = subst (IsNode s (Deliver k n ∷ h) log n) (sym done.2) (record {
    plant = node.plant;
    resource = node.resource;
    firsts = node.firsts;
    incarnation = node.incarnation;
    heard = node.heard;
    max_number = node.max_number;
    shaped = node.shaped;
    keeps = keeps-stray done.1;
    long = node.long;
    left = node.left;
  })
  node-deliver new Unused done = subst (IsNode s (Deliver k n ∷ h) log n) (sym done.1) (record {
    plant = node.plant;
    resource = node.resource;
    firsts = node.firsts;
    incarnation = node.incarnation;
    heard = node.heard;
    max_number = node.max_number;
    shaped = node.shaped;
    keeps = keeps-unused done.0;
    long = node.long;
    left = node.left;
  })

-- a core to which none is
pub node-other_deliver : (s : Setting) (h : List Event) (log : List Evaluated) (n m k : ℕ) (core : CoreValue) → IsNode s h log n core → eqb m n ≡ false → IsNode s (Deliver k m ∷ h) log n core
node-other_deliver s h log n m k core node other =
    record {
      plant = node.plant;
      resource = node.resource;
      firsts = node.firsts;
      incarnation = node.incarnation;
      heard = node.heard;
      max_number = node.max_number;
      shaped = node.shaped;
      keeps = λ p. node.keeps p ∙ ap (λ o. cond (eqb p.resource n || node_takes s.plant n p) o None) (sym (latest-other_deliver s n k m h p log other));
      long = node.long;
      left = node.left;
    }

pub set-found : {X : Type 0} (xs : List X) (n m : ℕ) (v c : X) → n < length xs → slice_get (slice_set xs n v) m ≡ Some c → ((m ≡ n) × (v ≡ c)) ⊎ ((n ≡ m → ⊥) × (slice_get xs m ≡ Some c))
set-found [] n m v c h e = absurd (omega arith)
set-found (x ∷ xs) zero zero v c h e = inl (refl, same_Some v c e)
set-found (x ∷ xs) zero (suc m) v c h e = inr ((λ f. omega arith), e)
set-found (x ∷ xs) (suc n) zero v c h e = inr ((λ f. omega arith), e)
set-found (x ∷ xs) (suc n) (suc m) v c h e = by (set-found xs n m v c (omega arith) e) where
  by : ((m ≡ n) × (v ≡ c)) ⊎ ((n ≡ m → ⊥) × (slice_get xs m ≡ Some c)) → ((suc m ≡ suc n) × (v ≡ c)) ⊎ ((suc n ≡ suc m → ⊥) × (slice_get xs m ≡ Some c))
  by (inl p) = inl (ap suc p.0, p.1)
  by (inr p) = inr ((λ f. p.0 (omega arith)), p.1)

pub slice_get-push : {X : Type 0} (xs : List X) (y : X) (k : ℕ) → slice_get (xs ++ y ∷ []) k ≡ cond (eqb (suc k) (suc (length xs))) (Some y) (slice_get xs k)
slice_get-push [] y zero = refl
slice_get-push [] y (suc k) = rw (ne_eqb (suc (suc k)) 1 (λ e. omega arith))
slice_get-push (x ∷ xs) y zero = rw (ne_eqb 1 (suc (suc (length xs))) (λ e. omega arith))
slice_get-push (x ∷ xs) y (suc k) = slice_get-push xs y k ∙ ap (λ b. cond b (Some y) (slice_get xs k)) (shift k (length xs)) where
  shift : (k n : ℕ) → eqb (suc k) (suc n) ≡ eqb (suc (suc k)) (suc (suc n))
  shift k n = grind (arith, nat_tests)

-- message k stands at place k - 1 of the run
pub run-message : (log : List Evaluated) (k : ℕ) → slice_get (reverse log) k ≡ message log (suc k)
run-message [] k = refl
run-message (x ∷ older) k =
    rw reverse-cons
    (slice_get-push (reverse older) x k ∙ rw (length-reverse, run-message older k)) where
      reverse-cons : reverse (x ∷ older) ≡ reverse older ++ x ∷ []
      reverse-cons = reverse-append (x ∷ []) older

-- the world's step at a Deliver
pub world-deliver : (s : Setting) (events : List Event) (log : List Evaluated) (cores : List CoreValue) (n k : ℕ) (core new : CoreValue) (x : Evaluated) (a : Accepted)
    → IsWorld s events log cores → slice_get cores n ≡ Some core → slice_get log k ≡ Some x → IsAccepted core new x a → is_lawful s (history_of s events) (Deliver (suc k) n) ≡ true
    → IsWorld s (events ++ Deliver (suc k) n ∷ []) log (slice_set cores n new)
world-deliver s events log cores n k core new x a world at came done lawful =
    let h = history_of s events in
    let more : history_of s (events ++ Deliver (suc k) n ∷ []) ≡ Deliver (suc k) n ∷ h = history-one_more s events (Deliver (suc k) n) lawful in
    record {
      planned = world.planned;
      logged = subst (λ g. IsLog s g (reverse log)) (sym more) world.logged;
      firsts = world.firsts;
      sized = length-set cores n new ∙ world.sized;
      nodes = λ m c found. subst (λ g. IsNode s g (reverse log) m c) (sym more) (by m c (set-found cores n m new c (slice_get_within cores n core at) found));
    } where
      arrived : message (reverse log) (suc k) ≡ Some x
      arrived = sym (run-message (reverse log) k) ∙ ap (λ l. slice_get l k) (reverse-reverse log) ∙ came

      by : (m : ℕ) (c : CoreValue) → ((m ≡ n) × (new ≡ c)) ⊎ ((n ≡ m → ⊥) × (slice_get cores m ≡ Some c)) → IsNode s (Deliver (suc k) n ∷ history_of s events) (reverse log) m c
      by m c (inl p) =
          subst (λ d. IsNode s (Deliver (suc k) n ∷ history_of s events) (reverse log) m d) p.1
          (subst (λ r. IsNode s (Deliver (suc k) n ∷ history_of s events) (reverse log) r new) (sym p.0)
          (node-deliver s (history_of s events) (reverse log) n (suc k) core x world.planned world.logged (world.nodes n core at) arrived new a done))
      by m c (inr p) = node-other_deliver s (history_of s events) (reverse log) m n (suc k) c (world.nodes m c p.1) (ne_eqb n m p.0)

-- a Deliver to a resource that is there, of a message that was made, is lawful
pub deliver-lawful : (s : Setting) (events : List Event) (log : List Evaluated) (cores : List CoreValue) (m n : ℕ) → IsWorld s events log cores → n < length cores → 1 ≤ m → m ≤ length log
    → is_lawful s (history_of s events) (Deliver m n) ≡ true
deliver-lawful s events log cores m n world inside low high =
    let made : length log ≡ made_count (history_of s events) =
    sym (length-reverse log) ∙ length-log s (history_of s events) (reverse log) world.logged in
    let known : m ≤ made_count (history_of s events) = omega arith in
    let there : n < length s.plant.resources = omega (arith, world.sized) in
    rw (lt-ltb n (length s.plant.resources) there, le-leb 1 m low, le-leb m (made_count (history_of s events)) known)

-- a message that isn't in the log was not made
pub unmade_at : (s : Setting) (events : List Event) (log : List Evaluated) (cores : List CoreValue) (m : ℕ) → IsWorld s events log cores → length log < m → made_count (history_of s events) < m
unmade_at s events log cores m world past =
    let made : length log ≡ made_count (history_of s events) = sym (length-reverse log) ∙ length-log s (history_of s events) (reverse log) world.logged in
    omega arith

-- the same step, with the message's number as it is
pub world-deliver_at : (s : Setting) (events : List Event) (log : List Evaluated) (cores : List CoreValue) (m n : ℕ) (core new : CoreValue) (x : Evaluated) (a : Accepted)
    → IsWorld s events log cores → n < length cores → core ≡ get_or cores n core → 1 ≤ m → m ≤ length log → x ≡ get_or log (m - 1) x → IsAccepted core new x a
    → IsWorld s (events ++ Deliver m n ∷ []) log (slice_set cores n new)
world-deliver_at s events log cores m n core new x a world inside at low high came done =
    let e : suc (m - 1) ≡ m = omega arith in
    subst (λ k. IsWorld s (events ++ Deliver k n ∷ []) log (slice_set cores n new)) e
    (world-deliver s events log cores n (m - 1) core new x a world
    (slice_get_read cores (length cores) n core refl inside at)
    (slice_get_read log (length log) (m - 1) x refl (omega arith) came)
    done
    (subst (λ k. is_lawful s (history_of s events) (Deliver k n) ≡ true) (sym e) (deliver-lawful s events log cores m n world inside low high)))

-- a core that restarts
pub node-restart : (s : Setting) (h : List Event) (log : List Evaluated) (n : ℕ) (core new : CoreValue) → AllLawful s h → IsLog s h log → IsNode s h log n core → IsRestartOf core new (core.incarnation + 1)
    → IsNode s (Restart n ∷ h) log n new
node-restart s h log n core new all is node after = subst (IsNode s (Restart n ∷ h) log n) (sym after.is) (record {
  plant = node.plant;
  resource = node.resource;
  firsts = node.firsts;
  max_number = node.max_number;
  incarnation = ap (λ i. i + 1) node.incarnation ∙ sym (incarnation-restart s n h);
  heard =
      ap (λ l. slice_set l core.resource (core.incarnation + 1)) node.firsts
      ∙ ap (λ r. slice_set s.first r (core.incarnation + 1)) node.resource
      ∙ ap (λ i. slice_set s.first n (i + 1)) node.incarnation
      ∙ sym (heard-restart s n h);
  shaped = fresh_shape core.plant;
  keeps = λ p. fresh_known core.plant p ∙ sym (ap (λ o. cond (eqb p.resource n || node_takes s.plant n p) o None) (latest-restart s n h p log all is) ∙ cond-same (eqb p.resource n || node_takes s.plant n p));
  long = after.long ∙ node.long;
  left = λ t own lt.
      let within : t.task < length core.kept = omega (arith, after.long) in
      let it : own_task core t.task ≡ t = rw (node.resource, ← own) refl in
      ap (left_by (kept_at new t.task)) (fresh_known core.plant t)
      ∙ after.kept t.task within
      ∙ ap (λ r. left_by (kept_at core t.task) (known core.table r)) it
      ∙ node.left t own within;
}) where
  cond-same : (b : Bool) → ◌≡◌ {A = Option Evaluated} (cond b None None) None
  cond-same true = refl
  cond-same false = refl

-- what a core has heard after a hearing is what its resource has heard
heard-now : (s : Setting) (h : List Event) (n o i : ℕ) (core : CoreValue) → core.resource ≡ n → core.heard ≡ heard_by s n h → o < length core.plant.resources
    → (b : Bool) → is_news core o i ≡ b → cond b (slice_set core.heard o i) core.heard ≡ heard_by s n (Hear n o i ∷ h)
heard-now s h n o i core own heard there = by (eqb o core.resource) refl where
  at : (b : Bool) → eqb o core.resource ≡ b → eqb o n ≡ b
  at b e = subst (λ r. eqb o r ≡ b) own e

  by : (a : Bool) → eqb o core.resource ≡ a → (b : Bool) → is_news core o i ≡ b → cond b (slice_set core.heard o i) core.heard ≡ heard_by s n (Hear n o i ∷ h)
  by true e true f = absurd (false≢true (sym (ap (λ c. not c && (ltb o (length core.plant.resources) && ltb (slice_index core.heard o) i)) e) ∙ f))
  by true e false f = heard ∙ sym (heard-own_hear s n i h) ∙ ap (λ k. heard_by s n (Hear n k i ∷ h)) (sym (eqb-true o n (at true e)))
  by false e b f = now b (sym (ap (λ c. not c && (ltb o (length core.plant.resources) && ltb (slice_index core.heard o) i)) e ∙ ap (λ c. c && ltb (slice_index core.heard o) i) (lt-ltb o (length core.plant.resources) there)) ∙ f) where
    now : (b : Bool) → ltb (slice_index core.heard o) i ≡ b → cond b (slice_set core.heard o i) core.heard ≡ heard_by s n (Hear n o i ∷ h)
    now true g =
        ap (slice_set core.heard o) (let low = ltb-true (slice_index core.heard o) i g in omega (arith, low))
        ∙ ap (λ l. with_heard l o i) heard ∙ sym (heard-hear s n o i h (at false e))
    now false g =
        sym (set-get_or core.heard o 0) ∙ ap (slice_set core.heard o) (let high = ltb-false (slice_index core.heard o) i g in omega (arith, high))
        ∙ ap (λ l. with_heard l o i) heard ∙ sym (heard-hear s n o i h (at false e))

-- a core that hears of another resource
pub node-hear : (s : Setting) (h : List Event) (log : List Evaluated) (n o i : ℕ) (core new : CoreValue) (answer : Bool) → o < length s.plant.resources → IsNode s h log n core → HasHeard core new o i answer → IsNode s (Hear n o i ∷ h) log n new
node-hear s h log n o i core new answer there node done = subst (IsNode s (Hear n o i ∷ h) log n) (sym done.after) (by answer (sym done.answer_is)) where
  inside : o < length core.plant.resources
  inside = subst (λ (p : PlantValue). o < length p.resources) (sym node.plant) there

  by : (b : Bool) → is_news core o i ≡ b → IsNode s (Hear n o i ∷ h) log n (cond b (record core { heard = slice_set core.heard o i }) core)
  by true e = record {
    plant = node.plant;
    resource = node.resource;
    firsts = node.firsts;
    max_number = node.max_number;
    incarnation = node.incarnation;
    heard = heard-now s h n o i core node.resource node.heard inside true e;
    shaped = node.shaped;
    keeps = node.keeps;
    long = node.long;
    left = node.left;
  }
  by false e = record {
    plant = node.plant;
    resource = node.resource;
    firsts = node.firsts;
    max_number = node.max_number;
    incarnation = node.incarnation;
    heard = heard-now s h n o i core node.resource node.heard inside false e;
    shaped = node.shaped;
    keeps = node.keeps;
    long = node.long;
    left = node.left;
  }

-- a core, when another one hears
pub node-other_hear : (s : Setting) (h : List Event) (log : List Evaluated) (n m o i : ℕ) (core : CoreValue) → IsNode s h log n core → eqb m n ≡ false → IsNode s (Hear m o i ∷ h) log n core
node-other_hear s h log n m o i core node other =
    record {
      plant = node.plant;
      resource = node.resource;
      firsts = node.firsts;
      max_number = node.max_number;
      incarnation = node.incarnation;
      heard = node.heard ∙ sym (heard-other_hear s n m o i h other);
      shaped = node.shaped;
      keeps = node.keeps;
      long = node.long;
      left = node.left;
    }

-- a core, when another one restarts
pub node-other_restart : (s : Setting) (h : List Event) (log : List Evaluated) (n m : ℕ) (core : CoreValue) → IsNode s h log n core → eqb m n ≡ false → IsNode s (Restart m ∷ h) log n core
node-other_restart s h log n m core node other =
    record {
      plant = node.plant;
      resource = node.resource;
      firsts = node.firsts;
      max_number = node.max_number;
      shaped = node.shaped;
      incarnation = node.incarnation ∙ rw other;
      heard = node.heard ∙ sym (heard-other_restart s n m h other);
      keeps = λ p. node.keeps p ∙ ap (λ o. cond (eqb p.resource n || node_takes s.plant n p) o None) (sym (latest-other_restart s n m h p log other));
      long = node.long;
      left = node.left;
    }

-- a core that evaluates one of its tasks
pub node-evaluate : (s : Setting) (h : List Event) (log : List Evaluated) (core : CoreValue) (k : ℕ) (t : TaskRef) (dt : ℕ) (inputs : List FieldInput) (x : Evaluated) → AllLawful s h → IsLog s h log → IsNextEvaluation s h log k t dt inputs x
    → IsNode s h log t.resource core
    → IsNode s (Evaluate k t dt inputs ∷ h) (x ∷ log) t.resource (record core { table = with_known core.table t (Some x) })
node-evaluate s h log core k t dt inputs x all is next node =
    record {
      plant = node.plant;
      resource = node.resource;
      firsts = node.firsts;
      max_number = node.max_number;
      incarnation = node.incarnation;
      heard = node.heard;
      shaped = row_lengths_kept core.table t.resource t.task (Some x) ∙ node.shaped;
      keeps = λ p. by p (same_task t p) refl;
      long = node.long;
      left = λ p own lt. leaves p own lt (same_task t p) refl;
    } where
      at : x.name ≡ next_name s t h
      at = named s h log k t dt inputs x next

      place : has_place core.table t
      place = cell_place codes_in core.plant.resources core.table t.resource t.task next.code refl node.shaped (subst (λ w. code_at w t ≡ Some next.code) (sym node.plant) next.found)

      own : kept_of s t.resource (Evaluate k t dt inputs ∷ h) (x ∷ log) t ≡ Some x
      own =
          let on : (eqb t.resource t.resource || node_takes s.plant t.resource t) ≡ true = rw (eq-eqb t.resource t.resource refl) in
          ap (λ w. cond w (latest s t.resource (Evaluate k t dt inputs ∷ h) t (x ∷ log)) None) on
          ∙ latest-evaluate s k t dt inputs h x log next

      leaves : (p : TaskRef) → p.resource ≡ t.resource → p.task < length core.kept → (b : Bool) → same_task t p ≡ b
          → left_by (kept_at core p.task) (known (with_known core.table t (Some x)) p) ≡ left_by (opening_of s p) (last_of p (x ∷ log))
      leaves p own lt true e =
          let same : t ≡ p = same_task-true t p e in
          let here : known (with_known core.table t (Some x)) p ≡ Some x = ap (known (with_known core.table t (Some x))) (sym same) ∙ cell_same core.table t.resource t.task (Some x) None place.0 place.1 in
          ap (left_by (kept_at core p.task)) here ∙ ap (left_by (opening_of s p)) (sym (last-same p x log (rw at e)))
      leaves p own lt false e =
          ap (left_by (kept_at core p.task)) (cell_other core.table t.resource t.task p.resource p.task (Some x) None place.0 e)
          ∙ node.left p own lt ∙ ap (left_by (opening_of s p)) (sym (last-other p x log (rw at e)))

      by : (p : TaskRef) (b : Bool) → same_task t p ≡ b → known (with_known core.table t (Some x)) p ≡ kept_of s t.resource (Evaluate k t dt inputs ∷ h) (x ∷ log) p
      by p true e =
          subst (λ r. known (with_known core.table t (Some x)) r ≡ kept_of s t.resource (Evaluate k t dt inputs ∷ h) (x ∷ log) r) (same_task-true t p e)
          (cell_same core.table t.resource t.task (Some x) None place.0 place.1 ∙ sym own)
      by p false e =
          cell_other core.table t.resource t.task p.resource p.task (Some x) None place.0 e
          ∙ node.keeps p
          ∙ ap (λ o. cond (eqb p.resource t.resource || node_takes s.plant t.resource p) o None)
          (sym (latest-other_evaluate s t.resource k t dt inputs h p x log all (length-log s h log is) (rw (at, e))))

-- a core, when another one evaluates
pub node-other_evaluate : (s : Setting) (h : List Event) (log : List Evaluated) (n : ℕ) (core : CoreValue) (k : ℕ) (t : TaskRef) (dt : ℕ) (inputs : List FieldInput) (x : Evaluated) → AllLawful s h → IsLog s h log → IsNextEvaluation s h log k t dt inputs x
    → IsNode s h log n core → eqb t.resource n ≡ false → IsNode s (Evaluate k t dt inputs ∷ h) (x ∷ log) n core
node-other_evaluate s h log n core k t dt inputs x all is next node other =
    record {
      plant = node.plant;
      resource = node.resource;
      firsts = node.firsts;
      max_number = node.max_number;
      incarnation = node.incarnation;
      heard = node.heard;
      shaped = node.shaped;
      keeps = λ p. node.keeps p ∙ ap (λ o. cond (eqb p.resource n || node_takes s.plant n p) o None) (sym (latest-other_evaluate s n k t dt inputs h p x log all (length-log s h log is) (apart p (same_task t p) refl)));
      long = node.long;
      left = λ p own lt. node.left p own lt ∙ ap (left_by (opening_of s p)) (sym (last-other p x log (away p own (same_task t p) refl)));
    } where
      away : (p : TaskRef) → p.resource ≡ n → (b : Bool) → same_task t p ≡ b → same_task x.name.task p ≡ false
      away p own true e = absurd (false≢true (sym other ∙ eq-eqb t.resource n (ap (λ (r : TaskRef). r.resource) (same_task-true t p e) ∙ own)))
      away p own false e = rw (named s h log k t dt inputs x next) e

      apart : (p : TaskRef) (b : Bool) → same_task t p ≡ b → (same_task x.name.task p && eqb p.resource n) ≡ false
      apart p true e = rw (named s h log k t dt inputs x next, e) (subst (λ r. eqb r.resource n ≡ false) (same_task-true t p e) other)
      apart p false e = rw (named s h log k t dt inputs x next, e)

-- the world's step at a Hear
pub world-hear : (s : Setting) (events : List Event) (log : List Evaluated) (cores : List CoreValue) (n o i : ℕ) (core new : CoreValue) (answer : Bool)
    → IsWorld s events log cores → n < length cores → o < length cores → core ≡ get_or cores n core → HasHeard core new o i answer → is_lawful s (history_of s events) (Hear n o i) ≡ true
    → IsWorld s (events ++ Hear n o i ∷ []) log (slice_set cores n new)
world-hear s events log cores n o i core new answer world inside there read done lawful =
    let more : history_of s (events ++ Hear n o i ∷ []) ≡ Hear n o i ∷ history_of s events = history-one_more s events (Hear n o i) lawful in
    record {
      planned = world.planned;
      logged = subst (λ g. IsLog s g (reverse log)) (sym more) world.logged;
      firsts = world.firsts;
      sized = length-set cores n new ∙ world.sized;
      nodes = λ m c found. subst (λ g. IsNode s g (reverse log) m c) (sym more) (by m c (set-found cores n m new c inside found));
    } where
      at : slice_get cores n ≡ Some core
      at = slice_get_read cores (length cores) n core refl inside read

      by : (m : ℕ) (c : CoreValue) → ((m ≡ n) × (new ≡ c)) ⊎ ((n ≡ m → ⊥) × (slice_get cores m ≡ Some c)) → IsNode s (Hear n o i ∷ history_of s events) (reverse log) m c
      by m c (inl p) =
          subst (λ d. IsNode s (Hear n o i ∷ history_of s events) (reverse log) m d) p.1
          (subst (λ r. IsNode s (Hear n o i ∷ history_of s events) (reverse log) r new) (sym p.0)
          (node-hear s (history_of s events) (reverse log) n o i core new answer (let sized = world.sized in omega (arith, there, sized)) (world.nodes n core at) done))
      by m c (inr p) = node-other_hear s (history_of s events) (reverse log) m n o i c (world.nodes m c p.1) (ne_eqb n m p.0)
