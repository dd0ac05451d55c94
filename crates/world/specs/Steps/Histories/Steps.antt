-- How the latest of a producer at a resource changes with each event.
use Rattle.std.proofs.Common.{◌≡◌, ℕ, suc, ◌+◌, ◌<◌, ◌≤◌, Bool, true, false, cond, ◌&&◌, ◌||◌, List, [], ◌∷◌, length, Some, None, refl, ap, sym, ◌∙◌, subst, arith, eqb, ltb, leb, add-one}
use Rattle.std.specs.List.{list_any}
use Rattle.std.proofs.lemmas.Bool.{eq-eqb, ne_eqb, eqb-true, leb-true, and_parts}
use Rattle.std.specs.Prelude.{slice_get}
use Rattle.task_codes.specs.declared.task_ref.TaskRef.{TaskRef}
use Rattle.evaluation.specs.declared.name.Name.{Name}
use Rattle.evaluation.specs.declared.field_input.FieldInput.{FieldInput}
use Rattle.evaluation.specs.Meaning.{Evaluated}
use Rattle.evaluation.specs.Last.{same_task, last_number}
use Rattle.world.specs.declared.event.Event.{Event}
use Rattle.world.specs.declared.event.Event.TheVariants.{Evaluate, Deliver, Restart, Hear}
use Rattle.evaluation.specs.Heard.{is_number, is_addressed}
use Rattle.world.specs.History.{Setting, is_deliver_of, made_count, number_of, incarnation_of}
use Rattle.world.specs.Run.{IsLog, IsNextEvaluation, has_reached, latest, last_among, message, next_name}
use Rattle.world.specs.Laws.{held_with}
use Rattle.world.specs.Steps.Histories.Tasks.{same_task-true, same_task-itself}
use Rattle.world.specs.Steps.Histories.Latest.{Rises, last_among-agree, last_among-missing, last_among-arrival}
use Rattle.world.specs.Steps.Histories.Names.{AllLawful, length-log, named}
use Rattle.world.specs.Steps.Histories.Heard.{not_addressed}

pub incarnation-restart : (s : Setting) (n : ℕ) (h : List Event) → incarnation_of s n (Restart n ∷ h) ≡ incarnation_of s n h + 1
incarnation-restart s n h = rw (eq-eqb n n refl) (omega arith)

-- an evaluation of p was made where p is
maker : (p : TaskRef) (n : ℕ) (b : Bool) (y : Evaluated) → same_task y.name.task p ≡ true → eqb p.resource n ≡ b → eqb y.name.task.resource n ≡ b
maker p n b y e at = subst (λ r. eqb r.resource n ≡ b) (sym (same_task-true y.name.task p e)) at

-- an evaluation is addressed to the present incarnation of a resource
abbrev pub is_for : Setting → ℕ → List Event → Evaluated → Bool
is_for s n h y = is_addressed y n (incarnation_of s n h)

-- a delivery to this resource is one more arrival, if it is addressed
reached-deliver : (s : Setting) (n k : ℕ) (h : List Event) (y : Evaluated) → eqb y.name.task.resource n ≡ false → (j : ℕ) → has_reached s n (Deliver k n ∷ h) j y ≡ ((is_for s n h y && eqb k j) || has_reached s n h j y)
reached-deliver s n k h y other j = rw (other, eq-eqb n n refl) (by (is_for s n h y) (eqb k j) (list_any (is_deliver_of j n) h)) where
  by : (a b c : Bool) → (a && ((b && true) || c)) ≡ ((a && b) || (a && c))
  by true true c = refl
  by true false c = refl
  by false b c = refl

pub latest-deliver : (s : Setting) (n k : ℕ) (h : List Event) (p : TaskRef) (log : List Evaluated) → eqb p.resource n ≡ false → Rises p log
    → latest s n (Deliver k n ∷ h) p log ≡ held_with p (is_for s n h) (latest s n h p log) (message log k)
latest-deliver s n k h p log other rises =
    last_among-agree p (has_reached s n (Deliver k n ∷ h)) (λ j y. (is_for s n h y && eqb k j) || has_reached s n h j y) log (λ j y e _. reached-deliver s n k h y (maker p n false y e other) j)
    ∙ last_among-arrival p (is_for s n h) (has_reached s n h) k log rises

-- a delivery to a resource brings nothing of its own tasks
pub latest-own_deliver : (s : Setting) (n k m : ℕ) (h : List Event) (p : TaskRef) (log : List Evaluated) → eqb p.resource n ≡ true → latest s n (Deliver k m ∷ h) p log ≡ latest s n h p log
latest-own_deliver s n k m h p log own =
    last_among-agree p (has_reached s n (Deliver k m ∷ h)) (has_reached s n h) log (λ j y e _. rw (maker p n true y e own) refl)

-- a delivery elsewhere brings nothing here
pub latest-other_deliver : (s : Setting) (n k m : ℕ) (h : List Event) (p : TaskRef) (log : List Evaluated) → eqb m n ≡ false → latest s n (Deliver k m ∷ h) p log ≡ latest s n h p log
latest-other_deliver s n k m h p log other =
    last_among-agree p (has_reached s n (Deliver k m ∷ h)) (has_reached s n h) log (λ j y _ _. rw other (by (is_for s n h y) (eqb y.name.task.resource n) (eqb k j) (list_any (is_deliver_of j n) h))) where
      by : (a b c d : Bool) → (a && (b || ((c && false) || d))) ≡ (a && (b || d))
      by a b true d = refl
      by a b false d = refl

-- a restart of this resource takes everything from it
pub latest-restart : (s : Setting) (n : ℕ) (h : List Event) (p : TaskRef) (log : List Evaluated) → AllLawful s h → IsLog s h log → latest s n (Restart n ∷ h) p log ≡ None
latest-restart s n h p log all is =
    last_among-missing p (has_reached s n (Restart n ∷ h)) log
    (λ j y among. ap (λ b. b && (eqb y.name.task.resource n || list_any (is_deliver_of j n) h)) (not_addressed s h log all is y among n (incarnation_of s n (Restart n ∷ h)) (omega (arith, incarnation-restart s n h))))

-- a restart elsewhere changes nothing here
pub latest-other_restart : (s : Setting) (n m : ℕ) (h : List Event) (p : TaskRef) (log : List Evaluated) → eqb m n ≡ false → latest s n (Restart m ∷ h) p log ≡ latest s n h p log
latest-other_restart s n m h p log other =
    last_among-agree p (has_reached s n (Restart m ∷ h)) (has_reached s n h) log (λ j y _ _. rw other refl)

-- a hearing changes nothing of what has reached
pub latest-hear : (s : Setting) (n r o i : ℕ) (h : List Event) (p : TaskRef) (log : List Evaluated) → latest s n (Hear r o i ∷ h) p log ≡ latest s n h p log
latest-hear s n r o i h p log = refl

-- what was not made yet was not delivered
unreached : (s : Setting) (n k : ℕ) (h : List Event) → AllLawful s h → made_count h < k → list_any (is_deliver_of k n) h ≡ false
unreached s n k [] all above = refl
unreached s n k (Evaluate j t dt inputs ∷ h) all above = unreached s n k h all.1 (omega arith)
unreached s n k (Deliver j m ∷ h) all above =
    let low : leb j (made_count h) ≡ true = (and_parts (leb 1 j) _ (and_parts (ltb m (length s.plant.resources)) _ all.0).1).1 in
    let known : j ≤ made_count h = leb-true _ _ low in
    rw (ne_eqb j k (λ e. omega arith)) (unreached s n k h all.1 above)
unreached s n k (Restart m ∷ h) all above = unreached s n k h all.1 above
unreached s n k (Hear m o i ∷ h) all above = unreached s n k h all.1 above

-- an evaluation is addressed to its own incarnation
pub own-addressed : (s : Setting) (h : List Event) (log : List Evaluated) (k : ℕ) (t : TaskRef) (dt : ℕ) (inputs : List FieldInput) (x : Evaluated) → IsNextEvaluation s h log k t dt inputs x
    → is_for s t.resource h x ≡ true
own-addressed s h log k t dt inputs x next =
    let at : x.name ≡ next_name s t h = named s h log k t dt inputs x next in
    let own : slice_get x.heard t.resource ≡ Some (incarnation_of s t.resource h) = subst (λ (n : Name). slice_get x.heard n.task.resource ≡ Some n.incarnation) at next.asked.whole.own_heard in
    ap (is_number (incarnation_of s t.resource h)) own ∙ eq-eqb (incarnation_of s t.resource h) (incarnation_of s t.resource h) refl

-- an evaluation is at once the latest of its task at its own resource
pub latest-evaluate : (s : Setting) (k : ℕ) (t : TaskRef) (dt : ℕ) (inputs : List FieldInput) (h : List Event) (x : Evaluated) (log : List Evaluated) → IsNextEvaluation s h log k t dt inputs x
    → latest s t.resource (Evaluate k t dt inputs ∷ h) t (x ∷ log) ≡ Some x
latest-evaluate s k t dt inputs h x log next =
    let task : x.name.task ≡ t = ap (λ (n : Name). n.task) (named s h log k t dt inputs x next) in
    let passes : has_reached s t.resource (Evaluate k t dt inputs ∷ h) (suc (length log)) x ≡ true =
    ap (λ b. b && (eqb x.name.task.resource t.resource || list_any (is_deliver_of (suc (length log)) t.resource) h)) (own-addressed s h log k t dt inputs x next)
    ∙ ap (λ b. b || list_any (is_deliver_of (suc (length log)) t.resource) h) (eq-eqb x.name.task.resource t.resource (ap (λ (r : TaskRef). r.resource) task)) in
    let own : same_task x.name.task t ≡ true = subst (λ u. same_task u t ≡ true) (sym task) (same_task-itself t) in
    ap (λ b. cond (b && has_reached s t.resource (Evaluate k t dt inputs ∷ h) (suc (length log)) x) (Some x) (last_among t (has_reached s t.resource (Evaluate k t dt inputs ∷ h)) log)) own
    ∙ ap (λ b. cond b (Some x) (last_among t (has_reached s t.resource (Evaluate k t dt inputs ∷ h)) log)) passes

-- it changes nothing of other tasks, and nothing at other resources
pub latest-other_evaluate : (s : Setting) (n k : ℕ) (t : TaskRef) (dt : ℕ) (inputs : List FieldInput) (h : List Event) (p : TaskRef) (x : Evaluated) (log : List Evaluated)
    → AllLawful s h → length log ≡ made_count h → (same_task x.name.task p && eqb p.resource n) ≡ false
    → latest s n (Evaluate k t dt inputs ∷ h) p (x ∷ log) ≡ latest s n h p log
latest-other_evaluate s n k t dt inputs h p x log all size other =
    ap (λ b. cond b (Some x) (latest s n h p log)) not_counted where
      none : (a : Bool) → (a && (false || false)) ≡ false
      none true = refl
      none false = refl

      counted : (a : Bool) → same_task x.name.task p ≡ a → (a && eqb p.resource n) ≡ false → (a && has_reached s n (Evaluate k t dt inputs ∷ h) (suc (length log)) x) ≡ false
      counted false e away = refl
      counted true e away =
          ap (λ b. is_for s n h x && (b || list_any (is_deliver_of (suc (length log)) n) h)) (maker p n false x e away)
          ∙ ap (λ b. is_for s n h x && (false || b)) (unreached s n (suc (length log)) h all (omega (arith, size)))
          ∙ none (is_for s n h x)

      not_counted : (same_task x.name.task p && has_reached s n (Evaluate k t dt inputs ∷ h) (suc (length log)) x) ≡ false
      not_counted = counted (same_task x.name.task p) refl other

-- the number of the latest of a task at its own resource is the count of its evaluations since that restarted
pub number-latest : (s : Setting) (t : TaskRef) (h : List Event) (log : List Evaluated) → AllLawful s h → IsLog s h log → last_number (latest s t.resource h t log) ≡ number_of t h
number-latest s t [] [] all is = refl
number-latest s t [] (x ∷ older) all is = absurd is
number-latest s t (Deliver k m ∷ h) log all is = ap last_number (latest-own_deliver s t.resource k m h t log (eq-eqb t.resource t.resource refl)) ∙ number-latest s t h log all.1 is
number-latest s t (Hear m o i ∷ h) log all is = number-latest s t h log all.1 is
number-latest s t (Restart m ∷ h) log all is = by (number-latest s t h log all.1 is) (eqb m t.resource) refl where
  by : last_number (latest s t.resource h t log) ≡ number_of t h → (b : Bool) → eqb m t.resource ≡ b → last_number (latest s t.resource (Restart m ∷ h) t log) ≡ number_of t (Restart m ∷ h)
  by ih true e =
      let none = latest-restart s t.resource h t log all.1 is in
      ap last_number (subst (λ r. latest s t.resource (Restart r ∷ h) t log ≡ None) (sym (eqb-true m t.resource e)) none) ∙ rw e
  by ih false e = ap last_number (latest-other_restart s t.resource m h t log e) ∙ ih ∙ rw e
number-latest s t (Evaluate k u dt inputs ∷ h) [] all is = absurd is
number-latest s t (Evaluate k u dt inputs ∷ h) (x ∷ older) all is = by (number-latest s t h older all.1 is.0) (same_task u t) refl where
  at : x.name ≡ next_name s u h
  at = named s h older k u dt inputs x is.1

  by : last_number (latest s t.resource h t older) ≡ number_of t h → (b : Bool) → same_task u t ≡ b
      → last_number (latest s t.resource (Evaluate k u dt inputs ∷ h) t (x ∷ older)) ≡ number_of t (Evaluate k u dt inputs ∷ h)
  by ih true e =
      subst (λ v. last_number (latest s v.resource (Evaluate k u dt inputs ∷ h) v (x ∷ older)) ≡ number_of v (Evaluate k u dt inputs ∷ h)) (same_task-true u t e)
      (ap last_number (latest-evaluate s k u dt inputs h x older is.1) ∙ rw (at, same_task-itself u, add-one (number_of u h)))
  by ih false e =
      ap last_number (latest-other_evaluate s t.resource k u dt inputs h t x older all.1 (length-log s h older is.0) (rw (at, e))) ∙ ih ∙ rw e
