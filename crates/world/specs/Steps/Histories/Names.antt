-- In a lawful history the pairs of each task rise strictly.
use Rattle.std.proofs.Common.{◌≡◌, inl, inr, ℕ, suc, ◌+◌, ◌≤◌, Bool, true, false, cond, List, [], ◌∷◌, ◌++◌, length, refl, ap, sym, ◌∙◌, subst, arith, eqb, add-suc, add-one, zero-add}
use Rattle.std.proofs.lemmas.Bool.{false≢true}
use Rattle.std.proofs.lemmas.Bool.Decides.{nat_tests}
use Rattle.task_codes.specs.declared.task_ref.TaskRef.{TaskRef}
use Rattle.evaluation.specs.declared.field_input.FieldInput.{FieldInput}
use Rattle.evaluation.specs.declared.name.Name.{Name}
use Rattle.evaluation.specs.Names.{precedes}
use Rattle.evaluation.specs.Meaning.{Evaluated}
use Rattle.evaluation.specs.Last.{same_task}
use Rattle.world.specs.declared.event.Event.{Event}
use Rattle.world.specs.declared.event.Event.TheVariants.{Evaluate, Deliver, Restart, Hear}
use Rattle.world.specs.History.{Setting, made_count, number_of, incarnation_of, is_lawful, after_events}
use Rattle.world.specs.Run.{IsLog, IsNextEvaluation, next_name}
use Rattle.lists.specs.Among.{Among}
use Rattle.world.specs.Steps.Histories.Tasks.{same_task-true, same_task-itself}
use Rattle.world.specs.Steps.Histories.Latest.{AllBefore, Rises}

-- each event of the history was lawful when it happened
abbrev pub AllLawful : Setting → List Event → Type 0
AllLawful s [] = Unit {0}
AllLawful s (e ∷ h) = (is_lawful s h e ≡ true) × AllLawful s h

pub AllLawful-after : (s : Setting) (h es : List Event) → AllLawful s h → AllLawful s (after_events s h es)
AllLawful-after s h [] all = all
AllLawful-after s h (e ∷ es) all = AllLawful-after s (cond (is_lawful s h e) (e ∷ h) h) es (by (is_lawful s h e) refl) where
  by : (b : Bool) → is_lawful s h e ≡ b → AllLawful s (cond b (e ∷ h) h)
  by true f = (f, all)
  by false f = all

-- events after other events
pub after_append : (s : Setting) (h xs ys : List Event) → after_events s h (xs ++ ys) ≡ after_events s (after_events s h xs) ys
after_append s h [] ys = refl
after_append s h (x ∷ xs) ys = after_append s (cond (is_lawful s h x) (x ∷ h) h) xs ys

-- the name of a next evaluation
pub named : (s : Setting) (h : List Event) (log : List Evaluated) (k : ℕ) (t : TaskRef) (dt : ℕ) (inputs : List FieldInput) (x : Evaluated) → IsNextEvaluation s h log k t dt inputs x → x.name ≡ next_name s t h
named s h log k t dt inputs x next = ap (λ y. y.name) next.asked.is

pub length-log : (s : Setting) (h : List Event) (log : List Evaluated) → IsLog s h log → length log ≡ made_count h
length-log s [] [] is = refl
length-log s [] (x ∷ older) is = absurd is
length-log s (Evaluate k t dt inputs ∷ h) [] is = absurd is
length-log s (Evaluate k t dt inputs ∷ h) (x ∷ older) is = rw (length-log s h older is.0)
length-log s (Deliver k n ∷ h) log is = length-log s h log is
length-log s (Restart n ∷ h) log is = length-log s h log is
length-log s (Hear n of incarnation ∷ h) log is = length-log s h log is

AllBefore-later : (p : TaskRef) (a b : Name) → ((y : Name) → precedes y a ≡ true → precedes y b ≡ true) → (log : List Evaluated) → AllBefore p a log → AllBefore p b log
AllBefore-later p a b later [] all = tt
AllBefore-later p a b later (y ∷ ys) all = (λ e. later y.name (all.0 e), AllBefore-later p a b later ys all.1)

AllBefore-same : (p : TaskRef) (a b : Name) (log : List Evaluated) → a ≡ b → AllBefore p b log → AllBefore p a log
AllBefore-same p a b log e all = subst (λ n. AllBefore p n log) (sym e) all

restarted : (i m k : ℕ) (p : TaskRef) (y : Name) → precedes y (record { task = p; incarnation = i; number = m }) ≡ true → precedes y (record { task = p; incarnation = suc i; number = k }) ≡ true
restarted i m k p y h = grind (arith, nat_tests)

numbered : (i m : ℕ) (p : TaskRef) (y : Name) → precedes y (record { task = p; incarnation = i; number = m }) ≡ true → precedes y (record { task = p; incarnation = i; number = m + 1 }) ≡ true
numbered i m p y h = grind (arith, nat_tests)

numbered_next : (i m : ℕ) (p : TaskRef) → precedes (record { task = p; incarnation = i; number = m }) (record { task = p; incarnation = i; number = m + 1 }) ≡ true
numbered_next i m p = grind (arith, nat_tests)

next-restart : (s : Setting) (p : TaskRef) (n : ℕ) (h : List Event) → eqb n p.resource ≡ true → next_name s p (Restart n ∷ h) ≡ record { task = p; incarnation = suc (incarnation_of s p.resource h); number = 1 }
next-restart s p n h e = rw (e, add-suc, zero-add)

next-other_restart : (s : Setting) (p : TaskRef) (n : ℕ) (h : List Event) → eqb n p.resource ≡ false → next_name s p (Restart n ∷ h) ≡ next_name s p h
next-other_restart s p n h e = rw e

next-evaluate : (s : Setting) (p : TaskRef) (k : ℕ) (t : TaskRef) (dt : ℕ) (inputs : List FieldInput) (h : List Event) → same_task t p ≡ true
    → next_name s p (Evaluate k t dt inputs ∷ h) ≡ record { task = p; incarnation = incarnation_of s p.resource h; number = number_of p h + 1 + 1 }
next-evaluate s p k t dt inputs h e = rw (e, add-one (number_of p h))

next-other_evaluate : (s : Setting) (p : TaskRef) (k : ℕ) (t : TaskRef) (dt : ℕ) (inputs : List FieldInput) (h : List Event) → same_task t p ≡ false
    → next_name s p (Evaluate k t dt inputs ∷ h) ≡ next_name s p h
next-other_evaluate s p k t dt inputs h e = rw e

-- every evaluation of p in the log precedes the next one
pub before_next : (s : Setting) (p : TaskRef) (h : List Event) (log : List Evaluated) → IsLog s h log → AllBefore p (next_name s p h) log
before_next s p [] [] is = tt
before_next s p [] (x ∷ older) is = absurd is
before_next s p (Deliver k n ∷ h) log is = before_next s p h log is
before_next s p (Hear n of incarnation ∷ h) log is = before_next s p h log is
before_next s p (Restart n ∷ h) log is = by (before_next s p h log is) (eqb n p.resource) refl where
  by : AllBefore p (next_name s p h) log → (b : Bool) → eqb n p.resource ≡ b → AllBefore p (next_name s p (Restart n ∷ h)) log
  by ih true e = AllBefore-same p _ _ log (next-restart s p n h e) (AllBefore-later p (next_name s p h) (record { task = p; incarnation = suc (incarnation_of s p.resource h); number = 1 }) (restarted (incarnation_of s p.resource h) (number_of p h + 1) 1 p) log ih)
  by ih false e = AllBefore-same p _ _ log (next-other_restart s p n h e) ih
before_next s p (Evaluate k t dt inputs ∷ h) [] is = absurd is
before_next s p (Evaluate k t dt inputs ∷ h) (x ∷ older) is = by (before_next s p h older is.0) (same_task t p) refl where
  at : x.name ≡ next_name s t h
  at = named s h older k t dt inputs x is.1

  by : AllBefore p (next_name s p h) older → (b : Bool) → same_task t p ≡ b → AllBefore p (next_name s p (Evaluate k t dt inputs ∷ h)) (x ∷ older)
  by ih true e =
      let next : Name = record { task = p; incarnation = incarnation_of s p.resource h; number = number_of p h + 1 + 1 } in
      let later : (y : Name) → precedes y (next_name s p h) ≡ true → precedes y next ≡ true = numbered (incarnation_of s p.resource h) (number_of p h + 1) p in
      AllBefore-same p _ next (x ∷ older) (next-evaluate s p k t dt inputs h e) (
        (λ _. subst (λ n. precedes n next ≡ true) (sym (at ∙ ap (λ u. next_name s u h) (same_task-true t p e))) (numbered_next (incarnation_of s p.resource h) (number_of p h + 1) p)),
        AllBefore-later p (next_name s p h) next later older ih,
      )
  by ih false e =
      AllBefore-same p _ (next_name s p h) (x ∷ older) (next-other_evaluate s p k t dt inputs h e)
      ((λ f. absurd (false≢true (sym e ∙ subst (λ n. same_task n.task p ≡ true) at f))), ih)

-- the pairs of each task rise strictly along the log
pub log-rises : (s : Setting) (p : TaskRef) (h : List Event) (log : List Evaluated) → IsLog s h log → Rises p log
log-rises s p [] [] is = tt
log-rises s p [] (x ∷ older) is = absurd is
log-rises s p (Deliver k n ∷ h) log is = log-rises s p h log is
log-rises s p (Restart n ∷ h) log is = log-rises s p h log is
log-rises s p (Hear n of incarnation ∷ h) log is = log-rises s p h log is
log-rises s p (Evaluate k t dt inputs ∷ h) [] is = absurd is
log-rises s p (Evaluate k t dt inputs ∷ h) (x ∷ older) is =
    let at : x.name ≡ next_name s t h = named s h older k t dt inputs x is.1 in (
      (λ e. subst (λ n. AllBefore p n older) (sym (at ∙ ap (λ u. next_name s u h) (same_task-true t p (subst (λ n. same_task n.task p ≡ true) at e)))) (before_next s p h older is.0)),
      log-rises s p h older is.0,
    )

-- each entry of a task has a smaller pair than a name that all of them precede
pub AllBefore-entry : (p : TaskRef) (name : Name) (log : List Evaluated) (y : Evaluated) → AllBefore p name log → Among y log → same_task y.name.task p ≡ true → precedes y.name name ≡ true
AllBefore-entry p name [] y all among e = elim among [ ]
AllBefore-entry p name (x ∷ older) y all (inl same) e = rw (← same) (all.0 (rw same e))
AllBefore-entry p name (x ∷ older) y all (inr among) e = AllBefore-entry p name older y all.1 among e

not_above : (a b : Name) → precedes a b ≡ true → a.incarnation ≤ b.incarnation
not_above a b h = grind (arith, nat_tests)

-- no entry of a resource has a greater incarnation than its present one
pub incarnation-low : (s : Setting) (h : List Event) (log : List Evaluated) → IsLog s h log → (y : Evaluated) → Among y log → y.name.incarnation ≤ incarnation_of s y.name.task.resource h
incarnation-low s h log is y among =
    not_above y.name (next_name s y.name.task h) (AllBefore-entry y.name.task (next_name s y.name.task h) log y (before_next s y.name.task h log is) among (same_task-itself y.name.task))
