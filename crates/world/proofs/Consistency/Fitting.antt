-- What the entries of a log are: of the latest, of smaller pairs, and of the present incarnation.
use Rattle.std.proofs.Common.{◌≡◌, inl, inr, ℕ, suc, ◌+◌, ◌<◌, ◌≤◌, Bool, true, false, cond, ◌&&◌, List, [], ◌∷◌, length, Option, Some, None, refl, ap, sym, ◌∙◌, subst, arith, eqb}
use Rattle.std.specs.Prelude.{MatchOption}
use Rattle.std.proofs.lemmas.Bool.{eq-eqb, ne_eqb, eqb-true}
use Rattle.task_codes.specs.declared.task_ref.TaskRef.{TaskRef}
use Rattle.evaluation.specs.declared.field_input.FieldInput.{FieldInput}
use Rattle.evaluation.specs.Meaning.{Evaluated}
use Rattle.evaluation.specs.Last.{same_task, takes_of}
use Rattle.world.specs.declared.event.Event.{Event}
use Rattle.world.specs.declared.event.Event.TheVariants.{Evaluate, Deliver, Restart, Hear}
use Rattle.world.specs.History.{Setting, incarnation_of}
use Rattle.world.specs.Run.{IsLog, IsNextEvaluation, next_name, latest, last_among}
use Rattle.lists.specs.Among.{Among}
use Rattle.book.specs.Fits.{last_in}
use Rattle.world.specs.Steps.Histories.Tasks.{same_task-true, same_task-itself}
use Rattle.world.specs.Steps.Histories.Names.{AllLawful, length-log, incarnation-low, named}
use Rattle.world.specs.Steps.Histories.Steps.{latest-own_deliver, latest-restart, latest-other_restart, latest-evaluate, latest-other_evaluate, incarnation-restart}

-- the takes of a next evaluation
pub taken : (s : Setting) (h : List Event) (log : List Evaluated) (k : ℕ) (t : TaskRef) (dt : ℕ) (inputs : List FieldInput) (x : Evaluated) (next : IsNextEvaluation s h log k t dt inputs x)
    → x.takes ≡ takes_of (λ p. latest s t.resource h p log) next.code
taken s h log k t dt inputs x next = ap (λ (y : Evaluated). y.takes) next.asked.is

-- the last of a producer that passes is one of its entries
pub last_among-entry : (p : TaskRef) (passes : ℕ → Evaluated → Bool) (log : List Evaluated) → MatchOption (last_among p passes log) (Unit {0}) (λ z. Among z log × (same_task z.name.task p ≡ true))
last_among-entry p passes [] = tt
last_among-entry p passes (x ∷ older) = by (last_among-entry p passes older) (same_task x.name.task p) refl (passes (suc (length older)) x) where
  wider : (o : Option Evaluated) → MatchOption o (Unit {0}) (λ z. Among z older × (same_task z.name.task p ≡ true)) → MatchOption o (Unit {0}) (λ z. Among z (x ∷ older) × (same_task z.name.task p ≡ true))
  wider None w = tt
  wider (Some z) w = (inr w.0, w.1)

  by : MatchOption (last_among p passes older) (Unit {0}) (λ z. Among z older × (same_task z.name.task p ≡ true)) → (t : Bool) → same_task x.name.task p ≡ t → (b : Bool)
      → MatchOption (cond (t && b) (Some x) (last_among p passes older)) (Unit {0}) (λ z. Among z (x ∷ older) × (same_task z.name.task p ≡ true))
  by ih true e true = (inl refl, e)
  by ih true e false = wider _ ih
  by ih false e b = wider _ ih

-- where all entries of a task are of earlier incarnations, there is no last one in this
last_in-none : (t : TaskRef) (i : ℕ) (log : List Evaluated) → ((y : Evaluated) → Among y log → same_task y.name.task t ≡ true → y.name.incarnation < i) → last_in log t i ≡ None
last_in-none t i [] low = refl
last_in-none t i (x ∷ older) low = by (last_in-none t i older (λ y among. low y (inr among))) (same_task x.name.task t) refl where
  by : last_in older t i ≡ None → (b : Bool) → same_task x.name.task t ≡ b → cond (b && eqb x.name.incarnation i) (Some x) (last_in older t i) ≡ None
  by ih false e = ih
  by ih true e =
      let under : x.name.incarnation < i = low x (inl refl) e in
      rw (ne_eqb x.name.incarnation i (λ same. omega arith)) ih

-- the latest of a task at its own resource is its last entry in the present incarnation
pub own-latest : (s : Setting) (t : TaskRef) (h : List Event) (log : List Evaluated) → AllLawful s h → IsLog s h log → latest s t.resource h t log ≡ last_in log t (incarnation_of s t.resource h)
own-latest s t [] [] all is = refl
own-latest s t [] (x ∷ older) all is = absurd is
own-latest s t (Deliver k m ∷ h) log all is = latest-own_deliver s t.resource k m h t log (eq-eqb t.resource t.resource refl) ∙ own-latest s t h log all.1 is
own-latest s t (Hear m o i ∷ h) log all is = own-latest s t h log all.1 is
own-latest s t (Restart m ∷ h) log all is = by (own-latest s t h log all.1 is) (eqb m t.resource) refl where
  low : (y : Evaluated) → Among y log → same_task y.name.task t ≡ true → y.name.incarnation < incarnation_of s t.resource h + 1
  low y among e =
      let known : y.name.incarnation ≤ incarnation_of s t.resource h = subst (λ u. y.name.incarnation ≤ incarnation_of s u.resource h) (same_task-true y.name.task t e) (incarnation-low s h log is y among) in
      omega arith

  by : latest s t.resource h t log ≡ last_in log t (incarnation_of s t.resource h) → (b : Bool) → eqb m t.resource ≡ b → latest s t.resource (Restart m ∷ h) t log ≡ last_in log t (incarnation_of s t.resource (Restart m ∷ h))
  by ih true e =
      let here : m ≡ t.resource = eqb-true _ _ e in
      let none = last_in-none t (incarnation_of s t.resource h + 1) log low in
      subst (λ r. latest s t.resource (Restart r ∷ h) t log ≡ last_in log t (incarnation_of s t.resource (Restart r ∷ h))) (sym here)
      (latest-restart s t.resource h t log all.1 is ∙ sym (ap (last_in log t) (incarnation-restart s t.resource h) ∙ none))
  by ih false e = latest-other_restart s t.resource m h t log e ∙ ih ∙ rw e
own-latest s t (Evaluate k u dt inputs ∷ h) [] all is = absurd is
own-latest s t (Evaluate k u dt inputs ∷ h) (x ∷ older) all is = by (own-latest s t h older all.1 is.0) (same_task u t) refl where
  at : x.name ≡ next_name s u h
  at = named s h older k u dt inputs x is.1

  by : latest s t.resource h t older ≡ last_in older t (incarnation_of s t.resource h) → (b : Bool) → same_task u t ≡ b
      → latest s t.resource (Evaluate k u dt inputs ∷ h) t (x ∷ older) ≡ last_in (x ∷ older) t (incarnation_of s t.resource (Evaluate k u dt inputs ∷ h))
  by ih true e =
      subst (λ v. latest s v.resource (Evaluate k u dt inputs ∷ h) v (x ∷ older) ≡ last_in (x ∷ older) v (incarnation_of s v.resource (Evaluate k u dt inputs ∷ h))) (same_task-true u t e)
      (latest-evaluate s k u dt inputs h x older is.1
      ∙ rw (at, same_task-itself u, eq-eqb (incarnation_of s u.resource h) (incarnation_of s u.resource h) refl))
  by ih false e =
      latest-other_evaluate s t.resource k u dt inputs h t x older all.1 (length-log s h older is.0) (rw (at, e))
      ∙ ih ∙ rw (at, e)
