-- Within an incarnation of the taker, no take is below an earlier one of the same producer.
use Rattle.std.proofs.Common.{◌≡◌, ℕ, ◌+◌, ◌≤◌, Bool, true, false, cond, ◌&&◌, List, [], ◌∷◌, map, Option, Some, None, refl, ap, sym, ◌∙◌, subst, arith, eqb}
use Rattle.std.specs.Prelude.{MatchOption}
use Rattle.std.specs.List.{zip}
use Rattle.std.proofs.lemmas.Bool.{eqb-true}
use Rattle.std.proofs.lemmas.Bool.Decides.{nat_tests}
use Rattle.lists.proofs.Each.{Each-from}
use Rattle.lists.proofs.Orders.{not_below-onward}
use Rattle.declared_names.specs.declared.declarations.Kind.{Kind}
use Rattle.task_codes.specs.declared.task_ref.TaskRef.{TaskRef}
use Rattle.task_codes.specs.CodeValue.{CodeValue}
use Rattle.evaluation.specs.declared.field_input.FieldInput.{FieldInput}
use Rattle.evaluation.specs.declared.take.Take.{Take}
use Rattle.evaluation.specs.Names.{precedes, pair_precedes}
use Rattle.evaluation.specs.Meaning.{Evaluated}
use Rattle.evaluation.specs.Last.{same_task, from_of, take_of, takes_of}
use Rattle.world.specs.declared.event.Event.{Event}
use Rattle.world.specs.declared.event.Event.TheVariants.{Evaluate, Deliver, Restart, Hear}
use Rattle.world.specs.History.{Setting, incarnation_of, number_of}
use Rattle.world.specs.Run.{IsLog, IsNextEvaluation, next_name, latest, message, has_reached}
use Rattle.world.specs.Laws.{greater, held_with}
use Rattle.std.specs.List.{AllByRecursion}
use Rattle.lists.specs.Among.{Among}
use Rattle.book.specs.Fits.{is_below}
use Rattle.world.specs.Steps.Histories.Tasks.{same_task-true}
use Rattle.world.specs.Steps.Histories.Latest.{precedes-irreflexive}
use Rattle.world.specs.Steps.Histories.Names.{AllLawful, length-log, before_next, AllBefore-entry, incarnation-low, log-rises, named}
use Rattle.world.specs.Steps.Histories.Steps.{is_for, latest-deliver, latest-own_deliver, latest-other_deliver, latest-other_restart, latest-evaluate, latest-other_evaluate, incarnation-restart}
use Rattle.world.proofs.Consistency.Fitting.{taken, last_among-entry}

not_below-trans : (a b c : ℕ × ℕ) → pair_precedes a b ≡ false → pair_precedes b c ≡ false → pair_precedes a c ≡ false
not_below-trans a b c h k = grind (arith, nat_tests)

not_below-itself : (f : ℕ × ℕ) → pair_precedes f f ≡ false
not_below-itself f = grind (arith, nat_tests)

pub is_below-itself : (o : Option (ℕ × ℕ)) → is_below o o ≡ false
is_below-itself None = refl
is_below-itself (Some f) = not_below-itself f

pub is_below-trans : (a b c : Option (ℕ × ℕ)) → is_below a b ≡ false → is_below b c ≡ false → is_below a c ≡ false
is_below-trans = not_below-onward is_below (λ o. refl) (λ f. refl) not_below-trans

-- what is held with one more is not below what was held
kept-not_below : (q : TaskRef) (counts : Evaluated → Bool) (held new : Option Evaluated) → is_below (from_of (held_with q counts held new)) (from_of held) ≡ false
kept-not_below q counts held None = is_below-itself (from_of held)
kept-not_below q counts held (Some x) = by (same_task x.name.task q && counts x) where
  greatest : (o : Option Evaluated) → is_below (from_of (greater o x)) (from_of o) ≡ false
  greatest None = refl
  greatest (Some y) = choice (precedes y.name x.name) refl where
    choice : (b : Bool) → precedes y.name x.name ≡ b → is_below (from_of (cond b (Some x) (Some y))) (from_of (Some y)) ≡ false
    choice true e = precedes-irreflexive y.name x.name e
    choice false e = is_below-itself (from_of (Some y))

  by : (b : Bool) → is_below (from_of (cond b (greater held x) held)) (from_of held) ≡ false
  by true = greatest held
  by false = is_below-itself (from_of held)

same-not_below : (q : TaskRef) (a b : Option Evaluated) → a ≡ b → is_below (from_of a) (from_of b) ≡ false
same-not_below q a b e = rw e (is_below-itself (from_of b))

-- what each event but a restart of the resource leaves is not below what was the latest
pub deliver-not_below : (s : Setting) (n k m : ℕ) (q : TaskRef) (h : List Event) (log : List Evaluated) → IsLog s h log → is_below (from_of (latest s n (Deliver k m ∷ h) q log)) (from_of (latest s n h q log)) ≡ false
deliver-not_below s n k m q h log is = by (eqb m n) refl (eqb q.resource n) refl where
  by : (b : Bool) → eqb m n ≡ b → (own : Bool) → eqb q.resource n ≡ own → is_below (from_of (latest s n (Deliver k m ∷ h) q log)) (from_of (latest s n h q log)) ≡ false
  by b e true f = same-not_below q _ _ (latest-own_deliver s n k m h q log f)
  by false e false f = same-not_below q _ _ (latest-other_deliver s n k m h q log e)
  by true e false f = rw (eqb-true m n e, latest-deliver s n k h q log f (log-rises s q h log is)) (kept-not_below q (is_for s n h) (latest s n h q log) (message log k))

own-not_below : (s : Setting) (k : ℕ) (t : TaskRef) (dt : ℕ) (inputs : List FieldInput) (h : List Event) (x : Evaluated) (log : List Evaluated) → IsLog s h log → IsNextEvaluation s h log k t dt inputs x
    → is_below (from_of (latest s t.resource (Evaluate k t dt inputs ∷ h) t (x ∷ log))) (from_of (latest s t.resource h t log)) ≡ false
own-not_below s k t dt inputs h x log is next =
    rw (latest-evaluate s k t dt inputs h x log next, at)
    (above (latest s t.resource h t log) (last_among-entry t (has_reached s t.resource h) log)) where
      at : x.name ≡ next_name s t h
      at = named s h log k t dt inputs x next

      above : (o : Option Evaluated) → MatchOption o (Unit {0}) (λ z. Among z log × (same_task z.name.task t ≡ true))
          → is_below (Some (incarnation_of s t.resource h, number_of t h + 1)) (from_of o) ≡ false
      above None w = refl
      above (Some z) w = precedes-irreflexive z.name (next_name s t h) (AllBefore-entry t (next_name s t h) log z (before_next s t h log is) w.0 w.1)

pub evaluate-not_below : (s : Setting) (n k : ℕ) (t : TaskRef) (dt : ℕ) (inputs : List FieldInput) (q : TaskRef) (h : List Event) (x : Evaluated) (log : List Evaluated) → AllLawful s h → IsLog s h log → IsNextEvaluation s h log k t dt inputs x
    → is_below (from_of (latest s n (Evaluate k t dt inputs ∷ h) q (x ∷ log))) (from_of (latest s n h q log)) ≡ false
evaluate-not_below s n k t dt inputs q h x log all is next = by (same_task t q) refl (eqb q.resource n) refl where
  at : x.name ≡ next_name s t h
  at = named s h log k t dt inputs x next

  by : (b : Bool) → same_task t q ≡ b → (own : Bool) → eqb q.resource n ≡ own → is_below (from_of (latest s n (Evaluate k t dt inputs ∷ h) q (x ∷ log))) (from_of (latest s n h q log)) ≡ false
  by false e own f = same-not_below q _ _ (latest-other_evaluate s n k t dt inputs h q x log all (length-log s h log is) (rw (at, e)))
  by true e false f = same-not_below q _ _ (latest-other_evaluate s n k t dt inputs h q x log all (length-log s h log is) (rw (at, e, f)))
  by true e true f =
      let same : t ≡ q = same_task-true t q e in
      let here : q.resource ≡ n = eqb-true _ _ f in
      subst (λ m. is_below (from_of (latest s m (Evaluate k t dt inputs ∷ h) q (x ∷ log))) (from_of (latest s m h q log)) ≡ false) here
      (subst (λ v. is_below (from_of (latest s v.resource (Evaluate k t dt inputs ∷ h) v (x ∷ log))) (from_of (latest s v.resource h v log)) ≡ false) same
      (own-not_below s k t dt inputs h x log is next))

-- no take from a producer is above this
abbrev pub TakesReach : TaskRef → Option (ℕ × ℕ) → List Take → Type 0
TakesReach q bound ts = AllByRecursion (λ (u : Take). u.producer ≡ q → is_below bound u.from ≡ false) ts

-- no take of an entry of this resource and incarnation is above this
abbrev pub AllReach : ℕ → ℕ → TaskRef → Option (ℕ × ℕ) → List Evaluated → Type 0
AllReach n i q bound log = AllByRecursion (λ (y : Evaluated). y.name.task.resource ≡ n → y.name.incarnation ≡ i → TakesReach q bound y.takes) log

TakesReach-higher : (q : TaskRef) (a b : Option (ℕ × ℕ)) (ts : List Take) → is_below a b ≡ false → TakesReach q b ts → TakesReach q a ts
TakesReach-higher q a b [] h all = tt
TakesReach-higher q a b (t ∷ ts) h all = (λ e. is_below-trans a b t.from h (all.0 e), TakesReach-higher q a b ts h all.1)

AllReach-higher : (n i : ℕ) (q : TaskRef) (a b : Option (ℕ × ℕ)) (log : List Evaluated) → is_below a b ≡ false → AllReach n i q b log → AllReach n i q a log
AllReach-higher n i q a b [] h all = tt
AllReach-higher n i q a b (y ∷ ys) h all = (λ e f. TakesReach-higher q a b y.takes h (all.0 e f), AllReach-higher n i q a b ys h all.1)

-- what holds of the take of the last evaluation of each producer holds of all takes
pub takes-each : (P : Take → Type 0) (last : TaskRef → Option Evaluated) → ((q : TaskRef) (kinds : List Kind) → P (take_of q kinds (last q))) → (code : CodeValue) → AllByRecursion P (takes_of last code)
takes-each P last each code = by code.producers code.expected where
  by : (ps : List TaskRef) (es : List (List Kind)) → AllByRecursion P (map (λ e. take_of e.0 e.1 (last e.0)) (zip ps es))
  by [] es = tt
  by (p ∷ ps) [] = tt
  by (p ∷ ps) (kinds ∷ es) = (each p kinds, by ps es)

new-reach : (s : Setting) (n : ℕ) (h : List Event) (log : List Evaluated) (q : TaskRef) (bound : Option (ℕ × ℕ)) → is_below bound (from_of (latest s n h q log)) ≡ false → (p : TaskRef) (kinds : List Kind)
    → (take_of p kinds (latest s n h p log)).producer ≡ q → is_below bound (take_of p kinds (latest s n h p log)).from ≡ false
new-reach s n h log q bound high p kinds e = rw e high

-- no take of the present incarnation of a resource is above the latest there
pub takes-reach : (s : Setting) (n : ℕ) (q : TaskRef) (h : List Event) (log : List Evaluated) → AllLawful s h → IsLog s h log → AllReach n (incarnation_of s n h) q (from_of (latest s n h q log)) log
takes-reach s n q [] [] all is = tt
takes-reach s n q [] (x ∷ older) all is = absurd is
takes-reach s n q (Deliver k m ∷ h) log all is =
    AllReach-higher n (incarnation_of s n h) q _ (from_of (latest s n h q log)) log (deliver-not_below s n k m q h log is) (takes-reach s n q h log all.1 is)
takes-reach s n q (Hear m o i ∷ h) log all is = takes-reach s n q h log all.1 is
takes-reach s n q (Restart m ∷ h) log all is = by (takes-reach s n q h log all.1 is) (eqb m n) refl where
  by : AllReach n (incarnation_of s n h) q (from_of (latest s n h q log)) log → (b : Bool) → eqb m n ≡ b
      → AllReach n (incarnation_of s n (Restart m ∷ h)) q (from_of (latest s n (Restart m ∷ h) q log)) log
  by ih true e =
      Each-from _ log
      (λ y among here at.
      let known : y.name.incarnation ≤ incarnation_of s n h = subst (λ r. y.name.incarnation ≤ incarnation_of s r h) here (incarnation-low s h log is y among) in
      let above : incarnation_of s n (Restart m ∷ h) ≡ incarnation_of s n h + 1 = subst (λ r. incarnation_of s n (Restart r ∷ h) ≡ incarnation_of s n h + 1) (sym (eqb-true m n e)) (incarnation-restart s n h) in
      absurd (omega (arith, at, known, above)))
  by ih false e =
      let at : incarnation_of s n h ≡ incarnation_of s n (Restart m ∷ h) = rw e in
      subst (λ i. AllReach n i q (from_of (latest s n (Restart m ∷ h) q log)) log) at
      (subst (λ o. AllReach n (incarnation_of s n h) q (from_of o) log) (sym (latest-other_restart s n m h q log e)) ih)
takes-reach s n q (Evaluate k t dt inputs ∷ h) [] all is = absurd is
takes-reach s n q (Evaluate k t dt inputs ∷ h) (x ∷ older) all is =
    let bound : Option (ℕ × ℕ) = from_of (latest s n (Evaluate k t dt inputs ∷ h) q (x ∷ older)) in
    let high : is_below bound (from_of (latest s n h q older)) ≡ false = evaluate-not_below s n k t dt inputs q h x older all.1 is.0 is.1 in
    (newest bound high, AllReach-higher n (incarnation_of s n h) q _ (from_of (latest s n h q older)) older high (takes-reach s n q h older all.1 is.0)) where
      newest : (bound : Option (ℕ × ℕ)) → is_below bound (from_of (latest s n h q older)) ≡ false → x.name.task.resource ≡ n → x.name.incarnation ≡ incarnation_of s n h → TakesReach q bound x.takes
      newest bound high here at =
          let there : t.resource ≡ n = sym (ap (λ m. m.task.resource) (named s h older k t dt inputs x is.1)) ∙ here in
          subst (TakesReach q bound) (sym (taken s h older k t dt inputs x is.1))
          (takes-each (λ (u : Take). u.producer ≡ q → is_below bound u.from ≡ false) (λ p. latest s t.resource h p older)
          (subst (λ m. (p : TaskRef) (kinds : List Kind) → (take_of p kinds (latest s m h p older)).producer ≡ q → is_below bound (take_of p kinds (latest s m h p older)).from ≡ false) (sym there) (new-reach s n h older q bound high))
          is.1.code)
