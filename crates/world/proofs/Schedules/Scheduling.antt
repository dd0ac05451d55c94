-- The events of a schedule make its entries again: how they lead from entry to entry.
use Rattle.std.proofs.Common.{◌≡◌, inl, inr, ℕ, zero, suc, ◌+◌, ◌<◌, ◌≤◌, Bool, true, false, cond, ◌&&◌, List, [], ◌∷◌, length, replicate, Option, Some, None, refl, ap, sym, ◌∙◌, subst, arith, eqb}
use Rattle.std.specs.Prelude.{MatchOption}
use Rattle.std.specs.Option.{option_and_then}
use Rattle.std.specs.List.{list_any, find, flat_map}
use Rattle.std.proofs.lemmas.Bool.{eq-eqb, ne_eqb, eqb-true, eqb-false, false≢true, and_parts, lt-ltb, le-leb}
use Rattle.task_codes.specs.declared.task_ref.TaskRef.{TaskRef}
use Rattle.evaluation.specs.declared.name.Name.{Name}
use Rattle.evaluation.specs.declared.take.Take.{Take}
use Rattle.evaluation.specs.Names.{precedes}
use Rattle.evaluation.specs.Meaning.{Evaluated}
use Rattle.evaluation.specs.Last.{same_task, from_of}
use Rattle.world.specs.declared.event.Event.{Event}
use Rattle.world.specs.declared.event.Event.TheVariants.{Deliver, Restart, Hear}
use Rattle.evaluation.specs.Heard.{is_addressed}
use Rattle.world.specs.History.{Setting, made_count, is_lawful, after_events, incarnation_of}
use Rattle.world.specs.Run.{IsLog, latest, message}
use Rattle.world.specs.Laws.{greater, held_with}
use Rattle.std.specs.List.{AllByRecursion}
use Rattle.lists.specs.Among.{Among}
use Rattle.book.specs.Fits.{name_from, is_below, IsKnown, IsAddressed, IsMeantFor}
use Rattle.world.specs.Schedule.{is_from, message_of, taken_in, has_taken_from, last_taken, delivery_from, delivery}
use Rattle.world.specs.Steps.Histories.Tasks.{same_task-true, same_task-itself}
use Rattle.world.specs.Steps.Histories.Names.{AllLawful, after_append, length-log, log-rises}
use Rattle.world.specs.Steps.Histories.Heard.{heard_of}
use Rattle.lists.proofs.Each.{Each-at}
use Rattle.world.proofs.Consistency.Places.{message-among}
use Rattle.world.specs.Steps.Histories.Steps.{is_for, latest-deliver, latest-other_deliver, latest-restart, latest-other_restart, incarnation-restart}
use Rattle.world.proofs.Consistency.NotBack.{AllReach, TakesReach, takes-reach, is_below-itself, is_below-trans, deliver-not_below}

-- a lawful event happens
pub after-lawful : (s : Setting) (h : List Event) (e : Event) (es : List Event) → is_lawful s h e ≡ true → after_events s h (e ∷ es) ≡ after_events s (e ∷ h) es
after-lawful s h e es lawful = ap (λ b. after_events s (cond b (e ∷ h) h) es) lawful

-- what was taken, where the test passes
is_from-true : (o : Option (ℕ × ℕ)) (f : ℕ × ℕ) → is_from o f ≡ true → o ≡ Some f
is_from-true None f e = absurd (false≢true e)
is_from-true (Some g) f e =
    let parts = and_parts (eqb g.0 f.0) (eqb g.1 f.1) e in
    rw (eqb-true g.0 f.0 parts.0, eqb-true g.1 f.1 parts.1) refl

-- a name is that of a task's evaluation of this incarnation and number
abbrev is_named : Name → TaskRef → ℕ × ℕ → Bool
is_named name q f = same_task name.task q && is_from (Some (name.incarnation, name.number)) f

pub named-true : (name : Name) (q : TaskRef) (f : ℕ × ℕ) → is_named name q f ≡ true → name ≡ name_from q f
named-true name q f e =
    let parts = and_parts (same_task name.task q) (is_from (Some (name.incarnation, name.number)) f) e in
    let pair = and_parts (eqb name.incarnation f.0) (eqb name.number f.1) parts.1 in
    ap (λ p. name_from p (name.incarnation, name.number)) (same_task-true name.task q parts.0)
    ∙ ap (λ i. name_from q (i, name.number)) (eqb-true name.incarnation f.0 pair.0)
    ∙ ap (λ n. name_from q (f.0, n)) (eqb-true name.number f.1 pair.1)

pub named-itself : (q : TaskRef) (f : ℕ × ℕ) → is_named (name_from q f) q f ≡ true
named-itself q f = rw (same_task-itself q, eq-eqb f.0 f.0 refl, eq-eqb f.1 f.1 refl) refl

-- among these entries, one of resource n in incarnation i took this of producer q
pub record Took (seen : List Evaluated) (n i : ℕ) (q : TaskRef) (f : Option (ℕ × ℕ)) : Type 0 where
  pub entry : Evaluated
  pub among : Among entry seen
  pub here : entry.name.task.resource ≡ n
  pub at : entry.name.incarnation ≡ i
  pub take : Take
  pub in_takes : Among take entry.takes
  pub of : take.producer ≡ q
  pub from : take.from ≡ f

abbrev pub IsTaken : List Evaluated → ℕ → ℕ → TaskRef → Option Evaluated → Type 0
IsTaken seen n i q None = Unit {0}
IsTaken seen n i q (Some z) = Took seen n i q (Some (z.name.incarnation, z.name.number))

-- The invariant of a schedule. The events so far were lawful and made this log, and what a resource has as the latest of another one's task was taken there in this incarnation, by one of the entries seen.
pub record Held (s : Setting) (h : List Event) (log seen : List Evaluated) : Type 0 where
  pub lawful : AllLawful s h
  pub logged : IsLog s h log
  pub reached : (n : ℕ) (q : TaskRef) → (q.resource ≡ n → ⊥) → IsTaken seen n (incarnation_of s n h) q (latest s n h q log)

Took-wider : (x : Evaluated) (seen : List Evaluated) (n i : ℕ) (q : TaskRef) (f : Option (ℕ × ℕ)) → Took seen n i q f → Took (x ∷ seen) n i q f
Took-wider x seen n i q f took = record { entry = took.entry; among = inr took.among; here = took.here; at = took.at; take = took.take; in_takes = took.in_takes; of = took.of; from = took.from }

IsTaken-wider : (x : Evaluated) (seen : List Evaluated) (n i : ℕ) (q : TaskRef) (o : Option Evaluated) → IsTaken seen n i q o → IsTaken (x ∷ seen) n i q o
IsTaken-wider x seen n i q None taken = tt
IsTaken-wider x seen n i q (Some z) taken = Took-wider x seen n i q _ taken

pub held-wider : (s : Setting) (h : List Event) (log seen : List Evaluated) (x : Evaluated) → Held s h log seen → Held s h log (x ∷ seen)
held-wider s h log seen x held = record { lawful = held.lawful; logged = held.logged; reached = λ n q away. IsTaken-wider x seen n (incarnation_of s n h) q (latest s n h q log) (held.reached n q away) }

-- a Restart keeps it
pub other_incarnation : (s : Setting) (n m : ℕ) (h : List Event) → eqb n m ≡ false → incarnation_of s m (Restart n ∷ h) ≡ incarnation_of s m h
other_incarnation s n m h e = rw e refl

pub held-restart : (s : Setting) (h : List Event) (log seen : List Evaluated) (n : ℕ) → Held s h log seen → is_lawful s h (Restart n) ≡ true → Held s (Restart n ∷ h) log seen
held-restart s h log seen n held lawful =
    record { lawful = (lawful, held.lawful); logged = held.logged; reached = λ m q away. by m q away (eqb n m) refl } where
      by : (m : ℕ) (q : TaskRef) → (q.resource ≡ m → ⊥) → (b : Bool) → eqb n m ≡ b → IsTaken seen m (incarnation_of s m (Restart n ∷ h)) q (latest s m (Restart n ∷ h) q log)
      by m q away true e =
          let none : latest s n (Restart n ∷ h) q log ≡ None = latest-restart s n h q log held.lawful held.logged in
          subst (λ r. IsTaken seen r (incarnation_of s r (Restart n ∷ h)) q (latest s r (Restart n ∷ h) q log)) (eqb-true n m e)
          (subst (IsTaken seen n (incarnation_of s n (Restart n ∷ h)) q) (sym none) tt)
      by m q away false e =
          subst (IsTaken seen m (incarnation_of s m (Restart n ∷ h)) q) (sym (latest-other_restart s m n h q log e))
          (subst (λ i. IsTaken seen m i q (latest s m h q log)) (sym (other_incarnation s n m h e)) (held.reached m q away))

pub record Restarted (s : Setting) (h : List Event) (log seen : List Evaluated) (n c : ℕ) (g : List Event) : Type 0 where
  pub held : Held s g log seen
  pub here : incarnation_of s n g ≡ incarnation_of s n h + c
  pub others : (m : ℕ) → eqb n m ≡ false → incarnation_of s m g ≡ incarnation_of s m h

pub restart-all : (s : Setting) (log seen : List Evaluated) (n c : ℕ) (h : List Event) → Held s h log seen → n < length s.plant.resources → incarnation_of s n h + c ≤ 4294967295
    → Restarted s h log seen n c (after_events s h (replicate c (Restart n)))
restart-all s log seen n zero h held inside low = record { held = held; here = omega arith; others = λ m e. refl }
restart-all s log seen n (suc c) h held inside low =
    subst (Restarted s h log seen n (suc c)) (sym (after-lawful s h (Restart n) (replicate c (Restart n)) lawful))
    (whole (restart-all s log seen n c (Restart n ∷ h) (held-restart s h log seen n held lawful) inside (omega (arith, incarnation-restart s n h)))) where
      lawful : is_lawful s h (Restart n) ≡ true
      lawful = rw (lt-ltb n (length s.plant.resources) inside, lt-ltb (incarnation_of s n h) 4294967295 (omega arith))

      whole : Restarted s (Restart n ∷ h) log seen n c (after_events s (Restart n ∷ h) (replicate c (Restart n))) → Restarted s h log seen n (suc c) (after_events s (Restart n ∷ h) (replicate c (Restart n)))
      whole r = record { held = r.held; here = omega (arith, r.here, incarnation-restart s n h); others = λ m e. r.others m e ∙ other_incarnation s n m h e }

-- a Hear keeps it
pub held-hear : (s : Setting) (h : List Event) (log seen : List Evaluated) (n o i : ℕ) → Held s h log seen → is_lawful s h (Hear n o i) ≡ true → Held s (Hear n o i ∷ h) log seen
held-hear s h log seen n o i held lawful = record { lawful = (lawful, held.lawful); logged = held.logged; reached = held.reached }

-- a Deliver keeps it, of a message that an entry seen took there
taken-with : (seen : List Evaluated) (n i : ℕ) (q : TaskRef) (counts : Evaluated → Bool) (y : Evaluated) (o : Option Evaluated) → Took seen n i y.name.task (Some (y.name.incarnation, y.name.number)) → IsTaken seen n i q o → IsTaken seen n i q (held_with q counts o (Some y))
taken-with seen n i q counts y o took taken = by (same_task y.name.task q) refl (counts y) where
  newest : same_task y.name.task q ≡ true → Took seen n i q (Some (y.name.incarnation, y.name.number))
  newest e = subst (λ p. Took seen n i p (Some (y.name.incarnation, y.name.number))) (same_task-true y.name.task q e) took

  greatest : (o : Option Evaluated) → IsTaken seen n i q o → same_task y.name.task q ≡ true → IsTaken seen n i q (greater o y)
  greatest None t e = newest e
  greatest (Some z) t e = choice (precedes z.name y.name) where
    choice : (b : Bool) → IsTaken seen n i q (cond b (Some y) (Some z))
    choice true = newest e
    choice false = t

  by : (b : Bool) → same_task y.name.task q ≡ b → (c : Bool) → IsTaken seen n i q (cond (b && c) (greater o y) o)
  by true e true = greatest o taken e
  by true e false = taken
  by false e c = taken

held-deliver : (s : Setting) (h : List Event) (log seen : List Evaluated) (n k : ℕ) (y : Evaluated) → Held s h log seen → is_lawful s h (Deliver k n) ≡ true → message log k ≡ Some y
    → Took seen n (incarnation_of s n h) y.name.task (Some (y.name.incarnation, y.name.number)) → Held s (Deliver k n ∷ h) log seen
held-deliver s h log seen n k y held lawful came took =
    record { lawful = (lawful, held.lawful); logged = held.logged; reached = λ m q away. by m q away (eqb n m) refl } where
      by : (m : ℕ) (q : TaskRef) → (q.resource ≡ m → ⊥) → (b : Bool) → eqb n m ≡ b → IsTaken seen m (incarnation_of s m h) q (latest s m (Deliver k n ∷ h) q log)
      by m q away true e =
          let same : n ≡ m = eqb-true n m e in
          let apart : eqb q.resource n ≡ false = ne_eqb q.resource n (λ f. away (f ∙ same)) in
          subst (λ r. IsTaken seen r (incarnation_of s r h) q (latest s r (Deliver k n ∷ h) q log)) same
          (subst (IsTaken seen n (incarnation_of s n h) q) (sym (latest-deliver s n k h q log apart (log-rises s q h log held.logged) ∙ ap (held_with q (is_for s n h) (latest s n h q log)) came))
          (taken-with seen n (incarnation_of s n h) q (is_for s n h) y (latest s n h q log) took (held.reached n q (λ f. away (f ∙ same)))))
      by m q away false e =
          subst (IsTaken seen m (incarnation_of s m h) q) (sym (latest-other_deliver s m k n h q log e)) (held.reached m q away)

-- the place of a name that an entry has
pub record Placed (log : List Evaluated) (name : Name) (k : ℕ) : Type 0 where
  pub entry : Evaluated
  pub came : message log k ≡ Some entry
  pub named : entry.name ≡ name
  pub low : 1 ≤ k
  pub high : k ≤ length log

placed-later : (x : Evaluated) (log : List Evaluated) (name : Name) (k : ℕ) → Placed log name k → Placed (x ∷ log) name k
placed-later x log name k p =
    record { entry = p.entry; came = (rw (ne_eqb k (suc (length log)) (λ e. let high : k ≤ length log = p.high in omega arith)) p.came); named = p.named; low = p.low; high = let high : k ≤ length log = p.high in omega arith }

pub place : (log : List Evaluated) (q : TaskRef) (f : ℕ × ℕ) (y : Evaluated) → Among y log → y.name ≡ name_from q f → Placed log (name_from q f) (message_of log q f)
place [] q f y among e = elim among [ ]
place (x ∷ log) q f y among e = by (is_named x.name q f) refl among (place log q f y) where
  by : (b : Bool) → is_named x.name q f ≡ b → Among y (x ∷ log)
      → (Among y log → y.name ≡ name_from q f → Placed log (name_from q f) (message_of log q f)) → Placed (x ∷ log) (name_from q f) (cond b (suc (length log)) (message_of log q f))
  by true g a ih = record { entry = x; came = (rw (eq-eqb (suc (length log)) (suc (length log)) refl) refl); named = named-true x.name q f g; low = omega arith; high = omega arith }
  by false g (inl same) ih = absurd (false≢true (sym g ∙ ap (λ m. is_named m q f) (ap (λ z. z.name) same ∙ e) ∙ named-itself q f))
  by false g (inr a) ih = placed-later x log (name_from q f) (message_of log q f) (ih a e)

-- what was taken last is not above the latest
taken-reach : (q : TaskRef) (bound f : Option (ℕ × ℕ)) (us : List Take) → TakesReach q bound us → taken_in q us ≡ f → is_below bound f ≡ false
taken-reach q bound f [] all e = subst (λ o. is_below bound o ≡ false) e refl
taken-reach q bound f (u ∷ us) all e = by (same_task u.producer q) refl e (taken-reach q bound f us all.1) where
  by : (b : Bool) → same_task u.producer q ≡ b → option_and_then (λ (u : Take). u.from) (cond b (Some u) (find (λ (u : Take). same_task u.producer q) us)) ≡ f → (taken_in q us ≡ f → is_below bound f ≡ false) → is_below bound f ≡ false
  by true g e ih = subst (λ o. is_below bound o ≡ false) e (all.0 (same_task-true u.producer q g))
  by false g e ih = ih e

last-reach : (name : Name) (q : TaskRef) (bound f : Option (ℕ × ℕ)) (log : List Evaluated) → AllReach name.task.resource name.incarnation q bound log → last_taken log name q ≡ f → is_below bound f ≡ false
last-reach name q bound f [] all e = subst (λ o. is_below bound o ≡ false) e refl
last-reach name q bound f (y ∷ ys) all e = by (has_taken_from name q y) refl e (last-reach name q bound f ys all.1) where
  by : (b : Bool) → has_taken_from name q y ≡ b → option_and_then (λ (y : Evaluated). taken_in q y.takes) (cond b (Some y) (find (has_taken_from name q) ys)) ≡ f → (last_taken ys name q ≡ f → is_below bound f ≡ false) → is_below bound f ≡ false
  by true g e ih =
      let outer = and_parts (eqb y.name.task.resource name.task.resource) ((eqb y.name.incarnation name.incarnation) && list_any (λ (u : Take). same_task u.producer q) y.takes) g in
      let inner = and_parts (eqb y.name.incarnation name.incarnation) (list_any (λ (u : Take). same_task u.producer q) y.takes) outer.1 in
      taken-reach q bound f y.takes (all.0 (eqb-true y.name.task.resource name.task.resource outer.0) (eqb-true y.name.incarnation name.incarnation inner.0)) e
  by false g e ih = ih e

greater-reaches : (q : TaskRef) (o : Option Evaluated) (y : Evaluated) → is_below (from_of (greater o y)) (from_of (Some y)) ≡ false
greater-reaches q None y = is_below-itself (from_of (Some y))
greater-reaches q (Some z) y = by (precedes z.name y.name) refl where
  by : (b : Bool) → precedes z.name y.name ≡ b → is_below (from_of (cond b (Some y) (Some z))) (from_of (Some y)) ≡ false
  by true e = is_below-itself (from_of (Some y))
  by false e = e

-- these takes are reached: the latest at the resource isn't below any of them
abbrev pub AllUp : Setting → ℕ → List Event → List Evaluated → List Take → Type 0
AllUp s n g log ts = AllByRecursion (λ (t : Take). (t.producer.resource ≡ n → ⊥) → is_below (from_of (latest s n g t.producer log)) t.from ≡ false) ts

pub record Delivered (s : Setting) (h : List Event) (log seen : List Evaluated) (n : ℕ) (ts : List Take) (g : List Event) : Type 0 where
  pub held : Held s g log seen
  pub incarnations : (m : ℕ) → incarnation_of s m g ≡ incarnation_of s m h
  pub hearings : (r m : ℕ) → heard_of s r m g ≡ heard_of s r m h
  pub up : AllUp s n g log ts
  pub above : (q : TaskRef) → is_below (from_of (latest s n g q log)) (from_of (latest s n h q log)) ≡ false

unmoved : (s : Setting) (h : List Event) (log seen : List Evaluated) (n : ℕ) (t : Take) → Held s h log seen → ((t.producer.resource ≡ n → ⊥) → is_below (from_of (latest s n h t.producer log)) t.from ≡ false)
    → Delivered s h log seen n (t ∷ []) h
unmoved s h log seen n t held up = record { held = held; incarnations = λ m. refl; hearings = λ r m. refl; up = (up, tt); above = λ q. is_below-itself (from_of (latest s n h q log)) }

module _ (s : Setting) (log seen : List Evaluated) (name : Name) (inside : name.task.resource < length s.plant.resources) where
  abbrev pub taker : ℕ
  taker = name.task.resource

  -- a Deliver of the entry that a take names
  deliver-named : (h : List Event) → Held s h log seen → incarnation_of s taker h ≡ name.incarnation → (t : Take) (f : ℕ × ℕ) → t.from ≡ Some f → (t.producer.resource ≡ taker → ⊥) → Took seen taker name.incarnation t.producer (Some f)
      → (k : ℕ) → Placed log (name_from t.producer f) k → AllByRecursion (IsMeantFor (name_from t.producer f) name) log → Delivered s h log seen taker (t ∷ []) (after_events s h (Deliver k taker ∷ []))
  deliver-named h held at t f from away took k p meant =
      subst (Delivered s h log seen taker (t ∷ [])) (sym (after-lawful s h (Deliver k taker) [] lawful))
      (record { held = held-deliver s h log seen taker k p.entry held lawful p.came took_here; incarnations = λ m. refl; hearings = λ r m. refl; up = ((λ _. reaches), tt); above = λ q. deliver-not_below s taker k taker q h log held.logged }) where
        q : TaskRef
        q = t.producer

        lawful : is_lawful s h (Deliver k taker) ≡ true
        lawful =
            let made : length log ≡ made_count h = length-log s h log held.logged in
            let high : k ≤ length log = p.high in
            rw (lt-ltb taker (length s.plant.resources) inside, le-leb 1 k p.low, le-leb k (made_count h) (omega arith))

        took_here : Took seen taker (incarnation_of s taker h) p.entry.name.task (Some (p.entry.name.incarnation, p.entry.name.number))
        took_here =
            subst (λ m. Took seen taker (incarnation_of s taker h) m.task (Some (m.incarnation, m.number))) (sym p.named)
            (subst (λ i. Took seen taker i q (Some f)) (sym at) took)

        reaches : is_below (from_of (latest s taker (Deliver k taker ∷ h) q log)) t.from ≡ false
        reaches =
            subst (λ o. is_below (from_of (latest s taker (Deliver k taker ∷ h) q log)) o ≡ false) (ap (λ m. Some (m.incarnation, m.number)) p.named ∙ sym from)
            (subst (λ o. is_below (from_of o) (from_of (Some p.entry)) ≡ false)
            (sym (latest-deliver s taker k h q log (ne_eqb q.resource taker away) (log-rises s q h log held.logged) ∙ ap (held_with q (is_for s taker h) (latest s taker h q log)) p.came ∙ whole))
            (greater-reaches q (latest s taker h q log) p.entry)) where
              counts : is_for s taker h p.entry ≡ true
              counts = subst (λ i. is_addressed p.entry taker i ≡ true) (sym at) (Each-at (IsMeantFor (name_from t.producer f) name) log p.entry meant (message-among log k p.entry p.came) p.named)

              whole : held_with q (is_for s taker h) (latest s taker h q log) (Some p.entry) ≡ greater (latest s taker h q log) p.entry
              whole =
                  ap (λ b. cond (b && is_for s taker h p.entry) (greater (latest s taker h q log) p.entry) (latest s taker h q log)) (ap (λ m. same_task m.task q) p.named ∙ same_task-itself q)
                  ∙ ap (λ b. cond b (greater (latest s taker h q log) p.entry) (latest s taker h q log)) counts

  -- the delivery of one take
  pub deliver-one : (h : List Event) → Held s h log seen → incarnation_of s taker h ≡ name.incarnation → (t : Take) → IsKnown log t → IsAddressed log name t → ((f : ℕ × ℕ) → t.from ≡ Some f → Took seen taker name.incarnation t.producer (Some f))
      → Delivered s h log seen taker (t ∷ []) (after_events s h (delivery log name t))
  deliver-one h held at t known addressed took = by (eqb t.producer.resource taker) refl where
    q : TaskRef
    q = t.producer

    given : (f : ℕ × ℕ) → t.from ≡ Some f → (y : Evaluated) × Among y log × (y.name ≡ name_from t.producer f)
    given f e = subst (λ o. MatchOption o (Unit {0}) (λ f. (y : Evaluated) × Among y log × (y.name ≡ name_from t.producer f))) e known

    bound : Option (ℕ × ℕ)
    bound = from_of (latest s taker h q log)

    taken : (f : ℕ × ℕ) → t.from ≡ Some f → (q.resource ≡ taker → ⊥) → (w : Bool) → is_from (last_taken log name q) f ≡ w → Delivered s h log seen taker (t ∷ []) (after_events s h (cond w [] (Deliver (message_of log q f) taker ∷ [])))
    taken f e away true w =
        unmoved s h log seen taker t held
        (λ _. subst (λ o. is_below bound o ≡ false) (sym e) (last-reach name q bound (Some f) log (subst (λ i. AllReach taker i q bound log) at (takes-reach s taker q h log held.lawful held.logged)) (is_from-true (last_taken log name q) f w)))
    taken f e away false w = deliver-named h held at t f e away (took f e) (message_of log q f) (place log q f (given f e).0 (given f e).1 (given f e).2)
        (subst (λ o. MatchOption o (Unit {0}) (λ f. AllByRecursion (IsMeantFor (name_from t.producer f) name) log)) e (addressed away))

    named : (o : Option (ℕ × ℕ)) → t.from ≡ o → (q.resource ≡ taker → ⊥) → Delivered s h log seen taker (t ∷ []) (after_events s h (delivery_from log name q o))
    named None e away = unmoved s h log seen taker t held (λ _. subst (λ o. is_below bound o ≡ false) (sym e) refl)
    named (Some f) e away = taken f e away (is_from (last_taken log name q) f) refl

    by : (own : Bool) → eqb q.resource taker ≡ own → Delivered s h log seen taker (t ∷ []) (after_events s h (cond own [] (delivery_from log name q t.from)))
    by true e = unmoved s h log seen taker t held (λ away. absurd (away (eqb-true q.resource taker e)))
    by false e = named t.from refl (eqb-false q.resource taker e)

  joined : (h g1 g : List Event) (t : Take) (ts : List Take) → Delivered s h log seen taker (t ∷ []) g1 → Delivered s g1 log seen taker ts g → Delivered s h log seen taker (t ∷ ts) g
  joined h g1 g t ts a b =
      record {
        held = b.held;
        incarnations = λ m. b.incarnations m ∙ a.incarnations m;
        hearings = λ r m. b.hearings r m ∙ a.hearings r m;
        up = ((λ away. is_below-trans (from_of (latest s taker g t.producer log)) (from_of (latest s taker g1 t.producer log)) t.from (b.above t.producer) (a.up.0 away)), b.up);
        above = λ q. is_below-trans (from_of (latest s taker g q log)) (from_of (latest s taker g1 q log)) (from_of (latest s taker h q log)) (b.above q) (a.above q);
      }

  -- the deliveries of some takes
  pub deliver-all : (ts : List Take) (h : List Event) → Held s h log seen → incarnation_of s taker h ≡ name.incarnation → AllByRecursion (IsKnown log) ts → AllByRecursion (IsAddressed log name) ts
      → ((t : Take) → Among t ts → (f : ℕ × ℕ) → t.from ≡ Some f → Took seen taker name.incarnation t.producer (Some f)) → Delivered s h log seen taker ts (after_events s h (flat_map (delivery log name) ts))
  deliver-all [] h held at known addressed took = record { held = held; incarnations = λ m. refl; hearings = λ r m. refl; up = tt; above = λ q. is_below-itself (from_of (latest s taker h q log)) }
  deliver-all (t ∷ ts) h held at known addressed took =
      let g1 : List Event = after_events s h (delivery log name t) in
      let one : Delivered s h log seen taker (t ∷ []) g1 = deliver-one h held at t known.0 addressed.0 (took t (inl refl)) in
      let rest : Delivered s g1 log seen taker ts (after_events s g1 (flat_map (delivery log name) ts)) = deliver-all ts g1 one.held (one.incarnations taker ∙ at) known.1 addressed.1 (λ u among. took u (inr among)) in
      subst (Delivered s h log seen taker (t ∷ ts)) (sym (after_append s h (delivery log name t) (flat_map (delivery log name) ts))) (joined h g1 _ t ts one rest)
