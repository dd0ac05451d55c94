-- The events of a schedule make its entries again: each entry is the next evaluation, and so the run is the entries.
use Rattle.std.proofs.Common.{◌≡◌, ◌⊎◌, inl, inr, ℕ, ◌+◌, ◌-◌, ◌<◌, ◌≤◌, Bool, true, false, cond, ◌&&◌, ◌||◌, List, [], ◌∷◌, ◌++◌, map, length, Option, Some, None, refl, ap, sym, ◌∙◌, subst, arith, eqb, ltb}
use Rattle.std.specs.Prelude.{MatchOption, ◌≢◌, slice_get, slice_index, reverse}
use Rattle.std.specs.List.{find, flat_map, zip}
use Rattle.std.proofs.lemmas.Bool.{ne_eqb, eq-eqb, eqb-true, eqb-false, false≢true, lt-ltb, cases_eq}
use Rattle.std.proofs.lemmas.Option.{same_Some, slice_get_within}
use Rattle.std.specs.Option.{option_map}
use Rattle.std.proofs.lemmas.Bool.Decides.{nat_tests}
use Rattle.declared_names.specs.declared.declarations.Kind.{Kind}
use Rattle.power_flow.specs.StateValue.{StateValue}
use Rattle.task_codes.specs.declared.task_ref.TaskRef.{TaskRef}
use Rattle.plant.specs.PlantValue.{IsSoundPlant}
use Rattle.task_codes.specs.CodeValue.{CodeValue}
use Rattle.evaluation.specs.declared.field_input.FieldInput.{FieldInput}
use Rattle.evaluation.specs.declared.name.Name.{Name}
use Rattle.evaluation.specs.declared.take.Take.{Take}
use Rattle.evaluation.specs.Takes.{initial_image, AreTakesOf}
use Rattle.evaluation.specs.Meaning.{Evaluated, evaluated}
use Rattle.evaluation.specs.Last.{same_task, from_of, last_number, take_of, takes_of}
use Rattle.world.specs.declared.event.Event.{Event}
use Rattle.world.specs.declared.event.Event.TheVariants.{Evaluate}
use Rattle.world.specs.History.{Setting, is_lawful, after_events, history_of, incarnation_of, number_of, hearings_of, heard_by}
use Rattle.world.specs.Run.{IsNextEvaluation, next_name, latest, state_before, has_reached}
use Rattle.std.specs.List.{AllByRecursion}
use Rattle.lists.specs.Among.{Among}
use Rattle.book.specs.Fits.{last_in, told_of, present_in, name_from, is_below, IsUntorn, IsNotBack, IsOwnLatest, Fits, AllFit}
use Rattle.world.specs.Replays.{CouldBeMade, AllCouldBeMade, Replays}
use Rattle.world.specs.Schedule.{known_from, restarts, hearings, delivery, events_of, schedule_of}
use Rattle.world.specs.Steps.Histories.Names.{after_append, length-log}
use Rattle.world.specs.Steps.Histories.Heard.{heard_of, heard-get, index-none, none-far}
use Rattle.lists.proofs.Places.{same_by_slice_get, index_at}
use Rattle.evaluation.specs.Heard.{greatest}
use Rattle.world.specs.Steps.Histories.Steps.{latest-other_evaluate, number-latest}
use Rattle.lists.proofs.Each.{Each-at}
use Rattle.world.proofs.Consistency.Fitting.{last_among-entry, own-latest}
use Rattle.world.proofs.Consistency.NotBack.{is_below-itself}
use Rattle.world.proofs.Consistency.AllFits.{taken_name}
use Rattle.world.proofs.Schedules.Suiting.{Suits, suits, single}
use Rattle.world.proofs.Schedules.Scheduling.{after-lawful, IsTaken, Held, held-wider, AllUp, Delivered, deliver-all}
use Rattle.world.proofs.Schedules.Hearing.{is_at, known_at, known-low, AreKnown, Begun, begin, Hearing, hear-all}

-- two takes neither of which is below the other are of one evaluation
same_pair : (a b : ℕ × ℕ) → is_below (Some a) (Some b) ≡ false → is_below (Some b) (Some a) ≡ false → (a.0 ≡ b.0) × (a.1 ≡ b.1)
same_pair a b h k = (same_first a.0 a.1 b.0 b.1 h k, same_second a.0 a.1 b.0 b.1 h k) where
  same_first : (i m j n : ℕ) → (ltb i j || ((eqb i j) && ltb m n)) ≡ false → (ltb j i || ((eqb j i) && ltb n m)) ≡ false → i ≡ j
  same_first i m j n h k = grind (arith, nat_tests)

  same_second : (i m j n : ℕ) → (ltb i j || ((eqb i j) && ltb m n)) ≡ false → (ltb j i || ((eqb j i) && ltb n m)) ≡ false → m ≡ n
  same_second i m j n h k = grind (arith, nat_tests)

below-same : (a b : Option (ℕ × ℕ)) → is_below a b ≡ false → is_below b a ≡ false → a ≡ b
below-same None None h k = refl
below-same None (Some b) h k = absurd (false≢true (sym h))
below-same (Some a) None h k = absurd (false≢true (sym k))
below-same (Some a) (Some b) h k = rw ((same_pair a b h k).0, (same_pair a b h k).1) refl

-- takes of one producer are of one evaluation
abbrev pub AreSingle : List Take → Type 0
AreSingle ts = (t u : Take) → Among t ts → Among u ts → t.producer ≡ u.producer → t ≡ u

-- x is scheduled after a log: its deliveries are done
module _ (s : Setting) (g : List Event) (log : List Evaluated) (x : Evaluated) (held : Held s g log (x ∷ log)) (at : incarnation_of s x.name.task.resource g ≡ x.name.incarnation) where
  -- a take from another resource is not below the latest there
  take-above : (t : Take) → Among t x.takes → (t.producer.resource ≡ x.name.task.resource → ⊥) → AreSingle x.takes
      → IsNotBack log x.name t → is_below t.from (from_of (latest s x.name.task.resource g t.producer log)) ≡ false
  take-above t among away one_each back = by (latest s x.name.task.resource g t.producer log) (held.reached x.name.task.resource t.producer away) where
    by : (o : Option Evaluated) → IsTaken (x ∷ log) x.name.task.resource (incarnation_of s x.name.task.resource g) t.producer o → is_below t.from (from_of o) ≡ false
    by None taken = refl
    by (Some z) took = subst (λ f. is_below t.from f ≡ false) took.from (one took.among) where
      one : (x ≡ took.entry) ⊎ Among took.entry log → is_below t.from took.take.from ≡ false
      one (inl same) =
          let is : took.take ≡ t = one_each took.take t (subst (λ y. Among took.take y.takes) (sym same) took.in_takes) among took.of in
          subst (λ f. is_below t.from f ≡ false) (sym (ap (λ u. u.from) is)) (is_below-itself t.from)
      one (inr earlier) =
          Each-at (λ u. u.producer ≡ t.producer → is_below t.from u.from ≡ false) took.entry.takes took.take
          (Each-at (λ y. y.name.task.resource ≡ x.name.task.resource → y.name.incarnation ≡ x.name.incarnation → AllByRecursion (λ (u : Take). u.producer ≡ t.producer → is_below t.from u.from ≡ false) y.takes) log took.entry (back away) earlier took.here (took.at ∙ at))
          took.in_takes took.of

  -- each take is of the latest
  take-latest : (t : Take) → Among t x.takes → Fits s.first log x → AreSingle x.takes → AllUp s x.name.task.resource g log x.takes
      → t.from ≡ from_of (latest s x.name.task.resource g t.producer log)
  take-latest t among fits one_each up = by (eqb t.producer.resource x.name.task.resource) refl where
    by : (own : Bool) → eqb t.producer.resource x.name.task.resource ≡ own → t.from ≡ from_of (latest s x.name.task.resource g t.producer log)
    by true e =
        let here : t.producer.resource ≡ x.name.task.resource = eqb-true t.producer.resource x.name.task.resource e in
        Each-at (IsOwnLatest log x.name) x.takes t fits.own_latest among here
        ∙ ap (λ i. from_of (last_in log t.producer i)) (sym at)
        ∙ ap from_of (sym (subst (λ r. latest s r g t.producer log ≡ last_in log t.producer (incarnation_of s r g)) here (own-latest s t.producer g log held.lawful held.logged)))
    by false e =
        let away : t.producer.resource ≡ x.name.task.resource → ⊥ = eqb-false t.producer.resource x.name.task.resource e in
        below-same t.from (from_of (latest s x.name.task.resource g t.producer log))
        (take-above t among away one_each (Each-at (IsNotBack log x.name) x.takes t fits.not_back among))
        (Each-at (λ t. (t.producer.resource ≡ x.name.task.resource → ⊥) → is_below (from_of (latest s x.name.task.resource g t.producer log)) t.from ≡ false) x.takes t up among away)

-- a take of the latest is the run's take
same_take : (t u : Take) → t.producer ≡ u.producer → t.from ≡ u.from → t.image ≡ u.image → t ≡ u
same_take t u p f i = rw (p, f, i) refl

take-same : (s : Setting) (n : ℕ) (g : List Event) (log : List Evaluated) (t : Take) (kinds : List Kind) → (t.from ≡ None → t.image ≡ initial_image kinds) → IsUntorn log t → t.from ≡ from_of (latest s n g t.producer log)
    → t ≡ take_of t.producer kinds (latest s n g t.producer log)
take-same s n g log t kinds initial untorn is = by (latest s n g t.producer log) (last_among-entry t.producer (has_reached s n g) log) is where
  by : (o : Option Evaluated) → MatchOption o (Unit {0}) (λ z. Among z log × (same_task z.name.task t.producer ≡ true)) → t.from ≡ from_of o → t ≡ take_of t.producer kinds o
  by None w e = same_take t (take_of t.producer kinds None) refl e (initial e)
  by (Some z) w e =
      same_take t (take_of t.producer kinds (Some z)) refl e
      (Each-at (λ y. y.name ≡ name_from t.producer (z.name.incarnation, z.name.number) → t.image ≡ y.outputs) log z
      (subst (λ o. MatchOption o (Unit {0}) (λ f. AllByRecursion (λ (y : Evaluated). y.name ≡ name_from t.producer f → t.image ≡ y.outputs) log)) e untorn)
      w.0 (taken_name t.producer z w.1))

takes-same : (s : Setting) (n : ℕ) (g : List Event) (log : List Evaluated) (ps : List TaskRef) (es : List (List Kind)) (ts : List Take) → Suits ps es ts
    → ((t : Take) → Among t ts → IsUntorn log t × (t.from ≡ from_of (latest s n g t.producer log))) → ts ≡ map (λ e. take_of e.0 e.1 (latest s n g e.0 log)) (zip ps es)
takes-same s n g log [] es [] fit each = refl
takes-same s n g log [] es (t ∷ ts) fit each = absurd fit
takes-same s n g log (p ∷ ps) [] ts fit each = absurd fit
takes-same s n g log (p ∷ ps) (kinds ∷ es) [] fit each = absurd fit
takes-same s n g log (p ∷ ps) (kinds ∷ es) (t ∷ ts) fit each =
    let here = each t (inl refl) in
    let first : t ≡ take_of p kinds (latest s n g p log) = subst (λ q. t ≡ take_of q kinds (latest s n g q log)) fit.0 (take-same s n g log t kinds fit.1 here.0 here.1) in
    let rest : ts ≡ map (λ e. take_of e.0 e.1 (latest s n g e.0 log)) (zip ps es) = takes-same s n g log ps es ts fit.2 (λ u among. each u (inr among)) in
    ap (λ u. u ∷ ts) first ∙ ap (λ us. take_of p kinds (latest s n g p log) ∷ us) rest

name-same : (a : Name) (i m : ℕ) → a.incarnation ≡ i → a.number ≡ m → a ≡ record { task = a.task; incarnation = i; number = m }
name-same a i m e f = rw (← e, ← f) refl

entry-same : (x : Evaluated) (name : Name) (heard : List ℕ) (takes : List Take) (before : List StateValue) (code : CodeValue) → x.name ≡ name → x.heard ≡ heard → x.takes ≡ takes → x.before ≡ before → x.code ≡ code
    → x ≡ evaluated x.ticket name heard x.dt x.inputs takes before code x.outputs x.after
entry-same x name heard takes before code n h t b c = rw (← n, ← h, ← t, ← b, ← c) refl

module _ (s : Setting) (g : List Event) (log : List Evaluated) (x : Evaluated) (sound : IsSoundPlant s.plant) (held : Held s g log (x ∷ log)) (at : incarnation_of s x.name.task.resource g ≡ x.name.incarnation) (fits : Fits s.first log x) where
  last-is : latest s x.name.task.resource g x.name.task log ≡ last_in log x.name.task x.name.incarnation
  last-is = own-latest s x.name.task g log held.lawful held.logged ∙ ap (last_in log x.name.task) at

  number-is : x.name.number ≡ number_of x.name.task g + 1
  number-is = fits.numbered.next ∙ ap (λ o. last_number o + 1) (sym last-is) ∙ ap (λ m. m + 1) (number-latest s x.name.task g log held.lawful held.logged)

  -- the takes suit the plant's code
  suited : (r : CouldBeMade s log x) → Suits r.code.producers r.code.expected x.takes
  suited r = suits s.plant r.code x.takes (sound.taken x.name.task r.code r.found) (subst (λ c. AreTakesOf c x.takes) r.same_code r.whole.takes_suit)

  -- the entry is the next evaluation
  makes : (r : CouldBeMade s log x) → x.heard ≡ heard_by s x.name.task.resource g → AllUp s x.name.task.resource g log x.takes → IsNextEvaluation s g log x.ticket x.name.task x.dt x.inputs x
  makes r told up =
      record {
        code = r.code;
        found = r.found;
        asked = record {
          is =
              entry-same x (next_name s x.name.task g) (heard_by s x.name.task.resource g) (takes_of (λ p. latest s x.name.task.resource g p log) r.code) (state_before s r.code x.name.task log (latest s x.name.task.resource g x.name.task log)) r.code
              (name-same x.name (incarnation_of s x.name.task.resource g) (number_of x.name.task g + 1) (sym at) number-is) told
              (takes-same s x.name.task.resource g log r.code.producers r.code.expected x.takes (suited r)
              (λ t among. (Each-at (IsUntorn log) x.takes t fits.untorn among, take-latest s g log x held at t among fits (single r.code.producers r.code.expected x.takes (sound.distinct x.name.task r.code r.found) (suited r)) up)))
              (r.before ∙ ap (state_before s r.code x.name.task log) (sym last-is)) r.same_code;
          meant = r.meant;
          whole = r.whole;
        };
      }

  makes-lawful : (r : CouldBeMade s log x) → is_lawful s g (Evaluate x.ticket x.name.task x.dt x.inputs) ≡ true
  makes-lawful r =
      let left : x.name.number ≤ s.max_number = r.number_left in
      rw (r.found, lt-ltb (number_of x.name.task g) s.max_number (omega (arith, number-is)))

and-false : (a b : Bool) → b ≡ false → (a && b) ≡ false
and-false true b e = e
and-false false b e = refl

held-evaluate : (s : Setting) (g : List Event) (log : List Evaluated) (x : Evaluated) (k : ℕ) (t : TaskRef) (dt : ℕ) (inputs : List FieldInput) → Held s g log (x ∷ log) → is_lawful s g (Evaluate k t dt inputs) ≡ true → IsNextEvaluation s g log k t dt inputs x
    → Held s (Evaluate k t dt inputs ∷ g) (x ∷ log) (x ∷ log)
held-evaluate s g log x k t dt inputs held lawful next =
    record {
      lawful = (lawful, held.lawful);
      logged = (held.logged, next);
      reached = λ m q away.
          subst (IsTaken (x ∷ log) m (incarnation_of s m g) q)
          (sym (latest-other_evaluate s m k t dt inputs g q x log held.lawful (length-log s g log held.logged) (and-false (same_task x.name.task q) (eqb q.resource m) (ne_eqb q.resource m away))))
          (held.reached m q away);
    }

-- the events so far make these entries, leave each resource in its present incarnation,
-- and each resource has heard what its newest entry in it has
pub record Scheduled (s : Setting) (h : List Event) (log : List Evaluated) : Type 0 where
  pub held : Held s h log log
  pub incarnations : (m : ℕ) → incarnation_of s m h ≡ present_in s.first log m
  pub known : AreKnown s log (λ r. ⊥) h

module _ (s : Setting) (h : List Event) (log : List Evaluated) (x : Evaluated) (sound : IsSoundPlant s.plant) (firsts : length s.first ≡ length s.plant.resources) (sched : Scheduled s h log) (fits : Fits s.first log x) (r : CouldBeMade s log x) where
  abbrev resource : ℕ
  resource = x.name.task.resource

  abbrev count : ℕ
  count = x.name.incarnation - present_in s.first log x.name.task.resource

  abbrev begun : List Event
  begun = after_events s h (restarts s.first log resource x.name.incarnation)

  abbrev told : List Event
  told = after_events s begun (hearings s.first log x.name x.heard)

  abbrev brought : List Event
  brought = after_events s told (flat_map (delivery log x.name) x.takes)

  risen : incarnation_of s resource h + count ≡ x.name.incarnation
  risen = omega (arith, sched.incarnations resource, fits.numbered.not_below_present)

  inside : resource < length s.plant.resources
  inside = omega (arith, firsts, fits.numbered.exists)

  restarted : Begun s h log (x ∷ log) (λ r. ⊥) resource count begun
  restarted = begin s log (x ∷ log) (λ r. ⊥) resource count h (held-wider s h log log x sched.held) sched.known inside (omega (arith, risen, r.incarnation_left))

  opening : Hearing s log (x ∷ log) x.name x.heard 0 begun
  opening = record {
    held = restarted.held;
    own = restarted.here ∙ risen;
    others = λ q m aside other. restarted.known q m (λ none. none) other;
    done = λ m i low away at. absurd (omega (arith, low));
    rest = λ m low away. (
      restarted.others m (ne_eqb resource m (λ e. away (sym e))) ∙ sched.incarnations m,
      restarted.known resource m (λ none. none) away ∙ ap (λ i. known_at s.first log resource i m) (restarted.here ∙ risen),
    );
  }

  heard : Hearing s log (x ∷ log) x.name x.heard (length x.heard) told
  heard = subst (λ k. Hearing s log (x ∷ log) x.name x.heard k told) (omega arith)
      (hear-all s log (x ∷ log) x.name x.heard fits.heard firsts inside r.heard_left 0 x.heard begun (λ k i e. ap (slice_get x.heard) (omega arith) ∙ e) opening)

  delivered : Delivered s told log (x ∷ log) resource x.takes brought
  delivered =
      deliver-all s log (x ∷ log) x.name inside x.takes told heard.held heard.own fits.known fits.addressed
      (λ t among f e. record { entry = x; among = inl refl; here = refl; at = refl; take = t; in_takes = among; of = refl; from = e })

  at_last : incarnation_of s resource brought ≡ x.name.incarnation
  at_last = delivered.incarnations resource ∙ heard.own

  -- the resource has heard what the entry has
  all_heard : x.heard ≡ heard_by s resource brought
  all_heard = same_by_slice_get x.heard (heard_by s resource brought) (λ m. by m (cases_eq m resource) (slice_get x.heard m) refl (slice_get s.first m) refl ∙ sym (heard-get s resource m brought)) where
    by : (m : ℕ) → (m ≡ resource) ⊎ (m ≢ resource) → (o : Option ℕ) → slice_get x.heard m ≡ o → (f : Option ℕ) → slice_get s.first m ≡ f → slice_get x.heard m ≡ option_map (λ _. heard_of s resource m brought) (slice_get s.first m)
    by m c None e None f = e ∙ sym (ap (option_map (λ _. heard_of s resource m brought)) f)
    by m c None e (Some y) f = let far = none-far x.heard m e in let lt = slice_get_within s.first m y f in let many = fits.heard.many in absurd (omega (arith, far, lt, many))
    by m c (Some i) e None f = let far = none-far s.first m f in let lt = slice_get_within x.heard m i e in let many = fits.heard.many in absurd (omega (arith, far, lt, many))
    by m (inl own) (Some i) e (Some y) f =
        let number : i ≡ x.name.incarnation = same_Some i x.name.incarnation (sym e ∙ ap (slice_get x.heard) own ∙ r.whole.own_heard) in
        e ∙ ap (λ (n : ℕ). Some n) (number ∙ sym at_last ∙ sym (ap (λ b. cond b (incarnation_of s resource brought) (greatest (slice_index s.first m) (hearings_of resource m brought))) (eq-eqb m resource own)))
        ∙ sym (ap (option_map (λ _. heard_of s resource m brought)) f)
    by m (inr away) (Some i) e (Some y) f =
        let d = heard.done m i (slice_get_within x.heard m i e) away e in
        e ∙ ap (λ (n : ℕ). Some n) (sym (delivered.hearings resource m ∙ d.1)) ∙ sym (ap (option_map (λ _. heard_of s resource m brought)) f)

  abbrev made : Event
  made = Evaluate x.ticket x.name.task x.dt x.inputs

  lawful : is_lawful s brought made ≡ true
  lawful = makes-lawful s brought log x sound delivered.held at_last fits r

  history-is : after_events s h (events_of s.first log x) ≡ made ∷ brought
  history-is =
      after_append s h (restarts s.first log resource x.name.incarnation) (hearings s.first log x.name x.heard ++ (flat_map (delivery log x.name) x.takes ++ made ∷ []))
      ∙ after_append s begun (hearings s.first log x.name x.heard) (flat_map (delivery log x.name) x.takes ++ made ∷ [])
      ∙ after_append s told (flat_map (delivery log x.name) x.takes) (made ∷ [])
      ∙ after-lawful s brought made [] lawful

  -- the events of one entry more
  scheduled-more : Scheduled s (after_events s h (events_of s.first log x)) (x ∷ log)
  scheduled-more =
      subst (λ g. Scheduled s g (x ∷ log)) (sym history-is)
      (record {
        held = held-evaluate s brought log x x.ticket x.name.task x.dt x.inputs delivered.held lawful (makes s brought log x sound delivered.held at_last fits r all_heard delivered.up);
        incarnations = λ m. delivered.incarnations m ∙ present m (cases_eq m resource);
        known = λ q m none other. delivered.hearings q m ∙ known q m other (cases_eq q resource);
      }) where
        told-away : (m : ℕ) → m ≢ resource → told_of m x ≡ slice_index x.heard m
        told-away m away = ap (λ b. cond b x.name.incarnation (slice_index x.heard m)) (ne_eqb resource m (λ e. away (sym e)))

        present : (m : ℕ) → (m ≡ resource) ⊎ (m ≢ resource) → incarnation_of s m told ≡ present_in s.first (x ∷ log) m
        present m (inl own) =
            let is : told_of m x ≡ x.name.incarnation = ap (λ b. cond b x.name.incarnation (slice_index x.heard m)) (eq-eqb resource m (sym own)) in
            let at : incarnation_of s m told ≡ x.name.incarnation = subst (λ n. incarnation_of s n told ≡ x.name.incarnation) (sym own) heard.own in
            let low : present_in s.first log m ≤ x.name.incarnation = subst (λ n. present_in s.first log n ≤ x.name.incarnation) (sym own) fits.numbered.not_below_present in
            omega (arith, is, at, low)
        present m (inr away) = by (slice_get x.heard m) refl where
          by : (o : Option ℕ) → slice_get x.heard m ≡ o → incarnation_of s m told ≡ present_in s.first (x ∷ log) m
          by None e = let none = index-none x.heard m e in let is = told-away m away in let rest = (heard.rest m (none-far x.heard m e) away).0 in omega (arith, none, is, rest)
          by (Some i) e = let at = index_at x.heard m i e in let is = told-away m away in let done = (heard.done m i (slice_get_within x.heard m i e) away e).0 in omega (arith, at, is, done)

        known : (q m : ℕ) → m ≢ q → (q ≡ resource) ⊎ (q ≢ resource) → heard_of s q m told ≡ known_at s.first (x ∷ log) q (incarnation_of s q brought) m
        known q m other (inr away) =
            heard.others q m away other
            ∙ ap (λ i. known_at s.first log q i m) (sym (delivered.incarnations q))
            ∙ sym (ap (λ b. known_from (slice_index s.first m) (cond (b && eqb x.name.incarnation (incarnation_of s q brought)) (Some x) (find (is_at q (incarnation_of s q brought)) log)) m) (ne_eqb resource q (λ e. away (sym e))))
        known q m other (inl own) =
            subst (λ n. heard_of s n m told ≡ known_at s.first (x ∷ log) n (incarnation_of s n brought) m) (sym own)
            (by (slice_get x.heard m) refl
            ∙ sym (ap (λ b. known_from (slice_index s.first m) (cond (b && eqb x.name.incarnation (incarnation_of s resource brought)) (Some x) (find (is_at resource (incarnation_of s resource brought)) log)) m) (eq-eqb resource resource refl)
            ∙ ap (λ b. known_from (slice_index s.first m) (cond b (Some x) (find (is_at resource (incarnation_of s resource brought)) log)) m) (eq-eqb x.name.incarnation (incarnation_of s resource brought) (sym at_last)))) where
              away : m ≢ resource
              away e = other (e ∙ sym own)

              by : (o : Option ℕ) → slice_get x.heard m ≡ o → heard_of s resource m told ≡ slice_index x.heard m
              by (Some i) e = (heard.done m i (slice_get_within x.heard m i e) away e).1 ∙ sym (index_at x.heard m i e)
              by None e =
                  let rest = (heard.rest m (none-far x.heard m e) away).1 in
                  let none = index-none x.heard m e in
                  let low = known-low s.first x.name x.heard m fits.heard.not_below_first log fits.heard.not_below_earlier in
                  omega (arith, rest, none, low)

replay : (s : Setting) (log : List Evaluated) → IsSoundPlant s.plant → length s.first ≡ length s.plant.resources → AllFit s.first log → AllCouldBeMade s log → Scheduled s (history_of s (schedule_of s.first log)) log
replay s [] sound firsts fit all = record { held = record { lawful = tt; logged = tt; reached = λ n q away. tt }; incarnations = λ m. omega arith; known = λ r m none other. ap (λ b. cond b (incarnation_of s r []) (slice_index s.first m)) (ne_eqb m r other) }
replay s (x ∷ older) sound firsts fit all =
    subst (λ g. Scheduled s g (x ∷ older)) (sym (after_append s [] (schedule_of s.first older) (events_of s.first older x)))
    (scheduled-more s (history_of s (schedule_of s.first older)) older x sound firsts (replay s older sound firsts fit.1 all.1) fit.0 all.0)

-- the schedule of entries that fit makes them again
pub replays : (first : List ℕ) (entries : List Evaluated) → AllFit first (reverse entries) → Replays first entries (schedule_of first (reverse entries))
replays first entries fit = λ plant opening max_number sound firsts all.
    (replay (record { plant = plant; first = first; opening = opening; max_number = max_number }) (reverse entries) sound firsts fit all).held.logged
