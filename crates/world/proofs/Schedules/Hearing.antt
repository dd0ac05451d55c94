-- The events of a schedule make its entries again: the restarts of other resources, and what is heard of them.
use Rattle.std.proofs.Common.{◌≡◌, ◌≢◌, ◌⊎◌, inl, inr, ℕ, zero, suc, ◌+◌, ◌-◌, ◌<◌, ◌≤◌, max, Bool, true, false, cond, ◌&&◌, List, [], ◌∷◌, ◌++◌, length, replicate, Some, None, refl, ap, sym, ◌∙◌, subst, arith, eqb, ltb}
use Rattle.std.specs.Prelude.{slice_get, slice_index}
use Rattle.std.specs.List.{AllByRecursion, find, filter_map, cons_option, flat_map, enumerate_from}
use Rattle.std.proofs.lemmas.Bool.{eq-eqb, ne_eqb, eqb-true, eqb-false, lt-ltb, le-leb, ltb-false, cases_eq}
use Rattle.std.proofs.lemmas.Option.{same_Some, slice_get_within}
use Rattle.lists.specs.Among.{Among}
use Rattle.lists.proofs.Places.{index_at}
use Rattle.evaluation.specs.declared.name.Name.{Name}
use Rattle.evaluation.specs.Meaning.{Evaluated}
use Rattle.evaluation.specs.Heard.{greatest}
use Rattle.world.specs.declared.event.Event.{Event}
use Rattle.world.specs.declared.event.Event.TheVariants.{Restart, Hear}
use Rattle.world.specs.History.{Setting, is_lawful, after_events, incarnation_of, since_restart, heard_in, hearings_of}
use Rattle.book.specs.Fits.{present_in, NoneBelow, HasHeardNoMore, IsWellHeard}
use Rattle.world.specs.Schedule.{known_from, is_of_node, known_of, restarts, hearing}
use Rattle.world.specs.Steps.Histories.Names.{after_append, incarnation-low}
use Rattle.world.specs.Steps.Histories.Heard.{heard_of}
use Rattle.world.specs.Steps.Histories.Steps.{incarnation-restart}
use Rattle.world.proofs.Schedules.Scheduling.{after-lawful, Held, held-restart, held-hear, other_incarnation}

-- an entry of resource n in incarnation i
abbrev pub is_at : ℕ → ℕ → Evaluated → Bool
is_at n i y = eqb y.name.task.resource n && eqb y.name.incarnation i

-- what resource n has heard of m in incarnation i: what its newest entry in it has, else the first one
abbrev pub known_at : List ℕ → List Evaluated → ℕ → ℕ → ℕ → ℕ
known_at first log n i m = known_from (slice_index first m) (find (is_at n i) log) m

-- each resource but one, of which this is told, has heard what its newest entry in its incarnation has
abbrev pub AreKnown : Setting → List Evaluated → (ℕ → Type 0) → List Event → Type 0
AreKnown s log Aside h = (r m : ℕ) → (Aside r → ⊥) → m ≢ r → heard_of s r m h ≡ known_at s.first log r (incarnation_of s r h) m

none-at : (n i : ℕ) (log : List Evaluated) → ((y : Evaluated) → Among y log → y.name.task.resource ≡ n → y.name.incarnation < i) → find (is_at n i) log ≡ None
none-at n i [] low = refl
none-at n i (y ∷ ys) low = by (eqb y.name.task.resource n) refl (eqb y.name.incarnation i) refl (none-at n i ys (λ z among. low z (inr among))) where
  by : (a : Bool) → eqb y.name.task.resource n ≡ a → (b : Bool) → eqb y.name.incarnation i ≡ b → find (is_at n i) ys ≡ None → cond (a && b) (Some y) (find (is_at n i) ys) ≡ None
  by true e true f ih = let under = low y (inl refl) (eqb-true y.name.task.resource n e) in let at = eqb-true y.name.incarnation i f in absurd (omega (arith, under, at))
  by true e false f ih = ih
  by false e b f ih = ih

-- a Restart keeps it
known-restart : (s : Setting) (log : List Evaluated) (Aside : ℕ → Type 0) (n : ℕ) (h : List Event) → ((y : Evaluated) → Among y log → y.name.incarnation ≤ incarnation_of s y.name.task.resource h) → AreKnown s log Aside h → AreKnown s log Aside (Restart n ∷ h)
known-restart s log Aside n h low known r m aside other = by (eqb n r) refl where
  apart : eqb m r ≡ false
  apart = ne_eqb m r other

  by : (b : Bool) → eqb n r ≡ b → heard_of s r m (Restart n ∷ h) ≡ known_at s.first log r (incarnation_of s r (Restart n ∷ h)) m
  by true e =
      let none : find (is_at r (incarnation_of s r (Restart n ∷ h))) log ≡ None =
      none-at r (incarnation_of s r (Restart n ∷ h)) log
      (λ y among here. let under = subst (λ q. y.name.incarnation ≤ incarnation_of s q h) here (low y among) in let up : incarnation_of s r (Restart n ∷ h) ≡ incarnation_of s r h + 1 = subst (λ q. incarnation_of s r (Restart q ∷ h) ≡ incarnation_of s r h + 1) (sym (eqb-true n r e)) (incarnation-restart s r h) in omega (arith, under, up)) in
      ap (λ b. cond b (incarnation_of s r (Restart n ∷ h)) (greatest (slice_index s.first m) (hearings_of r m (Restart n ∷ h)))) apart
      ∙ ap (λ b. greatest (slice_index s.first m) (filter_map (heard_in r m) (cond b [] (Restart n ∷ since_restart r h)))) e
      ∙ sym (ap (λ o. known_from (slice_index s.first m) o m) none)
  by false e =
      ap (λ b. cond b (incarnation_of s r (Restart n ∷ h)) (greatest (slice_index s.first m) (hearings_of r m (Restart n ∷ h)))) apart
      ∙ ap (λ b. greatest (slice_index s.first m) (filter_map (heard_in r m) (cond b [] (Restart n ∷ since_restart r h)))) e
      ∙ sym (ap (λ b. cond b (incarnation_of s r h) (greatest (slice_index s.first m) (hearings_of r m h))) apart)
      ∙ known r m aside other
      ∙ ap (λ i. known_at s.first log r i m) (sym (other_incarnation s n r h e))

-- restarts of a resource elsewhere leave what is heard here
unheard : (s : Setting) (n r m : ℕ) (h : List Event) → eqb n r ≡ false → heard_of s r m (Restart n ∷ h) ≡ heard_of s r m h
unheard s n r m h e = by (eqb m r) where
  by : (b : Bool) → cond b (incarnation_of s r (Restart n ∷ h)) (greatest (slice_index s.first m) (filter_map (heard_in r m) (cond (eqb n r) [] (Restart n ∷ since_restart r h)))) ≡ cond b (incarnation_of s r h) (greatest (slice_index s.first m) (hearings_of r m h))
  by true = other_incarnation s n r h e
  by false = ap (λ b. greatest (slice_index s.first m) (filter_map (heard_in r m) (cond b [] (Restart n ∷ since_restart r h)))) e

-- so many restarts of a resource
pub record Begun (s : Setting) (h : List Event) (log seen : List Evaluated) (Aside : ℕ → Type 0) (n c : ℕ) (g : List Event) : Type 0 where
  pub held : Held s g log seen
  pub here : incarnation_of s n g ≡ incarnation_of s n h + c
  pub others : (m : ℕ) → eqb n m ≡ false → incarnation_of s m g ≡ incarnation_of s m h
  pub hearings : (r m : ℕ) → eqb n r ≡ false → heard_of s r m g ≡ heard_of s r m h
  pub known : AreKnown s log Aside g

pub begin : (s : Setting) (log seen : List Evaluated) (Aside : ℕ → Type 0) (n c : ℕ) (h : List Event) → Held s h log seen → AreKnown s log Aside h → n < length s.plant.resources → incarnation_of s n h + c ≤ max (incarnation_of s n h) 4294967295
    → Begun s h log seen Aside n c (after_events s h (replicate c (Restart n)))
begin s log seen Aside n zero h held known inside low = record { held = held; here = omega arith; others = λ m e. refl; hearings = λ r m e. refl; known = known }
begin s log seen Aside n (suc c) h held known inside low =
    subst (Begun s h log seen Aside n (suc c)) (sym (after-lawful s h (Restart n) (replicate c (Restart n)) lawful))
    (whole (begin s log seen Aside n c (Restart n ∷ h) (held-restart s h log seen n held lawful) (known-restart s log Aside n h (λ y among. incarnation-low s h log held.logged y among) known) inside (omega (arith, low, incarnation-restart s n h)))) where
      lawful : is_lawful s h (Restart n) ≡ true
      lawful = rw (lt-ltb n (length s.plant.resources) inside, lt-ltb (incarnation_of s n h) 4294967295 (omega (arith, low))) refl

      whole : Begun s (Restart n ∷ h) log seen Aside n c (after_events s (Restart n ∷ h) (replicate c (Restart n))) → Begun s h log seen Aside n (suc c) (after_events s (Restart n ∷ h) (replicate c (Restart n)))
      whole r = record {
        held = r.held;
        here = omega (arith, r.here, incarnation-restart s n h);
        others = λ m e. r.others m e ∙ other_incarnation s n m h e;
        hearings = λ q m e. r.hearings q m e ∙ unheard s n q m h e;
        known = r.known;
      }

-- a Hear of n leaves what others have heard, and what n has heard of others
hear-other : (s : Setting) (n o i r m : ℕ) (h : List Event) → (eqb n r && eqb o m) ≡ false → heard_of s r m (Hear n o i ∷ h) ≡ heard_of s r m h
hear-other s n o i r m h e = by (eqb n r) refl (eqb m r) e where
  by : (a : Bool) → eqb n r ≡ a → (b : Bool) → (a && eqb o m) ≡ false
      → cond b (incarnation_of s r h) (greatest (slice_index s.first m) (cons_option (cond (a && eqb o m) (Some i) None) (hearings_of r m h))) ≡ cond b (incarnation_of s r h) (greatest (slice_index s.first m) (hearings_of r m h))
  by a f true g = refl
  by a f false g = ap (λ c. greatest (slice_index s.first m) (cons_option (cond c (Some i) None) (hearings_of r m h))) g

hear-here : (s : Setting) (n o i : ℕ) (h : List Event) → eqb o n ≡ false → heard_of s n o (Hear n o i ∷ h) ≡ max i (heard_of s n o h)
hear-here s n o i h e =
    ap (λ b. cond b (incarnation_of s n h) (greatest (slice_index s.first o) (hearings_of n o (Hear n o i ∷ h)))) e
    ∙ ap (λ b. greatest (slice_index s.first o) (cons_option (cond (b && eqb o o) (Some i) None) (hearings_of n o h))) (eq-eqb n n refl)
    ∙ ap (λ b. greatest (slice_index s.first o) (cons_option (cond b (Some i) None) (hearings_of n o h))) (eq-eqb o o refl)
    ∙ ap (max i) (sym (ap (λ b. cond b (incarnation_of s n h) (greatest (slice_index s.first o) (hearings_of n o h))) e))

-- The hearings of a name's resource, up to a place: those before it are heard, and the others are as its newest entry has them.
pub record Hearing (s : Setting) (log seen : List Evaluated) (name : Name) (heard : List ℕ) (j : ℕ) (h : List Event) : Type 0 where
  pub held : Held s h log seen
  pub own : incarnation_of s name.task.resource h ≡ name.incarnation
  pub others : AreKnown s log (λ r. r ≡ name.task.resource) h
  pub done : (m i : ℕ) → m < j → m ≢ name.task.resource → slice_get heard m ≡ Some i → (incarnation_of s m h ≡ max i (present_in s.first log m)) × (heard_of s name.task.resource m h ≡ i)
  pub rest : (m : ℕ) → j ≤ m → m ≢ name.task.resource → (incarnation_of s m h ≡ present_in s.first log m) × (heard_of s name.task.resource m h ≡ known_of s.first log name m)

-- what the newest entry has heard isn't above what is heard now
pub known-low : (first : List ℕ) (name : Name) (heard : List ℕ) (m : ℕ) → NoneBelow heard first → (log : List Evaluated) → AllByRecursion (HasHeardNoMore name heard) log → known_of first log name m ≤ slice_index heard m
known-low first name heard m low [] all = low m
known-low first name heard m low (y ∷ ys) all = by (eqb y.name.task.resource name.task.resource) refl (eqb y.name.incarnation name.incarnation) refl (known-low first name heard m low ys all.1) where
  by : (a : Bool) → eqb y.name.task.resource name.task.resource ≡ a → (b : Bool) → eqb y.name.incarnation name.incarnation ≡ b → known_of first ys name m ≤ slice_index heard m
      → known_from (slice_index first m) (cond (a && b) (Some y) (find (is_of_node name) ys)) m ≤ slice_index heard m
  by true e true f ih = all.0 (eqb-true y.name.task.resource name.task.resource e) (eqb-true y.name.incarnation name.incarnation f) m
  by true e false f ih = ih
  by false e b f ih = ih

module _ (s : Setting) (log seen : List Evaluated) (name : Name) (heard : List ℕ) (well : IsWellHeard s.first log name heard) (firsts : length s.first ≡ length s.plant.resources) (inside : name.task.resource < length s.plant.resources)
    (bound : (m : ℕ) → slice_index heard m ≤ 4294967295) where
  abbrev pub hearer : ℕ
  hearer = name.task.resource

  -- the hearing of one place
  hear-one : (j i : ℕ) (h : List Event) → slice_get heard j ≡ Some i → Hearing s log seen name heard j h → Hearing s log seen name heard (suc j) (after_events s h (hearing s.first log name (j, i)))
  hear-one j i h at a = by (eqb j hearer) refl where
    later : (m : ℕ) → suc j ≤ m → j ≤ m
    later m low = omega (arith, low)

    place : j < length s.plant.resources
    place = let lt = slice_get_within heard j i at in let many = well.many in omega (arith, lt, many, firsts)

    count : ℕ
    count = i - present_in s.first log j

    at_first : slice_index s.first j ≤ i
    at_first = let low = well.not_below_first j in let is = index_at heard j i at in omega (arith, low, is)

    old : known_of s.first log name j ≤ i
    old = let low = known-low s.first name heard j well.not_below_first log well.not_below_earlier in let is = index_at heard j i at in omega (arith, low, is)

    apart : j ≢ hearer → eqb j hearer ≡ false
    apart away = ne_eqb j hearer away

    begun : j ≢ hearer → Begun s h log seen (λ r. r ≡ hearer) j count (after_events s h (restarts s.first log j i))
    begun away =
        let is = (a.rest j (omega arith) away).0 in
        let number = index_at heard j i at in
        let limit = bound j in
        begin s log seen (λ r. r ≡ hearer) j count h a.held a.others place (omega (arith, is, number, limit))

    -- whatever happens then but changes nothing but what is heard of this place
    joined : (g : List Event) → (away : j ≢ hearer) → Held s g log seen → ((m : ℕ) → incarnation_of s m g ≡ incarnation_of s m (after_events s h (restarts s.first log j i))) → ((m : ℕ) → m ≢ j → heard_of s hearer m g ≡ heard_of s hearer m (after_events s h (restarts s.first log j i))) → heard_of s hearer j g ≡ i
        → AreKnown s log (λ r. r ≡ hearer) g → Hearing s log seen name heard (suc j) g
    joined g away held same unmoved now known = record {
      held = held;
      own = same hearer ∙ (begun away).others hearer (apart away) ∙ a.own;
      others = known;
      done = λ m k low off f. done m k low off f (cases_eq m j);
      rest = λ m low off.
          let differ : m ≢ j = (λ e. omega (arith, low, e)) in
          let r = a.rest m (later m low) off in
          (same m ∙ (begun away).others m (ne_eqb j m (λ e. differ (sym e))) ∙ r.0, unmoved m differ ∙ (begun away).hearings hearer m (apart away) ∙ r.1);
    } where
      done : (m k : ℕ) → m < suc j → m ≢ hearer → slice_get heard m ≡ Some k → (m ≡ j) ⊎ (m ≢ j) → (incarnation_of s m g ≡ max k (present_in s.first log m)) × (heard_of s hearer m g ≡ k)
      done m k low off f (inl is_j) =
          let number : k ≡ i = same_Some k i (sym f ∙ ap (slice_get heard) is_j ∙ at) in
          let here = (begun away).here in
          let was = (a.rest j (omega arith) away).0 in
          let all = same j in
          (subst (λ q. incarnation_of s q g ≡ max k (present_in s.first log q)) (sym is_j) (omega (arith, number, here, was, all)), subst (λ q. heard_of s hearer q g ≡ k) (sym is_j) (now ∙ sym number))
      done m k low off f (inr not_j) =
          let d = a.done m k (omega (arith, low, not_j)) off f in
          (same m ∙ (begun away).others m (ne_eqb j m (λ e. not_j (sym e))) ∙ d.0, unmoved m not_j ∙ (begun away).hearings hearer m (apart away) ∙ d.1)

    -- what is heard of this place before the Hear
    known_now : j ≢ hearer → heard_of s hearer j (after_events s h (restarts s.first log j i)) ≡ known_of s.first log name j
    known_now away = (begun away).hearings hearer j (apart away) ∙ (a.rest j (omega arith) away).1

    lawful : j ≢ hearer → is_lawful s (after_events s h (restarts s.first log j i)) (Hear hearer j i) ≡ true
    lawful away =
        let here = (begun away).here in
        let was = (a.rest j (omega arith) away).0 in
        rw (lt-ltb hearer (length s.plant.resources) inside, lt-ltb j (length s.plant.resources) place, le-leb (slice_index s.first j) i at_first, le-leb i (incarnation_of s j (after_events s h (restarts s.first log j i))) (omega (arith, here, was))) refl

    heard_now : (t : Bool) → ltb (known_of s.first log name j) i ≡ t → (away : j ≢ hearer) → Hearing s log seen name heard (suc j) (after_events s (after_events s h (restarts s.first log j i)) (cond t (Hear hearer j i ∷ []) []))
    heard_now true e away =
        subst (Hearing s log seen name heard (suc j)) (sym (after-lawful s (after_events s h (restarts s.first log j i)) (Hear hearer j i) [] (lawful away)))
        (joined (Hear hearer j i ∷ (after_events s h (restarts s.first log j i))) away (held-hear s (after_events s h (restarts s.first log j i)) log seen hearer j i (begun away).held (lawful away)) (λ m. refl)
        (λ m differ. hear-other s hearer j i hearer m (after_events s h (restarts s.first log j i)) (off (eqb hearer hearer) (eqb j m) (ne_eqb j m (λ f. differ (sym f)))))
        (hear-here s hearer j i (after_events s h (restarts s.first log j i)) (apart away) ∙ (let known = known_now away in omega (arith, known, old)))
        (λ r m aside other. hear-other s hearer j i r m (after_events s h (restarts s.first log j i)) (ap (λ b. b && eqb j m) (ne_eqb hearer r (λ f. aside (sym f)))) ∙ (begun away).known r m aside other)) where
          off : (a b : Bool) → b ≡ false → (a && b) ≡ false
          off true b f = f
          off false b f = refl
    heard_now false e away =
        joined (after_events s h (restarts s.first log j i)) away (begun away).held (λ m. refl) (λ m differ. refl)
        (let known = known_now away in let high = ltb-false (known_of s.first log name j) i e in omega (arith, known, old, high)) (begun away).known

    by : (b : Bool) → eqb j hearer ≡ b → Hearing s log seen name heard (suc j) (after_events s h (cond b [] (restarts s.first log j i ++ cond (ltb (known_of s.first log name j) i) (Hear hearer j i ∷ []) [])))
    by true e = record {
      held = a.held;
      own = a.own;
      others = a.others;
      done = λ m k low away f. a.done m k (let differ : m ≡ j → ⊥ = (λ same. away (same ∙ eqb-true j hearer e)) in omega (arith, low, differ)) away f;
      rest = λ m low away. a.rest m (later m low) away;
    }
    by false e =
        subst (Hearing s log seen name heard (suc j)) (sym (after_append s h (restarts s.first log j i) (cond (ltb (known_of s.first log name j) i) (Hear hearer j i ∷ []) [])))
        (heard_now (ltb (known_of s.first log name j) i) refl (eqb-false j hearer e))

  -- the hearings of all places
  pub hear-all : (j : ℕ) (is : List ℕ) (h : List Event) → ((k i : ℕ) → slice_get is k ≡ Some i → slice_get heard (j + k) ≡ Some i) → Hearing s log seen name heard j h
      → Hearing s log seen name heard (j + length is) (after_events s h (flat_map (hearing s.first log name) (enumerate_from j is)))
  hear-all j [] h at a = subst (λ k. Hearing s log seen name heard k h) (omega arith) a
  hear-all j (i ∷ is) h at a =
      let first : slice_get heard j ≡ Some i = ap (slice_get heard) (omega arith) ∙ at 0 i refl in
      let g : List Event = after_events s h (hearing s.first log name (j, i)) in
      let rest = hear-all (j + 1) is g (λ k n e. ap (slice_get heard) (omega arith) ∙ at (suc k) n e) (subst (λ k. Hearing s log seen name heard k g) (omega arith) (hear-one j i h first a)) in
      subst (Hearing s log seen name heard (j + suc (length is))) (sym (after_append s h (hearing s.first log name (j, i)) (flat_map (hearing s.first log name) (enumerate_from (j + 1) is))))
      (subst (λ k. Hearing s log seen name heard k (after_events s g (flat_map (hearing s.first log name) (enumerate_from (j + 1) is)))) (omega arith) rest)
