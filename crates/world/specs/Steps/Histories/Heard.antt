-- What resources have heard: no more than has happened, and within an incarnation never less than before.
use Rattle.std.proofs.Common.{◌≡◌, ◌⊎◌, inl, inr, ℕ, zero, suc, ◌+◌, ◌<◌, ◌≤◌, max, Bool, true, false, cond, ◌&&◌, List, [], ◌∷◌, map, length, Option, Some, None, refl, ap, sym, ◌∙◌, subst, arith, eqb, leb, ltb}
use Rattle.std.specs.Prelude.{slice_get, slice_set, slice_index}
use Rattle.std.specs.Option.{option_map}
use Rattle.std.specs.List.{AllByRecursion, enumerate_from, filter, filter_map, cons_option}
use Rattle.std.proofs.lemmas.Bool.{eqb-true, eqb-false, eq-eqb, ne_eqb, leb-true, and_parts, false≢true}
use Rattle.std.proofs.lemmas.Option.{none-some, same_Some, slice_get_within}
use Rattle.lists.specs.Among.{Among}
use Rattle.lists.proofs.Each.{Each-at, Each-from}
use Rattle.lists.proofs.Places.{same_by_slice_get, slice_get-set_same, slice_get-set_other, index_at}
use Rattle.lists.proofs.Mapped.{enumerated_at}
use Rattle.evaluation.specs.Steps.Facts.{greatest-first}
use Rattle.task_codes.specs.declared.task_ref.TaskRef.{TaskRef}
use Rattle.evaluation.specs.declared.field_input.FieldInput.{FieldInput}
use Rattle.evaluation.specs.declared.name.Name.{Name}
use Rattle.evaluation.specs.Meaning.{Evaluated}
use Rattle.evaluation.specs.Heard.{greatest, is_number, is_addressed}
use Rattle.world.specs.declared.event.Event.{Event}
use Rattle.world.specs.declared.event.Event.TheVariants.{Evaluate, Deliver, Restart, Hear}
use Rattle.world.specs.History.{Setting, heard_in, hearings_of, heard_by, since_restart, is_restart_of, incarnation_of}
use Rattle.world.specs.Run.{IsLog, IsNextEvaluation}
use Rattle.world.specs.Steps.Histories.Names.{AllLawful, incarnation-low, named}

-- what is heard of one resource, where that exists
abbrev pub heard_of : Setting → ℕ → ℕ → List Event → ℕ
heard_of s n m h = cond (eqb m n) (incarnation_of s n h) (greatest (slice_index s.first m) (hearings_of n m h))

pub index-none : (xs : List ℕ) (m : ℕ) → slice_get xs m ≡ None → slice_index xs m ≡ 0
index-none [] m e = refl
index-none (y ∷ ys) zero e = absurd (none-some y (sym e))
index-none (y ∷ ys) (suc m) e = index-none ys m e

pub none-far : (xs : List ℕ) (m : ℕ) → slice_get xs m ≡ None → length xs ≤ m
none-far [] m e = omega arith
none-far (y ∷ ys) zero e = absurd (none-some y (sym e))
none-far (y ∷ ys) (suc m) e = let far = none-far ys m e in omega (arith, far)

pub set-none : (xs : List ℕ) (n m x : ℕ) → slice_get xs m ≡ None → slice_get (slice_set xs n x) m ≡ None
set-none [] n m x e = refl
set-none (y ∷ ys) zero zero x e = absurd (none-some y (sym e))
set-none (y ∷ ys) zero (suc m) x e = e
set-none (y ∷ ys) (suc n) zero x e = absurd (none-some y (sym e))
set-none (y ∷ ys) (suc n) (suc m) x e = set-none ys n m x e

-- one number is heard of each resource that exists
pub heard-get : (s : Setting) (n m : ℕ) (h : List Event) → slice_get (heard_by s n h) m ≡ option_map (λ _. heard_of s n m h) (slice_get s.first m)
heard-get s n m h =
    enumerated_at (λ e. cond (eqb e.0 n) (incarnation_of s n h) (greatest e.1 (hearings_of n e.0 h))) s.first 0 m
    ∙ ap (λ j. option_map (λ x. cond (eqb j n) (incarnation_of s n h) (greatest x (hearings_of n j h))) (slice_get s.first m)) (omega arith)
    ∙ by (slice_get s.first m) refl where
      by : (o : Option ℕ) → slice_get s.first m ≡ o → option_map (λ x. cond (eqb m n) (incarnation_of s n h) (greatest x (hearings_of n m h))) o ≡ option_map (λ _. heard_of s n m h) o
      by None e = refl
      by (Some x) e = ap (λ y. Some (cond (eqb m n) (incarnation_of s n h) (greatest y (hearings_of n m h)))) (sym (index_at s.first m x e))

length-mapped : (f : ℕ × ℕ → ℕ) (xs : List ℕ) (k : ℕ) → length (map f (enumerate_from k xs)) ≡ length xs
length-mapped f [] k = refl
length-mapped f (x ∷ xs) k = ap suc (length-mapped f xs (k + 1))

pub length-heard : (s : Setting) (n : ℕ) (h : List Event) → length (heard_by s n h) ≡ length s.first
length-heard s n h = length-mapped (λ e. cond (eqb e.0 n) (incarnation_of s n h) (greatest e.1 (hearings_of n e.0 h))) s.first 0

-- what is told of a resource is no more than its present incarnation
hearings-low : (s : Setting) (n m : ℕ) (h : List Event) → AllLawful s h → greatest (slice_index s.first m) (hearings_of n m h) ≤ incarnation_of s m h
hearings-low s n m [] all = omega arith
hearings-low s n m (Evaluate k t dt inputs ∷ h) all = hearings-low s n m h all.1
hearings-low s n m (Deliver k r ∷ h) all = hearings-low s n m h all.1
hearings-low s n m (Restart r ∷ h) all = by (eqb r n) (eqb r m) (hearings-low s n m h all.1) where
  by : (a b : Bool) → greatest (slice_index s.first m) (hearings_of n m h) ≤ incarnation_of s m h
      → greatest (slice_index s.first m) (filter_map (heard_in n m) (cond a [] (Restart r ∷ since_restart n h))) ≤ slice_index s.first m + length (cond b (Restart r ∷ filter (is_restart_of m) h) (filter (is_restart_of m) h))
  by true true ih = omega arith
  by true false ih = omega arith
  by false true ih = omega (arith, ih)
  by false false ih = ih
hearings-low s n m (Hear r o i ∷ h) all = by (eqb r n) (eqb o m) refl (hearings-low s n m h all.1) where
  high : i ≤ incarnation_of s o h
  high =
      let one = and_parts (ltb r (length s.plant.resources)) _ all.0 in
      let two = and_parts (ltb o (length s.plant.resources)) _ one.1 in
      leb-true i (incarnation_of s o h) (and_parts (leb (slice_index s.first o) i) (leb i (incarnation_of s o h)) two.1).1

  by : (a b : Bool) → eqb o m ≡ b → greatest (slice_index s.first m) (hearings_of n m h) ≤ incarnation_of s m h
      → greatest (slice_index s.first m) (cons_option (cond (a && b) (Some i) None) (hearings_of n m h)) ≤ incarnation_of s m h
  by true true e ih = let up : i ≤ incarnation_of s m h = subst (λ r. i ≤ incarnation_of s r h) (eqb-true o m e) high in omega (arith, ih, up)
  by true false e ih = ih
  by false b e ih = ih

pub heard_of-low : (s : Setting) (n m : ℕ) (h : List Event) → AllLawful s h → heard_of s n m h ≤ incarnation_of s m h
heard_of-low s n m h all = by (eqb m n) refl where
  by : (b : Bool) → eqb m n ≡ b → cond b (incarnation_of s n h) (greatest (slice_index s.first m) (hearings_of n m h)) ≤ incarnation_of s m h
  by true e = subst (λ r. incarnation_of s r h ≤ incarnation_of s m h) (eqb-true m n e) (omega arith)
  by false e = hearings-low s n m h all

pub heard_of-first : (s : Setting) (n m : ℕ) (h : List Event) → slice_index s.first m ≤ heard_of s n m h
heard_of-first s n m h = by (eqb m n) refl where
  by : (b : Bool) → eqb m n ≡ b → slice_index s.first m ≤ cond b (incarnation_of s n h) (greatest (slice_index s.first m) (hearings_of n m h))
  by true e = subst (λ r. slice_index s.first m ≤ incarnation_of s r h) (eqb-true m n e) (omega arith)
  by false e = greatest-first (slice_index s.first m) (hearings_of n m h)

-- an incarnation never falls
later : (s : Setting) (m : ℕ) (e : Event) (h : List Event) → incarnation_of s m h ≤ incarnation_of s m (e ∷ h)
later s m (Evaluate k t dt inputs) h = omega arith
later s m (Deliver k r) h = omega arith
later s m (Hear r o i) h = omega arith
later s m (Restart r) h = by (eqb r m) where
  by : (b : Bool) → incarnation_of s m h ≤ slice_index s.first m + length (cond b (Restart r ∷ filter (is_restart_of m) h) (filter (is_restart_of m) h))
  by true = omega arith
  by false = omega arith

-- what an evaluation has heard
pub heard-is : (s : Setting) (h : List Event) (log : List Evaluated) (k : ℕ) (t : TaskRef) (dt : ℕ) (inputs : List FieldInput) (x : Evaluated) → IsNextEvaluation s h log k t dt inputs x → x.heard ≡ heard_by s t.resource h
heard-is s h log k t dt inputs x next = ap (λ (y : Evaluated). y.heard) next.asked.is

heard-lower : (s : Setting) (e : Event) (h : List Event) (y : Evaluated) → ((m i : ℕ) → slice_get y.heard m ≡ Some i → i ≤ incarnation_of s m h) → (m i : ℕ) → slice_get y.heard m ≡ Some i → i ≤ incarnation_of s m (e ∷ h)
heard-lower s e h y low m i at = let under = low m i at in let up = later s m e h in omega (arith, under, up)

-- no entry has heard of an incarnation that hasn't begun
pub heard-low : (s : Setting) (h : List Event) (log : List Evaluated) → AllLawful s h → IsLog s h log → (y : Evaluated) → Among y log → (m i : ℕ) → slice_get y.heard m ≡ Some i → i ≤ incarnation_of s m h
heard-low s [] [] all is y among = elim among [ ]
heard-low s [] (x ∷ older) all is y among = absurd is
heard-low s (Deliver k n ∷ h) log all is y among = heard-lower s (Deliver k n) h y (heard-low s h log all.1 is y among)
heard-low s (Restart n ∷ h) log all is y among = heard-lower s (Restart n) h y (heard-low s h log all.1 is y among)
heard-low s (Hear n o i ∷ h) log all is y among = heard-lower s (Hear n o i) h y (heard-low s h log all.1 is y among)
heard-low s (Evaluate k t dt inputs ∷ h) [] all is y among = absurd is
heard-low s (Evaluate k t dt inputs ∷ h) (x ∷ older) all is y (inr among) = heard-lower s (Evaluate k t dt inputs) h y (heard-low s h older all.1 is.0 y among)
heard-low s (Evaluate k t dt inputs ∷ h) (x ∷ older) all is y (inl same) = λ m i at.
    let got : option_map (λ _. heard_of s t.resource m h) (slice_get s.first m) ≡ Some i = sym (heard-get s t.resource m h) ∙ ap (λ l. slice_get l m) (sym (heard-is s h older k t dt inputs x is.1)) ∙ ap (λ (z : Evaluated). slice_get z.heard m) same ∙ at in
    let low = heard_of-low s t.resource m h all.1 in
    let number : heard_of s t.resource m h ≡ i = by m i (slice_get s.first m) got in
    let up = later s m (Evaluate k t dt inputs) h in
    omega (arith, low, number, up) where
      by : (m i : ℕ) (o : Option ℕ) → option_map (λ _. heard_of s t.resource m h) o ≡ Some i → heard_of s t.resource m h ≡ i
      by m i None e = absurd (none-some i e)
      by m i (Some z) e = same_Some (heard_of s t.resource m h) i e

number-of : (i : ℕ) (o : Option ℕ) → is_number i o ≡ true → o ≡ Some i
number-of i None e = absurd (false≢true e)
number-of i (Some m) e = ap (λ (k : ℕ). Some k) (eqb-true m i e)

decided : (b : Bool) → (b ≡ true → ⊥) → b ≡ false
decided true h = absurd (h refl)
decided false h = refl

-- so none is addressed to one
pub not_addressed : (s : Setting) (h : List Event) (log : List Evaluated) → AllLawful s h → IsLog s h log → (y : Evaluated) → Among y log → (m i : ℕ) → incarnation_of s m h < i → is_addressed y m i ≡ false
not_addressed s h log all is y among m i above =
    decided (is_addressed y m i) (λ e. let low = heard-low s h log all is y among m i (number-of i (slice_get y.heard m) e) in omega (arith, above, low))

-- what was heard isn't forgotten but by a restart
kept : (s : Setting) (n m : ℕ) (e : Event) (h : List Event) → is_restart_of n e ≡ false → heard_of s n m h ≤ heard_of s n m (e ∷ h)
kept s n m (Evaluate k t dt inputs) h other = omega arith
kept s n m (Deliver k r) h other = omega arith
kept s n m (Restart r) h other = by (eqb m n) where
  by : (b : Bool) → cond b (incarnation_of s n h) (greatest (slice_index s.first m) (hearings_of n m h))
      ≤ cond b (slice_index s.first n + length (cond (eqb r n) (Restart r ∷ filter (is_restart_of n) h) (filter (is_restart_of n) h))) (greatest (slice_index s.first m) (filter_map (heard_in n m) (cond (eqb r n) [] (Restart r ∷ since_restart n h))))
  by true = rw other (omega arith)
  by false = rw other (omega arith)
kept s n m (Hear r o i) h other = by (eqb m n) (eqb r n) (eqb o m) where
  by : (b a c : Bool) → cond b (incarnation_of s n h) (greatest (slice_index s.first m) (hearings_of n m h))
      ≤ cond b (incarnation_of s n h) (greatest (slice_index s.first m) (cons_option (cond (a && c) (Some i) None) (hearings_of n m h)))
  by true a c = omega arith
  by false true true = omega arith
  by false true false = omega arith
  by false false c = omega arith

-- within an incarnation no entry of a resource has heard more than the resource now has
abbrev pub HasHeardWithin : Setting → ℕ → List Event → Evaluated → Type 0
HasHeardWithin s n h y = y.name.task.resource ≡ n → y.name.incarnation ≡ incarnation_of s n h → (m i : ℕ) → slice_get y.heard m ≡ Some i → i ≤ heard_of s n m h

pub heard-within : (s : Setting) (n : ℕ) (h : List Event) (log : List Evaluated) → AllLawful s h → IsLog s h log → AllByRecursion (HasHeardWithin s n h) log
heard-within s n [] [] all is = tt
heard-within s n [] (x ∷ older) all is = absurd is
heard-within s n (Deliver k r ∷ h) log all is = heard-within s n h log all.1 is
heard-within s n (Hear r o i ∷ h) log all is =
    Each-from _ log (λ y among here now m j at. let low = Each-at _ log y (heard-within s n h log all.1 is) among here now m j at in let up = kept s n m (Hear r o i) h refl in omega (arith, low, up))
heard-within s n (Restart r ∷ h) log all is = by (heard-within s n h log all.1 is) (eqb r n) refl where
  by : AllByRecursion (HasHeardWithin s n h) log → (b : Bool) → eqb r n ≡ b → AllByRecursion (HasHeardWithin s n (Restart r ∷ h)) log
  by ih true e =
      Each-from _ log
      (λ y among here now.
      let known : y.name.incarnation ≤ incarnation_of s n h = subst (λ q. y.name.incarnation ≤ incarnation_of s q h) here (incarnation-low s h log is y among) in
      let above : incarnation_of s n (Restart r ∷ h) ≡ incarnation_of s n h + 1 = rw e (omega arith) in
      absurd (omega (arith, now, known, above)))
  by ih false e =
      Each-from _ log
      (λ y among here now m j at.
      let same : incarnation_of s n (Restart r ∷ h) ≡ incarnation_of s n h = rw e refl in
      let low = Each-at _ log y ih among here (now ∙ same) m j at in
      let up = kept s n m (Restart r) h e in
      omega (arith, low, up))
heard-within s n (Evaluate k t dt inputs ∷ h) [] all is = absurd is
heard-within s n (Evaluate k t dt inputs ∷ h) (x ∷ older) all is = (newest, heard-within s n h older all.1 is.0) where
  newest : HasHeardWithin s n (Evaluate k t dt inputs ∷ h) x
  newest here now m i at =
      let there : t.resource ≡ n = sym (ap (λ (q : Name). q.task.resource) (named s h older k t dt inputs x is.1)) ∙ here in
      let got : option_map (λ _. heard_of s t.resource m h) (slice_get s.first m) ≡ Some i = sym (heard-get s t.resource m h) ∙ ap (λ l. slice_get l m) (sym (heard-is s h older k t dt inputs x is.1)) ∙ at in
      let number : heard_of s t.resource m h ≡ i = by (slice_get s.first m) got in
      let same : heard_of s n m h ≡ i = subst (λ q. heard_of s q m h ≡ i) there number in
      omega (arith, same) where
        by : (o : Option ℕ) → option_map (λ _. heard_of s t.resource m h) o ≡ Some i → heard_of s t.resource m h ≡ i
        by None e = absurd (none-some i e)
        by (Some z) e = same_Some (heard_of s t.resource m h) i e

-- each entry has heard one number for each resource
pub heard-many : (s : Setting) (h : List Event) (log : List Evaluated) → IsLog s h log → (y : Evaluated) → Among y log → length y.heard ≡ length s.first
heard-many s [] [] is y among = elim among [ ]
heard-many s [] (x ∷ older) is y among = absurd is
heard-many s (Deliver k n ∷ h) log is y among = heard-many s h log is y among
heard-many s (Restart n ∷ h) log is y among = heard-many s h log is y among
heard-many s (Hear n o i ∷ h) log is y among = heard-many s h log is y among
heard-many s (Evaluate k t dt inputs ∷ h) [] is y among = absurd is
heard-many s (Evaluate k t dt inputs ∷ h) (x ∷ older) is y (inr among) = heard-many s h older is.0 y among
heard-many s (Evaluate k t dt inputs ∷ h) (x ∷ older) is y (inl same) =
    ap (λ (z : Evaluated). length z.heard) (sym same) ∙ ap length (heard-is s h older k t dt inputs x is.1) ∙ length-heard s t.resource h

-- how what is heard changes with each event, as a list
abbrev pub with_heard : List ℕ → ℕ → ℕ → List ℕ
with_heard heard o i = slice_set heard o (max i (slice_index heard o))

-- by places
same-heard : (s : Setting) (n : ℕ) (h g : List Event) → ((m : ℕ) → heard_of s n m g ≡ heard_of s n m h) → heard_by s n g ≡ heard_by s n h
same-heard s n h g same = same_by_slice_get (heard_by s n g) (heard_by s n h) (λ m. heard-get s n m g ∙ ap (λ j. option_map (λ _. j) (slice_get s.first m)) (same m) ∙ sym (heard-get s n m h))

pub heard-other_restart : (s : Setting) (n m : ℕ) (h : List Event) → eqb m n ≡ false → heard_by s n (Restart m ∷ h) ≡ heard_by s n h
heard-other_restart s n m h other = same-heard s n h (Restart m ∷ h) (λ j. by j (eqb j n)) where
  by : (j : ℕ) (b : Bool) → cond b (incarnation_of s n (Restart m ∷ h)) (greatest (slice_index s.first j) (filter_map (heard_in n j) (cond (eqb m n) [] (Restart m ∷ since_restart n h)))) ≡ cond b (incarnation_of s n h) (greatest (slice_index s.first j) (hearings_of n j h))
  by j true = rw other refl
  by j false = rw other refl

pub heard-other_hear : (s : Setting) (n m o i : ℕ) (h : List Event) → eqb m n ≡ false → heard_by s n (Hear m o i ∷ h) ≡ heard_by s n h
heard-other_hear s n m o i h other = same-heard s n h (Hear m o i ∷ h) (λ j. by j (eqb j n)) where
  by : (j : ℕ) (b : Bool) → cond b (incarnation_of s n h) (greatest (slice_index s.first j) (cons_option (cond (eqb m n && eqb o j) (Some i) None) (hearings_of n j h))) ≡ cond b (incarnation_of s n h) (greatest (slice_index s.first j) (hearings_of n j h))
  by j true = refl
  by j false = rw other refl

pub heard-own_hear : (s : Setting) (n i : ℕ) (h : List Event) → heard_by s n (Hear n n i ∷ h) ≡ heard_by s n h
heard-own_hear s n i h = same-heard s n h (Hear n n i ∷ h) (λ j. by j (eqb j n) refl) where
  by : (j : ℕ) (b : Bool) → eqb j n ≡ b → cond b (incarnation_of s n h) (greatest (slice_index s.first j) (cons_option (cond (eqb n n && eqb n j) (Some i) None) (hearings_of n j h))) ≡ cond b (incarnation_of s n h) (greatest (slice_index s.first j) (hearings_of n j h))
  by j true e = refl
  by j false e = rw (eq-eqb n n refl, ne_eqb n j (λ f. false≢true (sym e ∙ eq-eqb j n (sym f)))) refl

within-or-not : (xs : List ℕ) (m : ℕ) → (slice_get xs m ≡ None) ⊎ ((x : ℕ) × (slice_get xs m ≡ Some x))
within-or-not [] m = inl refl
within-or-not (x ∷ xs) zero = inr (x, refl)
within-or-not (x ∷ xs) (suc m) = within-or-not xs m

pub heard-restart : (s : Setting) (n : ℕ) (h : List Event) → heard_by s n (Restart n ∷ h) ≡ slice_set s.first n (incarnation_of s n h + 1)
heard-restart s n h = same_by_slice_get (heard_by s n (Restart n ∷ h)) (slice_set s.first n (incarnation_of s n h + 1)) (λ m. heard-get s n m (Restart n ∷ h) ∙ by m (eqb m n) refl (within-or-not s.first m)) where
  up : incarnation_of s n (Restart n ∷ h) ≡ incarnation_of s n h + 1
  up = rw (eq-eqb n n refl) (omega arith)

  by : (m : ℕ) (b : Bool) → eqb m n ≡ b → (slice_get s.first m ≡ None) ⊎ ((x : ℕ) × (slice_get s.first m ≡ Some x))
      → option_map (λ _. cond b (incarnation_of s n (Restart n ∷ h)) (greatest (slice_index s.first m) (filter_map (heard_in n m) (cond (eqb n n) [] (Restart n ∷ since_restart n h))))) (slice_get s.first m) ≡ slice_get (slice_set s.first n (incarnation_of s n h + 1)) m
  by m b e (inl none) = ap (option_map (λ _. cond b (incarnation_of s n (Restart n ∷ h)) (greatest (slice_index s.first m) (filter_map (heard_in n m) (cond (eqb n n) [] (Restart n ∷ since_restart n h)))))) none ∙ sym (set-none s.first n m (incarnation_of s n h + 1) none)
  by m true e (inr some) =
      ap (option_map (λ _. incarnation_of s n (Restart n ∷ h))) some.1 ∙ ap (λ (i : ℕ). Some i) up
      ∙ sym (subst (λ k. slice_get (slice_set s.first n (incarnation_of s n h + 1)) k ≡ Some (incarnation_of s n h + 1)) (sym (eqb-true m n e))
      (slice_get-set_same s.first n (incarnation_of s n h + 1) (subst (λ k. k < length s.first) (eqb-true m n e) (slice_get_within s.first m some.0 some.1))))
  by m false e (inr some) =
      ap (option_map (λ _. greatest (slice_index s.first m) (filter_map (heard_in n m) (cond (eqb n n) [] (Restart n ∷ since_restart n h))))) some.1
      ∙ ap (λ b. Some (greatest (slice_index s.first m) (filter_map (heard_in n m) (cond b [] (Restart n ∷ since_restart n h))))) (eq-eqb n n refl)
      ∙ ap (λ (i : ℕ). Some i) (index_at s.first m some.0 some.1) ∙ sym some.1 ∙ sym (slice_get-set_other s.first n m (incarnation_of s n h + 1) (eqb-false m n e))

pub heard-hear : (s : Setting) (n o i : ℕ) (h : List Event) → eqb o n ≡ false → heard_by s n (Hear n o i ∷ h) ≡ with_heard (heard_by s n h) o i
heard-hear s n o i h away = same_by_slice_get (heard_by s n (Hear n o i ∷ h)) (with_heard (heard_by s n h) o i) (λ m. heard-get s n m (Hear n o i ∷ h) ∙ by m (eqb o m) refl (within-or-not s.first m)) where
  there : (x : ℕ) → slice_get s.first o ≡ Some x → slice_get (heard_by s n h) o ≡ Some (heard_of s n o h)
  there x e = heard-get s n o h ∙ ap (option_map (λ _. heard_of s n o h)) e

  grown : cond (eqb o n) (incarnation_of s n h) (greatest (slice_index s.first o) (cons_option (cond (eqb n n && eqb o o) (Some i) None) (hearings_of n o h))) ≡ max i (heard_of s n o h)
  grown =
      ap (λ b. cond b (incarnation_of s n h) (greatest (slice_index s.first o) (cons_option (cond (eqb n n && eqb o o) (Some i) None) (hearings_of n o h)))) away
      ∙ ap (λ b. greatest (slice_index s.first o) (cons_option (cond (b && eqb o o) (Some i) None) (hearings_of n o h))) (eq-eqb n n refl)
      ∙ ap (λ b. greatest (slice_index s.first o) (cons_option (cond b (Some i) None) (hearings_of n o h))) (eq-eqb o o refl)
      ∙ ap (max i) (sym (ap (λ b. cond b (incarnation_of s n h) (greatest (slice_index s.first o) (hearings_of n o h))) away))

  off : (a : Bool) → (a && false) ≡ false
  off true = refl
  off false = refl

  unchanged : (m : ℕ) → eqb o m ≡ false → heard_of s n m (Hear n o i ∷ h) ≡ heard_of s n m h
  unchanged m e = ap (λ c. cond (eqb m n) (incarnation_of s n h) (greatest (slice_index s.first m) (cons_option (cond c (Some i) None) (hearings_of n m h)))) (ap (λ b. eqb n n && b) e ∙ off (eqb n n))

  by : (m : ℕ) (b : Bool) → eqb o m ≡ b → (slice_get s.first m ≡ None) ⊎ ((x : ℕ) × (slice_get s.first m ≡ Some x))
      → option_map (λ _. heard_of s n m (Hear n o i ∷ h)) (slice_get s.first m) ≡ slice_get (with_heard (heard_by s n h) o i) m
  by m b e (inl none) =
      ap (option_map (λ _. heard_of s n m (Hear n o i ∷ h))) none
      ∙ sym (set-none (heard_by s n h) o m (max i (slice_index (heard_by s n h) o)) (heard-get s n m h ∙ ap (option_map (λ _. heard_of s n m h)) none))
  by m true e (inr some) =
      let same : o ≡ m = eqb-true o m e in
      let first : slice_get s.first o ≡ Some some.0 = ap (slice_get s.first) same ∙ some.1 in
      subst (λ k. option_map (λ _. heard_of s n k (Hear n o i ∷ h)) (slice_get s.first k) ≡ slice_get (with_heard (heard_by s n h) o i) k) same
      (ap (option_map (λ _. heard_of s n o (Hear n o i ∷ h))) first ∙ ap (λ (j : ℕ). Some j) (grown ∙ ap (max i) (sym (index_at (heard_by s n h) o (heard_of s n o h) (there some.0 first))))
      ∙ sym (slice_get-set_same (heard_by s n h) o (max i (slice_index (heard_by s n h) o)) (slice_get_within (heard_by s n h) o (heard_of s n o h) (there some.0 first))))
  by m false e (inr some) =
      ap (λ j. option_map (λ _. j) (slice_get s.first m)) (unchanged m e) ∙ sym (heard-get s n m h)
      ∙ sym (slice_get-set_other (heard_by s n h) o m (max i (slice_index (heard_by s n h) o)) (λ f. false≢true (sym e ∙ eq-eqb o m (sym f))))

pub heard-fresh : (s : Setting) (n : ℕ) → heard_by s n [] ≡ s.first
heard-fresh s n = same_by_slice_get (heard_by s n []) s.first (λ m. heard-get s n m [] ∙ by m (eqb m n) refl (within-or-not s.first m)) where
  by : (m : ℕ) (b : Bool) → eqb m n ≡ b → (slice_get s.first m ≡ None) ⊎ ((x : ℕ) × (slice_get s.first m ≡ Some x)) → option_map (λ _. cond b (incarnation_of s n []) (slice_index s.first m)) (slice_get s.first m) ≡ slice_get s.first m
  by m b e (inl none) = ap (option_map (λ _. cond b (incarnation_of s n []) (slice_index s.first m))) none ∙ sym none
  by m true e (inr some) =
      let same : incarnation_of s n [] ≡ some.0 = (let at = index_at s.first n some.0 (ap (slice_get s.first) (sym (eqb-true m n e)) ∙ some.1) in omega (arith, at)) in
      ap (option_map (λ _. incarnation_of s n [])) some.1 ∙ ap (λ (i : ℕ). Some i) same ∙ sym some.1
  by m false e (inr some) = ap (option_map (λ _. slice_index s.first m)) some.1 ∙ ap (λ (i : ℕ). Some i) (index_at s.first m some.0 some.1) ∙ sym some.1
