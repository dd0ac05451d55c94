-- Each test of a book tells whether its clause holds.
use Rattle.std.proofs.Common.{◌≡◌, arith, inl, inr, ℕ, zero, suc, ◌+◌, ◌<◌, ◌≤◌, Bool, true, false, cond, ◌&&◌, ◌||◌, List, [], ◌∷◌, length, Option, Some, None, refl, ap, sym, ◌∙◌, subst, eqb, ltb, leb}
use Rattle.std.specs.Prelude.{not, is_some, MatchOption}
use Rattle.std.specs.Bool.{Decides}
use Rattle.std.specs.List.{list_all, list_any, find}
use Rattle.std.proofs.lemmas.Bool.{false≢true}
use Rattle.std.proofs.lemmas.Bool.Decides.{nat_tests, Decides-eqb, Decides-int_eq, Decides-ltb}
use Rattle.std.proofs.lemmas.Bool.{leb-true, le-leb}
use Rattle.std.proofs.lemmas.Slice.Eq.{slice_eq-Decides}
use Rattle.std_blocks.specs.declared.value.Value.{Value}
use Rattle.std_blocks.specs.declared.value.Value.TheVariants.{Bool as On, Int, Time}
use Rattle.lists.proofs.Each.{Each-at}
use Rattle.lists.proofs.Orders.{not_below-onward}
use Rattle.lists.proofs.Tables.{both_same, both_itself}
use Rattle.task_codes.specs.declared.task_ref.TaskRef.{TaskRef}
use Rattle.evaluation.specs.declared.name.Name.{Name}
use Rattle.evaluation.specs.declared.take.Take.{Take}
use Rattle.evaluation.specs.Meaning.{Evaluated}
use Rattle.evaluation.specs.Last.{same_task, last_number, from_of}
use Rattle.std.specs.List.{AllByRecursion}
use Rattle.lists.specs.Among.{Among}
use Rattle.book.specs.Fits.{last_in, present_in, name_from, is_below, HasImage, IsNotBackFrom, IsNumbered, IsKnown, IsUntorn, IsNotBack, IsOwnLatest, IsAddressed, IsMeantFor, NoneBelow, HasHeardNoMore, IsWellHeard, AllFit}
use Rattle.book.proofs.Presents.{lows, below_lows}
use Rattle.book.specs.Steps.Deciding.{same_name, is_named, same_value, same_values, same_from, is_of_task, if_of, newest_in, is_numbered, has_named, known_from, is_known, keeps_image, untorn_from, is_untorn, takes_from, keeps_take, keeps_takes, is_not_back, is_own_latest, keeps_address, addressed_from, is_addressed_to, none_below, is_of_resource, keeps_heard, is_well_heard}

-- a test that is true just where this holds
pub record IsTest (b : Bool) (P : Type 0) : Type 0 where
  pub holds : b ≡ true → P
  pub passes : P → b ≡ true

test-of : (b : Bool) (P : Type 0) → Decides b P → IsTest b P
test-of b P d = record { holds = d.0; passes = d.1 }

test-same : (a b : ℕ) → IsTest (eqb a b) (a ≡ b)
test-same a b = test-of _ _ (Decides-eqb a b)

test-below : (a b : ℕ) → IsTest (ltb a b) (a < b)
test-below a b = test-of _ _ (Decides-ltb a b)

test-most : (a b : ℕ) → IsTest (leb a b) (a ≤ b)
test-most a b = record { holds = leb-true a b; passes = le-leb a b }

test-then : (a b : Bool) (P Q : Type 0) → IsTest a P → (P → IsTest b Q) → IsTest (a && b) (P × Q)
test-then true b P Q p q = record { holds = λ e. (p.holds refl, (q (p.holds refl)).holds e); passes = λ h. (q (p.holds refl)).passes h.1 }
test-then false b P Q p q = record { holds = λ e. absurd (false≢true e); passes = λ h. p.passes h.0 }

test-if : (a b : Bool) (P Q : Type 0) → IsTest a P → (P → IsTest b Q) → IsTest (not a || b) (P → Q)
test-if true b P Q p q = record { holds = λ e. λ h. (q h).holds e; passes = λ h. (q (p.holds refl)).passes (h (p.holds refl)) }
test-if false b P Q p q = record { holds = λ e. λ h. absurd (false≢true (p.passes h)); passes = λ h. refl }

test-and : (a b : Bool) (P Q : Type 0) → IsTest a P → IsTest b Q → IsTest (a && b) (P × Q)
test-and true b P Q p q = record { holds = λ e. (p.holds refl, q.holds e); passes = λ h. q.passes h.1 }
test-and false b P Q p q = record { holds = λ e. absurd (false≢true e); passes = λ h. p.passes h.0 }

test-implies : (a b : Bool) (P Q : Type 0) → IsTest a P → IsTest b Q → IsTest (not a || b) (P → Q)
test-implies true b P Q p q = record { holds = λ e. λ _. q.holds e; passes = λ h. q.passes (h (p.holds refl)) }
test-implies false b P Q p q = record { holds = λ e. λ h. absurd (false≢true (p.passes h)); passes = λ h. refl }

test-unless : (a b : Bool) (P Q : Type 0) → IsTest a P → ((P → ⊥) → IsTest b Q) → IsTest (a || b) ((P → ⊥) → Q)
test-unless true b P Q p q = record { holds = λ e. λ h. absurd (h (p.holds refl)); passes = λ h. refl }
test-unless false b P Q p q = record { holds = λ e. λ h. (q h).holds e; passes = λ h. (q apart).passes (h apart) } where
  apart : P → ⊥
  apart x = false≢true (p.passes x)

test-not : (b : Bool) → IsTest (not b) (b ≡ false)
test-not true = record { holds = λ e. absurd (false≢true e); passes = λ e. absurd (false≢true (sym e)) }
test-not false = record { holds = λ e. refl; passes = λ e. refl }

pub test-each : {X : Type 0} (f : X → Bool) (P : X → Type 0) → ((x : X) → IsTest (f x) (P x)) → (xs : List X) → IsTest (list_all f xs) (AllByRecursion P xs)
test-each f P each [] = record { holds = λ e. tt; passes = λ h. refl }
test-each f P each (x ∷ xs) = test-and (f x) (list_all f xs) (P x) (AllByRecursion P xs) (each x) (test-each f P each xs)

pub each-map : {X : Type 0} (P Q : X → Type 0) → ((x : X) → P x → Q x) → (xs : List X) → AllByRecursion P xs → AllByRecursion Q xs
each-map P Q more [] all = tt
each-map P Q more (x ∷ xs) all = (more x all.0, each-map P Q more xs all.1)

-- the task of a resource that two numbers name
abbrev task_ref : ℕ → ℕ → TaskRef
task_ref resource task = record { resource = resource; task = task }

pub test-task : (a b : TaskRef) → IsTest (same_task a b) (a ≡ b)
test-task a b =
    record { holds = both_same task_ref a.resource a.task b.resource b.task; passes = λ e. subst (λ c. same_task a c ≡ true) e (both_itself a.resource a.task) }

pub test-name : (a b : Name) → IsTest (same_name a b) (a ≡ b)
test-name a b = record { holds = λ e. whole (parts.holds e); passes = λ e. parts.passes (ap (λ n. n.task) e, (ap (λ n. n.incarnation) e, ap (λ n. n.number) e)) } where
  parts : IsTest (same_name a b) ((a.task ≡ b.task) × ((a.incarnation ≡ b.incarnation) × (a.number ≡ b.number)))
  parts = test-and _ _ _ _ (test-task a.task b.task) (test-and _ _ _ _ (test-same a.incarnation b.incarnation) (test-same a.number b.number))

  whole : (a.task ≡ b.task) × ((a.incarnation ≡ b.incarnation) × (a.number ≡ b.number)) → a ≡ b
  whole h = rw (h.0, h.1.0, h.1.1) refl

Decides-value : (a b : Value) → Decides (same_value a b) (a ≡ b)
Decides-value (On true) (On true) = (λ e. refl, λ e. refl)
Decides-value (On true) (On false) = (λ e. absurd (false≢true e), λ e. cc)
Decides-value (On false) (On true) = (λ e. absurd (false≢true e), λ e. cc)
Decides-value (On false) (On false) = (λ e. refl, λ e. refl)
Decides-value (On a) (Int b) = (λ e. absurd (false≢true e), λ e. cc)
Decides-value (On a) (Time b) = (λ e. absurd (false≢true e), λ e. cc)
Decides-value (Int a) (On b) = (λ e. absurd (false≢true e), λ e. cc)
Decides-value (Int a) (Int b) = (λ e. ap (λ n. Int n) ((Decides-int_eq a b).0 e), λ e. (Decides-int_eq a b).1 cc)
Decides-value (Int a) (Time b) = (λ e. absurd (false≢true e), λ e. cc)
Decides-value (Time a) (On b) = (λ e. absurd (false≢true e), λ e. cc)
Decides-value (Time a) (Int b) = (λ e. absurd (false≢true e), λ e. cc)
Decides-value (Time a) (Time b) = (λ e. ap (λ n. Time n) ((Decides-eqb a b).0 e), λ e. (Decides-eqb a b).1 cc)

pub Decides-values : (a b : List Value) → Decides (same_values a b) (a ≡ b)
Decides-values a b = slice_eq-Decides Decides-value a b (same_values a b) refl

test-values : (a b : List Value) → IsTest (same_values a b) (a ≡ b)
test-values a b = test-of _ _ (Decides-values a b)

test-from : (a b : Option (ℕ × ℕ)) → IsTest (same_from a b) (a ≡ b)
test-from None None = record { holds = λ e. refl; passes = λ e. refl }
test-from None (Some b) = record { holds = λ e. absurd (false≢true e); passes = λ e. cc }
test-from (Some a) None = record { holds = λ e. absurd (false≢true e); passes = λ e. cc }
test-from (Some a) (Some b) = by (test-and _ _ _ _ (test-same a.0 b.0) (test-same a.1 b.1)) where
  by : IsTest (eqb a.0 b.0 && eqb a.1 b.1) ((a.0 ≡ b.0) × (a.1 ≡ b.1)) → IsTest (eqb a.0 b.0 && eqb a.1 b.1) (◌≡◌ {A = Option (ℕ × ℕ)} (Some a) (Some b))
  by d = record { holds = λ e. rw ((d.holds e).0, (d.holds e).1) refl; passes = λ e. d.passes (ap (λ p. p.0) (some e), ap (λ p. p.1) (some e)) } where
    some : ◌≡◌ {A = Option (ℕ × ℕ)} (Some a) (Some b) → a ≡ b
    some e = cc

-- no entry of a task in an incarnation has a greater number than the last one
pub last-greatest : (first : List ℕ) (older : List Evaluated) → AllFit first older → (t : TaskRef) (i : ℕ)
    → AllByRecursion (λ (y : Evaluated). y.name.task ≡ t → y.name.incarnation ≡ i → y.name.number ≤ last_number (last_in older t i)) older
last-greatest first [] fit t i = tt
last-greatest first (x ∷ older) fit t i =
    by (same_task x.name.task t && eqb x.name.incarnation i) (test-and _ _ _ _ (test-task x.name.task t) (test-same x.name.incarnation i)) (last-greatest first older fit.1 t i) where
      by : (b : Bool) → IsTest b ((x.name.task ≡ t) × (x.name.incarnation ≡ i)) → AllByRecursion (λ (y : Evaluated). y.name.task ≡ t → y.name.incarnation ≡ i → y.name.number ≤ last_number (last_in older t i)) older
          → AllByRecursion (λ (y : Evaluated). y.name.task ≡ t → y.name.incarnation ≡ i → y.name.number ≤ last_number (cond b (Some x) (last_in older t i))) (x ∷ older)
      by true d ih = (λ _ _. omega arith, each-map _ _ (λ y low own now. let under = low own now in omega (arith, next, under)) older ih) where
        next : x.name.number ≡ last_number (last_in older t i) + 1
        next = subst (λ j. x.name.number ≡ last_number (last_in older t j) + 1) (d.holds refl).1 (subst (λ s. x.name.number ≡ last_number (last_in older s x.name.incarnation) + 1) (d.holds refl).0 fit.0.numbered.next)
      by false d ih = (λ own now. absurd (false≢true (d.passes (own, now))), ih)

-- no entry has the name of a later one
pub names-differ : (first : List ℕ) (older : List Evaluated) (x : Evaluated) → AllFit first (x ∷ older) → AllByRecursion (λ (y : Evaluated). y.name ≡ x.name → ⊥) older
names-differ first older x fit = each-map _ _ apart older (last-greatest first older fit.1 x.name.task x.name.incarnation) where
  apart : (y : Evaluated) → (y.name.task ≡ x.name.task → y.name.incarnation ≡ x.name.incarnation → y.name.number ≤ last_number (last_in older x.name.task x.name.incarnation)) → y.name ≡ x.name → ⊥
  apart y low same =
      let under = low (ap (λ (n : Name). n.task) same) (ap (λ (n : Name). n.incarnation) same) in
      let number : y.name.number ≡ x.name.number = ap (λ (n : Name). n.number) same in
      omega (arith, under, number, fit.0.numbered.next)

abbrev pub IsLow : ℕ → ℕ → Evaluated → Type 0
IsLow n i y = y.name.task.resource ≡ n → y.name.incarnation ≤ i

last_in-none : (t : TaskRef) (i : ℕ) (older : List Evaluated) → AllByRecursion (λ (y : Evaluated). y.name.task ≡ t → y.name.incarnation < i) older → last_in older t i ≡ None
last_in-none t i [] low = refl
last_in-none t i (x ∷ older) low =
    by (same_task x.name.task t && eqb x.name.incarnation i) (test-and _ _ _ _ (test-task x.name.task t) (test-same x.name.incarnation i)) (last_in-none t i older low.1) where
      by : (b : Bool) → IsTest b ((x.name.task ≡ t) × (x.name.incarnation ≡ i)) → last_in older t i ≡ None → cond b (Some x) (last_in older t i) ≡ None
      by true d ih = let under = low.0 (d.holds refl).0 in let same = (d.holds refl).1 in absurd (omega (arith, under, same))
      by false d ih = ih

-- where no entry of the resource is of a greater incarnation, the newest entry of a task, if it is of this incarnation, is the last one in it
newest-last : (first : List ℕ) (older : List Evaluated) → AllFit first older → (t : TaskRef) (i : ℕ) → AllByRecursion (IsLow t.resource i) older → newest_in older t i ≡ last_in older t i
newest-last first [] fit t i low = refl
newest-last first (x ∷ older) fit t i low = by (same_task x.name.task t) (test-task x.name.task t) (newest-last first older fit.1 t i low.1) where
  by : (b : Bool) → IsTest b (x.name.task ≡ t) → newest_in older t i ≡ last_in older t i → if_of i (cond b (Some x) (find (is_of_task t) older)) ≡ cond (b && eqb x.name.incarnation i) (Some x) (last_in older t i)
  by false d ih = ih
  by true d ih = now (eqb x.name.incarnation i) (test-same x.name.incarnation i) where
    same : x.name.task.resource ≡ t.resource
    same = ap (λ (p : TaskRef). p.resource) (d.holds refl)

    now : (b : Bool) → IsTest b (x.name.incarnation ≡ i) → cond b (Some x) None ≡ cond b (Some x) (last_in older t i)
    now true e = refl
    now false e = sym (last_in-none t i older (each-map _ _ earlier older (lows first older x.name fit.0.numbered))) where
      earlier : (y : Evaluated) → (y.name.task.resource ≡ x.name.task.resource → y.name.incarnation ≤ x.name.incarnation) → y.name.task ≡ t → y.name.incarnation < i
      earlier y below own =
          let under = below (ap (λ (p : TaskRef). p.resource) own ∙ sym same) in
          let high = low.0 same in
          let apart : x.name.incarnation ≡ i → ⊥ = λ h. false≢true (e.passes h) in
          omega (arith, under, high, apart)

-- the first clause
pub test-numbered : (first : List ℕ) (older : List Evaluated) → AllFit first older → (name : Name) → IsTest (is_numbered first older name) (IsNumbered first older name)
test-numbered first older fit name =
    record {
      holds = λ e. let h = all.holds e in record { exists = h.0; not_below_present = h.1.0; next = h.1.1 };
      passes = λ n. all.passes (n.exists, (n.not_below_present, n.next));
    } where
      next : AllByRecursion (IsLow name.task.resource name.incarnation) older → IsTest (eqb name.number (last_number (newest_in older name.task name.incarnation) + 1)) (name.number ≡ last_number (last_in older name.task name.incarnation) + 1)
      next low = subst (λ l. IsTest (eqb name.number (last_number l + 1)) (name.number ≡ last_number (last_in older name.task name.incarnation) + 1)) (sym (newest-last first older fit name.task name.incarnation low)) (test-same name.number _)

      all : IsTest (is_numbered first older name) ((name.task.resource < length first) × ((present_in first older name.task.resource ≤ name.incarnation)
          × (name.number ≡ last_number (last_in older name.task name.incarnation) + 1)))
      all = test-and _ _ _ _ (test-below _ _) (test-then _ _ _ _ (test-most _ _) (λ h. next (below_lows first older name h)))

-- the second clause
test-named : (name : Name) (older : List Evaluated) → IsTest (has_named older name) ((y : Evaluated) × Among y older × (y.name ≡ name))
test-named name [] = record { holds = λ e. absurd (false≢true e); passes = λ h. elim h.1 [ ] }
test-named name (x ∷ older) = by (same_name x.name name) (test-name x.name name) (test-named name older) where
  by : (b : Bool) → IsTest b (x.name ≡ name) → IsTest (has_named older name) ((y : Evaluated) × Among y older × (y.name ≡ name))
      → IsTest (is_some (cond b (Some x) (find (is_named name) older))) ((y : Evaluated) × Among y (x ∷ older) × (y.name ≡ name))
  by true d ih = record { holds = λ e. (x, inl refl, d.holds refl); passes = λ h. refl }
  by false d ih = record { holds = λ e. wider (ih.holds e); passes = λ h. narrower h.0 h.1 h.2 } where
    wider : (y : Evaluated) × Among y older × (y.name ≡ name) → (y : Evaluated) × Among y (x ∷ older) × (y.name ≡ name)
    wider h = (h.0, inr h.1, h.2)

    narrower : (y : Evaluated) → Among y (x ∷ older) → y.name ≡ name → has_named older name ≡ true
    narrower y (inl same) e = absurd (false≢true (d.passes (ap (λ (z : Evaluated). z.name) same ∙ e)))
    narrower y (inr among) e = ih.passes (y, among, e)

pub test-known : (older : List Evaluated) (t : Take) → IsTest (is_known older t) (IsKnown older t)
test-known older t = by t.from where
  by : (from : Option (ℕ × ℕ)) → IsTest (known_from older t.producer from) (MatchOption from (Unit {0}) (λ f. (y : Evaluated) × Among y older × (y.name ≡ name_from t.producer f)))
  by None = record { holds = λ e. tt; passes = λ h. refl }
  by (Some f) = test-named (name_from t.producer f) older

-- the third clause
test-image : (first : List ℕ) (older : List Evaluated) → AllFit first older → (name : Name) (image : List Value)
    → IsTest (keeps_image image (find (is_named name) older)) (AllByRecursion (λ (y : Evaluated). y.name ≡ name → image ≡ y.outputs) older)
test-image first [] fit name image = record { holds = λ e. tt; passes = λ h. refl }
test-image first (x ∷ older) fit name image = by (same_name x.name name) (test-name x.name name) (test-image first older fit.1 name image) where
  by : (b : Bool) → IsTest b (x.name ≡ name) → IsTest (keeps_image image (find (is_named name) older)) (AllByRecursion (HasImage name image) older)
      → IsTest (keeps_image image (cond b (Some x) (find (is_named name) older))) (AllByRecursion (HasImage name image) (x ∷ older))
  by true d ih = record { holds = λ e. (λ _. (test-values image x.outputs).holds e, each-map _ _ other older (names-differ first older x fit)); passes = λ h. (test-values image x.outputs).passes (h.0 (d.holds refl)) } where
    other : (y : Evaluated) → (y.name ≡ x.name → ⊥) → y.name ≡ name → image ≡ y.outputs
    other y apart own = absurd (apart (own ∙ sym (d.holds refl)))
  by false d ih = record { holds = λ e. (λ own. absurd (false≢true (d.passes own)), ih.holds e); passes = λ h. ih.passes h.1 }

pub test-untorn : (first : List ℕ) (older : List Evaluated) → AllFit first older → (t : Take) → IsTest (is_untorn older t) (IsUntorn older t)
test-untorn first older fit t = by t.from where
  by : (from : Option (ℕ × ℕ)) → IsTest (untorn_from older t.producer t.image from) (MatchOption from (Unit {0}) (λ f. AllByRecursion (λ (y : Evaluated). y.name ≡ name_from t.producer f → t.image ≡ y.outputs) older))
  by None = record { holds = λ e. tt; passes = λ h. refl }
  by (Some f) = test-image first older fit (name_from t.producer f) t.image

-- the fourth clause
below-onward : (e f g : ℕ × ℕ) → is_below (Some e) (Some f) ≡ false → is_below (Some f) (Some g) ≡ false → is_below (Some e) (Some g) ≡ false
below-onward e f g h k = grind (arith, nat_tests)

test-takes : (t : Take) (us : List Take) → IsTest (list_all (keeps_take t) us) (AllByRecursion (λ (u : Take). u.producer ≡ t.producer → is_below t.from u.from ≡ false) us)
test-takes t us =
    test-each (keeps_take t) (λ (u : Take). u.producer ≡ t.producer → is_below t.from u.from ≡ false)
    (λ u. test-implies _ _ _ _ (test-task u.producer t.producer) (test-not (is_below t.from u.from))) us

-- an entry that takes from a producer
test-taking : (q : TaskRef) (us : List Take) → IsTest (list_any (λ (u : Take). same_task u.producer q) us) ((u : Take) × Among u us × (u.producer ≡ q))
test-taking q [] = record { holds = λ e. absurd (false≢true e); passes = λ h. elim h.1 [ ] }
test-taking q (u ∷ us) = by (same_task u.producer q) (test-task u.producer q) (test-taking q us) where
  by : (b : Bool) → IsTest b (u.producer ≡ q) → IsTest (list_any (λ (u : Take). same_task u.producer q) us) ((v : Take) × Among v us × (v.producer ≡ q))
      → IsTest (b || list_any (λ (u : Take). same_task u.producer q) us) ((v : Take) × Among v (u ∷ us) × (v.producer ≡ q))
  by true d ih = record { holds = λ e. (u, inl refl, d.holds refl); passes = λ h. refl }
  by false d ih = record { holds = λ e. wider (ih.holds e); passes = λ h. narrower h.0 h.1 h.2 } where
    wider : (v : Take) × Among v us × (v.producer ≡ q) → (v : Take) × Among v (u ∷ us) × (v.producer ≡ q)
    wider h = (h.0, inr h.1, h.2)

    narrower : (v : Take) → Among v (u ∷ us) → v.producer ≡ q → list_any (λ (u : Take). same_task u.producer q) us ≡ true
    narrower v (inl same) e = absurd (false≢true (d.passes (ap (λ (w : Take). w.producer) same ∙ e)))
    narrower v (inr among) e = ih.passes (v, among, e)

test-taker : (n : ℕ) (q : TaskRef) (y : Evaluated) → IsTest (takes_from n q y) ((y.name.task.resource ≡ n) × ((u : Take) × Among u y.takes × (u.producer ≡ q)))
test-taker n q y = test-and _ _ _ _ (test-same _ _) (test-taking q y.takes)

test-kept : (first : List ℕ) (older : List Evaluated) → AllFit first older → (name : Name) → AllByRecursion (IsLow name.task.resource name.incarnation) older → (t : Take) → (t.producer.resource ≡ name.task.resource → ⊥)
    → IsTest (keeps_takes name.incarnation t (find (takes_from name.task.resource t.producer) older)) (AllByRecursion (IsNotBackFrom name t) older)
test-kept first [] fit name low t other = record { holds = λ e. tt; passes = λ h. refl }
test-kept first (x ∷ older) fit name low t other = by (takes_from name.task.resource t.producer x) (test-taker name.task.resource t.producer x) (test-kept first older fit.1 name low.1 t other) where
  by : (b : Bool) → IsTest b ((x.name.task.resource ≡ name.task.resource) × ((u : Take) × Among u x.takes × (u.producer ≡ t.producer)))
      → IsTest (keeps_takes name.incarnation t (find (takes_from name.task.resource t.producer) older)) (AllByRecursion (IsNotBackFrom name t) older)
      → IsTest (keeps_takes name.incarnation t (cond b (Some x) (find (takes_from name.task.resource t.producer) older))) (AllByRecursion (IsNotBackFrom name t) (x ∷ older))
  by true d ih = now (eqb x.name.incarnation name.incarnation) (test-same x.name.incarnation name.incarnation) where
    taken : (x.name.task.resource ≡ name.task.resource) × ((u : Take) × Among u x.takes × (u.producer ≡ t.producer))
    taken = d.holds refl

    apart : taken.1.0.producer.resource ≡ x.name.task.resource → ⊥
    apart e = other (ap (λ (p : TaskRef). p.resource) (sym taken.1.2) ∙ e ∙ taken.0)

    above : list_all (keeps_take t) x.takes ≡ true → is_below t.from taken.1.0.from ≡ false
    above e = Each-at _ x.takes taken.1.0 ((test-takes t x.takes).holds e) taken.1.1 taken.1.2

    later : x.name.incarnation ≡ name.incarnation → (y : Evaluated)
        → (y.name.task.resource ≡ x.name.task.resource → y.name.incarnation ≡ x.name.incarnation → AllByRecursion (λ (u : Take). u.producer ≡ taken.1.0.producer → is_below taken.1.0.from u.from ≡ false) y.takes)
        → is_below t.from taken.1.0.from ≡ false → IsNotBackFrom name t y
    later same y kept high own at =
        each-map _ _ (λ u under alike. not_below-onward is_below (λ o. refl) (λ f. refl) below-onward t.from taken.1.0.from u.from high (under (alike ∙ sym taken.1.2))) y.takes
        (kept (own ∙ sym taken.0) (at ∙ sym same))

    now : (b : Bool) → IsTest b (x.name.incarnation ≡ name.incarnation) → IsTest (not b || list_all (keeps_take t) x.takes) (AllByRecursion (IsNotBackFrom name t) (x ∷ older))
    now true same =
        record {
          holds = λ e. (λ _ _. (test-takes t x.takes).holds e, each-map _ _ (λ y kept. later (same.holds refl) y kept (above e)) older (Each-at _ x.takes taken.1.0 fit.0.not_back taken.1.1 apart));
          passes = λ h. (test-takes t x.takes).passes (h.0 taken.0 (same.holds refl));
        }
    now false differs = record { holds = λ _. (λ own at. absurd (false≢true (differs.passes at)), each-map _ _ earlier older (lows first older x.name fit.0.numbered)); passes = λ _. refl } where
      earlier : (y : Evaluated) → (y.name.task.resource ≡ x.name.task.resource → y.name.incarnation ≤ x.name.incarnation) → IsNotBackFrom name t y
      earlier y below own at =
          let under = below (own ∙ sym taken.0) in
          let high = low.0 taken.0 in
          let unlike : x.name.incarnation ≡ name.incarnation → ⊥ = λ h. false≢true (differs.passes h) in
          absurd (omega (arith, under, high, unlike, at))
  by false d ih = record { holds = λ e. (λ own now. none own x.takes (λ u among. among), ih.holds e); passes = λ h. ih.passes h.1 } where
    none : x.name.task.resource ≡ name.task.resource → (us : List Take) → ((u : Take) → Among u us → Among u x.takes)
        → AllByRecursion (λ (u : Take). u.producer ≡ t.producer → is_below t.from u.from ≡ false) us
    none own [] within = tt
    none own (u ∷ us) within = (λ same. absurd (false≢true (d.passes (own, (u, within u (inl refl), same)))), none own us (λ w among. within w (inr among)))

pub test-not_back : (first : List ℕ) (older : List Evaluated) → AllFit first older → (name : Name) → AllByRecursion (IsLow name.task.resource name.incarnation) older → (t : Take) → IsTest (is_not_back older name t) (IsNotBack older name t)
test-not_back first older fit name low t =
    test-unless _ _ _ _ (test-same t.producer.resource name.task.resource) (test-kept first older fit name low t)

-- the fifth clause
pub test-own_latest : (first : List ℕ) (older : List Evaluated) → AllFit first older → (name : Name) → AllByRecursion (IsLow name.task.resource name.incarnation) older → (t : Take) → IsTest (is_own_latest older name t) (IsOwnLatest older name t)
test-own_latest first older fit name low t = test-if _ _ _ _ (test-same t.producer.resource name.task.resource) latest where
  latest : t.producer.resource ≡ name.task.resource → IsTest (same_from t.from (from_of (newest_in older t.producer name.incarnation))) (t.from ≡ from_of (last_in older t.producer name.incarnation))
  latest own =
      subst (λ l. IsTest (same_from t.from (from_of l)) (t.from ≡ from_of (last_in older t.producer name.incarnation)))
      (sym (newest-last first older fit t.producer name.incarnation (subst (λ n. AllByRecursion (IsLow n name.incarnation) older) (sym own) low))) (test-from t.from (from_of (last_in older t.producer name.incarnation)))

test-true : (b : Bool) → IsTest b (b ≡ true)
test-true b = record { holds = λ e. e; passes = λ e. e }

-- the sixth clause
test-address : (first : List ℕ) (older : List Evaluated) → AllFit first older → (taken taker : Name)
    → IsTest (keeps_address taker.task.resource taker.incarnation (find (is_named taken) older)) (AllByRecursion (IsMeantFor taken taker) older)
test-address first [] fit taken taker = record { holds = λ e. tt; passes = λ h. refl }
test-address first (x ∷ older) fit taken taker = by (same_name x.name taken) (test-name x.name taken) (test-address first older fit.1 taken taker) where
  by : (b : Bool) → IsTest b (x.name ≡ taken) → IsTest (keeps_address taker.task.resource taker.incarnation (find (is_named taken) older)) (AllByRecursion (IsMeantFor taken taker) older)
      → IsTest (keeps_address taker.task.resource taker.incarnation (cond b (Some x) (find (is_named taken) older))) (AllByRecursion (IsMeantFor taken taker) (x ∷ older))
  by true d ih = record { holds = λ e. (λ _. e, each-map _ _ other older (names-differ first older x fit)); passes = λ h. h.0 (d.holds refl) } where
    other : (y : Evaluated) → (y.name ≡ x.name → ⊥) → IsMeantFor taken taker y
    other y apart own = absurd (apart (own ∙ sym (d.holds refl)))
  by false d ih = record { holds = λ e. (λ own. absurd (false≢true (d.passes own)), ih.holds e); passes = λ h. ih.passes h.1 }

pub test-addressed : (first : List ℕ) (older : List Evaluated) → AllFit first older → (name : Name) (t : Take) → IsTest (is_addressed_to older name t) (IsAddressed older name t)
test-addressed first older fit name t = test-unless _ _ _ _ (test-same t.producer.resource name.task.resource) (λ _. by t.from) where
  by : (from : Option (ℕ × ℕ)) → IsTest (addressed_from older name t.producer from) (MatchOption from (Unit {0}) (λ f. AllByRecursion (IsMeantFor (name_from t.producer f) name) older))
  by None = record { holds = λ e. tt; passes = λ h. refl }
  by (Some f) = test-address first older fit (name_from t.producer f) name

-- the seventh clause
pub none-below : (xs ys : List ℕ) → IsTest (none_below xs ys) ((length ys ≡ length xs) × NoneBelow ys xs)
none-below [] [] = record { holds = λ e. (refl, λ n. omega arith); passes = λ h. refl }
none-below [] (y ∷ ys) = record { holds = λ e. absurd (false≢true e); passes = λ h. absurd (omega (arith, h.0)) }
none-below (x ∷ xs) [] = record { holds = λ e. absurd (false≢true e); passes = λ h. absurd (omega (arith, h.0)) }
none-below (x ∷ xs) (y ∷ ys) = by (test-and _ _ _ _ (test-most x y) (none-below xs ys)) where
  joined : (x ≤ y) × ((length ys ≡ length xs) × NoneBelow ys xs) → (length (y ∷ ys) ≡ length (x ∷ xs)) × NoneBelow (y ∷ ys) (x ∷ xs)
  joined h = (ap suc h.1.0, at) where
    at : NoneBelow (y ∷ ys) (x ∷ xs)
    at zero = h.0
    at (suc n) = h.1.1 n

  by : IsTest (none_below (x ∷ xs) (y ∷ ys)) ((x ≤ y) × ((length ys ≡ length xs) × NoneBelow ys xs)) → IsTest (none_below (x ∷ xs) (y ∷ ys)) ((length (y ∷ ys) ≡ length (x ∷ xs)) × NoneBelow (y ∷ ys) (x ∷ xs))
  by both = record { holds = λ e. joined (both.holds e); passes = λ h. both.passes (h.1 0, (omega (arith, h.0), λ n. h.1 (suc n))) }

-- the newest entry of a resource has heard most
test-newest : (first : List ℕ) (older : List Evaluated) → AllFit first older → (name : Name) → AllByRecursion (IsLow name.task.resource name.incarnation) older → (heard : List ℕ) → length heard ≡ length first
    → IsTest (keeps_heard name.incarnation heard (find (is_of_resource name.task.resource) older)) (AllByRecursion (HasHeardNoMore name heard) older)
test-newest first [] fit name low heard many = record { holds = λ e. tt; passes = λ h. refl }
test-newest first (x ∷ older) fit name low heard many = by (eqb x.name.task.resource name.task.resource) (test-same x.name.task.resource name.task.resource) (test-newest first older fit.1 name low.1 heard many) where
  by : (b : Bool) → IsTest b (x.name.task.resource ≡ name.task.resource) → IsTest (keeps_heard name.incarnation heard (find (is_of_resource name.task.resource) older)) (AllByRecursion (HasHeardNoMore name heard) older)
      → IsTest (keeps_heard name.incarnation heard (cond b (Some x) (find (is_of_resource name.task.resource) older))) (AllByRecursion (HasHeardNoMore name heard) (x ∷ older))
  by false d ih = record { holds = λ e. (λ own. absurd (false≢true (d.passes own)), ih.holds e); passes = λ h. ih.passes h.1 }
  by true d ih = now (eqb x.name.incarnation name.incarnation) (test-same x.name.incarnation name.incarnation) where
    same : x.name.task.resource ≡ name.task.resource
    same = d.holds refl

    now : (b : Bool) → IsTest b (x.name.incarnation ≡ name.incarnation) → IsTest (not b || none_below x.heard heard) (AllByRecursion (HasHeardNoMore name heard) (x ∷ older))
    now true at =
        record {
          holds = λ e. (
            λ _ _. ((none-below x.heard heard).holds e).1,
            each-map _ _ (λ y least own when. λ n.
                let up = ((none-below x.heard heard).holds e).1 n in
                let under = least (own ∙ sym same) (when ∙ sym (at.holds refl)) n in
                omega (arith, up, under)) older fit.0.heard.not_below_earlier,
          );
          passes = λ h. (none-below x.heard heard).passes (many ∙ sym fit.0.heard.many, h.0 same (at.holds refl));
        }
    now false differs = record { holds = λ _. (λ own at. absurd (false≢true (differs.passes at)), each-map _ _ earlier older (lows first older x.name fit.0.numbered)); passes = λ _. refl } where
      earlier : (y : Evaluated) → (y.name.task.resource ≡ x.name.task.resource → y.name.incarnation ≤ x.name.incarnation) → HasHeardNoMore name heard y
      earlier y below own at =
          let under = below (own ∙ sym same) in
          let high = low.0 same in
          let unlike : x.name.incarnation ≡ name.incarnation → ⊥ = λ h. false≢true (differs.passes h) in
          absurd (omega (arith, under, high, unlike, at))

pub test-heard : (first : List ℕ) (older : List Evaluated) → AllFit first older → (name : Name) → AllByRecursion (IsLow name.task.resource name.incarnation) older → (heard : List ℕ)
    → IsTest (is_well_heard first older name heard) (IsWellHeard first older name heard)
test-heard first older fit name low heard =
    record {
      holds = λ e. let h = all.holds e in record { many = h.0.0; not_below_first = h.0.1; not_below_earlier = h.1 };
      passes = λ w. all.passes ((w.many, w.not_below_first), w.not_below_earlier);
    } where
      all : IsTest (is_well_heard first older name heard) (((length heard ≡ length first) × NoneBelow heard first) × AllByRecursion (HasHeardNoMore name heard) older)
      all = test-then _ _ _ _ (none-below first heard) (λ h. test-newest first older fit name low heard h.0)
