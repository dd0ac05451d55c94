-- Tasks in order of first mention, one mention more at a time.
use Rattle.std.proofs.Common.{◌≡◌, ℕ, zero, suc, ◌+◌, ◌==◌, ◌&&◌, ◌||◌, Bool, true, false, not, cond, List, [], ◌∷◌, ◌++◌, length, get_or, refl, sym, ap, ◌∙◌, subst, arith}
use Rattle.std.specs.Prelude.{All, Contains, Some, slice_get}
use Rattle.std.specs.List.{list_any, filter, flat_map}
use Rattle.std.proofs.lemmas.Bool.Decides.{nat_tests}
use Rattle.std.proofs.lemmas.List.{append-nil, length-append, get_or-append-add}
use Rattle.std.proofs.Math.ListN.{get_or-append}
use Rattle.std.proofs.lemmas.List.Elements.{filter-append, All-append, All-nil, All-cons}
use Rattle.lists.proofs.Places.{some_same}
use Rattle.task_codes.specs.declared.task_ref.TaskRef.{TaskRef}
use Rattle.plant.specs.StandsFor.{firsts}
use Rattle.task_codes.specs.CodeValue.{AreDistinct}
use Rattle.plant.proofs.Zips.{all_filter}

-- one task
abbrev pub is_same : TaskRef → TaskRef → Bool
is_same s t = s.resource == t.resource && s.task == t.task

same_one : (s t : TaskRef) → is_same s t ≡ true → s ≡ t
same_one s t e =
    let one : s.resource ≡ t.resource = grind (arith, nat_tests) in
    let two : s.task ≡ t.task = grind (arith, nat_tests) in
    let make : ℕ → ℕ → TaskRef = λ r k. record { resource = r; task = k } in
    ap (λ (r : ℕ). make r s.task) one ∙ ap (make t.resource) two

same_itself : (t : TaskRef) → is_same t t ≡ true
same_itself t = grind (arith, nat_tests)

-- whether the task is among them
abbrev pub has : TaskRef → List TaskRef → Bool
has t ts = list_any (λ s. is_same s t) ts

abbrev without : TaskRef → List TaskRef → List TaskRef
without u ts = filter (λ s. not (is_same s u)) ts

-- leaving another task out takes nothing away
has_without : (t u : TaskRef) (ts : List TaskRef) → is_same t u ≡ false → has t (without u ts) ≡ has t ts
has_without t u [] apart = refl
has_without t u (s ∷ ts) apart = by (is_same s u) (is_same s t) refl refl (has_without t u ts apart)
  where
    by : (a b : Bool) → is_same s u ≡ a → is_same s t ≡ b → has t (without u ts) ≡ has t ts → has t (without u (s ∷ ts)) ≡ has t (s ∷ ts)
    by true true e f rest = let same : s ≡ t = same_one s t f in let no : is_same t u ≡ true = rw (← same) e in cc
    by true false e f rest = rw (e, f) rest
    by false true e f rest = rw (e, f) refl
    by false false e f rest = rw (e, f) rest

-- the list with a task at the end, unless it is there
abbrev pub added : TaskRef → List TaskRef → List TaskRef
added t ts = cond (has t ts) ts (ts ++ t ∷ [])

pub firsts_push : (ts : List TaskRef) (t : TaskRef) → firsts (ts ++ t ∷ []) ≡ added t (firsts ts)
firsts_push [] t = refl
firsts_push (u ∷ ts) t = rw (firsts_push ts t) (by (has t (firsts ts)) (is_same u t) refl refl)
  where
    other : is_same u t ≡ false → is_same t u ≡ false
    other e = go (is_same t u) refl
      where
        go : (b : Bool) → is_same t u ≡ b → is_same t u ≡ false
        go false f = f
        go true f = let same : t ≡ u = same_one t u f in let yes : is_same u t ≡ true = rw same (same_itself u) in cc

    by : (a b : Bool) → has t (firsts ts) ≡ a → is_same u t ≡ b → u ∷ without u (added t (firsts ts)) ≡ added t (u ∷ without u (firsts ts))
    by true true e f = rw (e, f) refl
    by true false e f = rw (has_without t u (firsts ts) (other f), e, f) refl
    by false true e f =
        let same : u ≡ t = same_one u t f in
        let gone : is_same t u ≡ true = rw same (same_itself t) in
        rw (e, f, filter-append (λ s. not (is_same s u)) (firsts ts) (t ∷ []), gone, append-nil) refl
    by false false e f = rw (has_without t u (firsts ts) (other f), e, f, filter-append (λ s. not (is_same s u)) (firsts ts) (t ∷ []), other f) refl

-- a task that isn't there is added
pub firsts_new : (ts : List TaskRef) (t : TaskRef) (olds news : List TaskRef) → olds ≡ firsts ts → has t olds ≡ false → news ≡ olds ++ t ∷ [] → news ≡ firsts (ts ++ t ∷ [])
firsts_new ts t olds news e absent grown = grown ∙ sym (ap (λ b. cond b olds (olds ++ t ∷ [])) absent) ∙ ap (added t) e ∙ sym (firsts_push ts t)

-- a task that is there stays
pub firsts_old : (ts : List TaskRef) (t : TaskRef) (olds : List TaskRef) → olds ≡ firsts ts → has t olds ≡ true → olds ≡ firsts (ts ++ t ∷ [])
firsts_old ts t olds e there = sym (ap (λ b. cond b olds (olds ++ t ∷ [])) there) ∙ ap (added t) e ∙ sym (firsts_push ts t)

-- what holds of all tasks holds of those that are kept
pub firsts_all : (P : TaskRef → Type 0) (ts : List TaskRef) → All P ts → All P (firsts ts)
firsts_all P [] h = All-nil P
firsts_all P (t ∷ ts) h =
    All-cons P t (without t (firsts ts)) (h 0 t (omega arith)) (all_filter P (λ s. not (is_same s t)) (firsts ts) (firsts_all P ts (λ k d lt. h (suc k) d (omega arith))))

-- a task that passes is kept
kept : (p : TaskRef → Bool) (t : TaskRef) → p t ≡ true → (ts : List TaskRef) → Contains ts t → Contains (filter p ts) t
kept p t passes [] has = absurd (omega (arith, has.1))
kept p t passes (s ∷ ts) (zero, lt, is) = rw (ap p is ∙ passes) (0, omega arith, is)
kept p t passes (s ∷ ts) (suc k, lt, is) = by (p s) refl (kept p t passes ts (k, omega arith, is))
  where
    by : (b : Bool) → p s ≡ b → Contains (filter p ts) t → Contains (filter p (s ∷ ts)) t
    by true e rest = rw e (suc rest.0, omega (arith, rest.1), rest.2)
    by false e rest = rw e rest

-- each task is among the first mentions
pub firsts_hold : (ts : List TaskRef) → All (Contains (firsts ts)) ts
firsts_hold [] = All-nil (Contains (firsts []))
firsts_hold (t ∷ ts) =
    All-cons (Contains (firsts (t ∷ ts))) t ts (0, omega arith, refl) (λ k d lt. by (get_or ts k d) (is_same (get_or ts k d) t) refl (firsts_hold ts k d lt))
  where
    by : (s : TaskRef) (b : Bool) → is_same s t ≡ b → Contains (firsts ts) s → Contains (firsts (t ∷ ts)) s
    by s true e has = (0, omega arith, sym (same_one s t e))
    by s false e has = let rest = kept (λ u. not (is_same u t)) s (ap not e) (firsts ts) has in (suc rest.0, omega (arith, rest.1), rest.2)

-- no task is among those behind it
abbrev IsOnce : List TaskRef → Type 0
IsOnce [] = Unit {0}
IsOnce (t ∷ ts) = (has t ts ≡ false) × IsOnce ts

-- what is left out isn't among the others
has_gone : (t : TaskRef) (ts : List TaskRef) → has t (without t ts) ≡ false
has_gone t [] = refl
has_gone t (s ∷ ts) = by (is_same s t) refl (has_gone t ts)
  where
    by : (a : Bool) → is_same s t ≡ a → has t (without t ts) ≡ false → has t (without t (s ∷ ts)) ≡ false
    by true e rest = rw e rest
    by false e rest = rw (e, e) rest

has_fewer : (p : TaskRef → Bool) (t : TaskRef) (ts : List TaskRef) → has t ts ≡ false → has t (filter p ts) ≡ false
has_fewer p t [] e = refl
has_fewer p t (s ∷ ts) e = by (p s) (is_same s t) refl refl (has_fewer p t ts)
  where
    by : (a b : Bool) → p s ≡ a → is_same s t ≡ b → (has t ts ≡ false → has t (filter p ts) ≡ false) → has t (filter p (s ∷ ts)) ≡ false
    by a true f g rest = let no : true ≡ false = sym (ap (λ b. b || has t ts) g) ∙ e in cc
    by true false f g rest = let left : has t ts ≡ false = sym (ap (λ b. b || has t ts) g) ∙ e in rw (f, g) (rest left)
    by false false f g rest = let left : has t ts ≡ false = sym (ap (λ b. b || has t ts) g) ∙ e in rw f (rest left)

once_fewer : (p : TaskRef → Bool) (ts : List TaskRef) → IsOnce ts → IsOnce (filter p ts)
once_fewer p [] is = tt
once_fewer p (s ∷ ts) is = by (p s) refl (once_fewer p ts is.1)
  where
    by : (a : Bool) → p s ≡ a → IsOnce (filter p ts) → IsOnce (filter p (s ∷ ts))
    by true e rest = rw e (has_fewer p s ts is.0, rest)
    by false e rest = rw e rest

firsts_once : (ts : List TaskRef) → IsOnce (firsts ts)
firsts_once [] = tt
firsts_once (t ∷ ts) = (has_gone t (firsts ts), once_fewer (λ s. not (is_same s t)) (firsts ts) (firsts_once ts))

has_at : (ts : List TaskRef) (k : ℕ) (t : TaskRef) → slice_get ts k ≡ Some t → has t ts ≡ true
has_at [] k t at = cc
has_at (s ∷ ts) zero t at = let same : s ≡ t = some_same at in let yes : is_same s t ≡ true = rw same (same_itself t) in rw yes refl
has_at (s ∷ ts) (suc k) t at = by (is_same s t) refl (has_at ts k t at)
  where
    by : (a : Bool) → is_same s t ≡ a → has t ts ≡ true → has t (s ∷ ts) ≡ true
    by true e rest = rw e refl
    by false e rest = rw e rest

once_distinct : (ts : List TaskRef) → IsOnce ts → AreDistinct ts
once_distinct [] is j k t at at' = cc
once_distinct (s ∷ ts) is zero zero t at at' = refl
once_distinct (s ∷ ts) is zero (suc k) t at at' = let same : s ≡ t = some_same at in let there = has_at ts k t at' in let no = is.0 in let yes : has s ts ≡ true = rw same there in cc
once_distinct (s ∷ ts) is (suc j) zero t at at' = let same : s ≡ t = some_same at' in let there = has_at ts j t at in let no = is.0 in let yes : has s ts ≡ true = rw same there in cc
once_distinct (s ∷ ts) is (suc j) (suc k) t at at' = ap suc (once_distinct ts is.1 j k t at at')

-- no task is twice among the first mentions
pub firsts_distinct : (ts : List TaskRef) → AreDistinct (firsts ts)
firsts_distinct ts = once_distinct (firsts ts) (firsts_once ts)

-- what holds of the pieces of each item holds of all pieces
pub all_flat : {A B : Type 0} (P : B → Type 0) (f : A → List B) (xs : List A) → All (λ x. All P (f x)) xs → All P (flat_map f xs)
all_flat P f [] h = All-nil P
all_flat P f (x ∷ xs) h = All-append P (f x) (flat_map f xs) (h 0 x (omega arith)) (all_flat P f xs (λ k d lt. h (suc k) d (omega arith)))

-- and the other way
pub flat_all : {A B : Type 0} (P : B → Type 0) (f : A → List B) (xs : List A) → All P (flat_map f xs) → All (λ x. All P (f x)) xs
flat_all P f [] h = All-nil (λ x. All P (f x))
flat_all P f (x ∷ xs) h =
    All-cons (λ y. All P (f y)) x xs
    (λ k d lt. subst P (get_or-append (f x) (flat_map f xs) d k lt) (h k d (omega (arith, length-append (f x) (flat_map f xs)))))
    (flat_all P f xs (λ k d lt. subst P (get_or-append-add (f x) (flat_map f xs) k d) (h (length (f x) + k) d (omega (arith, length-append (f x) (flat_map f xs))))))
