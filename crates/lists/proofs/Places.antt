-- What stands at which place of a list.
use Rattle.std.proofs.Common.{◌≡◌, ℕ, zero, suc, ◌+◌, ◌<◌, ◌≢◌, ◌⊎◌, inl, inr, List, [], ◌∷◌, ◌++◌, Option, Some, None, is_some, false, length, map, set, slice_get, slice_index, refl, sym, ap, subst, ◌∙◌, arith}
use Rattle.std.proofs.lemmas.Bool.{cases_lt, cases_eq}
use Rattle.std.proofs.lemmas.Option.{none-some, same_Some, slice_get_past}

-- something stands at each place below the length
pub element_at : {X : Type 0} (xs : List X) (k : ℕ) → k < length xs → (x : X) × (slice_get xs k ≡ Some x)
element_at [] k lt = absurd (omega arith)
element_at (x ∷ xs) zero lt = (x, refl)
element_at (x ∷ xs) (suc k) lt = element_at xs k (let short : suc k < suc (length xs) = lt in omega arith)

-- lists with the same at each place are equal
pub same_by_slice_get : {X : Type 0} (xs ys : List X) → ((k : ℕ) → slice_get xs k ≡ slice_get ys k) → xs ≡ ys
same_by_slice_get [] [] h = refl
same_by_slice_get [] (y ∷ ys) h = let e = h 0 in cc
same_by_slice_get (x ∷ xs) [] h = let e = h 0 in cc
same_by_slice_get (x ∷ xs) (y ∷ ys) h = let e = h 0 in let rest = same_by_slice_get xs ys (λ k. h (suc k)) in cc

-- so are lists of one length with the same at each of their places
pub same_within : {X : Type 0} (xs ys : List X) → length xs ≡ length ys → ((k : ℕ) → k < length xs → slice_get xs k ≡ slice_get ys k) → xs ≡ ys
same_within xs ys long h = same_by_slice_get xs ys (λ k. elim (cases_lt k (length xs)) [
  | inl lt ↦ h k lt
  | inr past ↦ slice_get_past xs k (omega arith) ∙ sym (slice_get_past ys k (omega arith))
])

-- and lists of one length whose elements are equal place by place
pub same_by_each : {X : Type 0} (xs ys : List X) → length xs ≡ length ys → ((k : ℕ) (x y : X) → slice_get xs k ≡ Some x → slice_get ys k ≡ Some y → x ≡ y) → xs ≡ ys
same_by_each [] [] l h = refl
same_by_each [] (y ∷ ys) l h = absurd (omega arith)
same_by_each (x ∷ xs) [] l h = absurd (omega arith)
same_by_each (x ∷ xs) (y ∷ ys) l h =
    let first : x ≡ y = h 0 x y refl refl in
    let rest : xs ≡ ys = same_by_each xs ys (omega arith) (λ k. h (suc k)) in
    cc

-- what is the same in Some is the same
pub some_same : {X : Type 0} {a b : X} → Some a ≡ Some b → a ≡ b
some_same e = cc

-- so it is with each element of a list
pub somes_same : {X : Type 0} (xs ys : List X) → map (λ v. Some v) xs ≡ map (λ v. Some v) ys → xs ≡ ys
somes_same [] [] e = refl
somes_same [] (y ∷ ys) e = absurd cc
somes_same (x ∷ xs) [] e = absurd cc
somes_same (x ∷ xs) (y ∷ ys) e =
    let parts : (Some x ≡ Some y) × (map (λ v. Some v) xs ≡ map (λ v. Some v) ys) = (cc, cc) in
    let rest : xs ≡ ys = somes_same xs ys parts.1 in
    let first : x ≡ y = same_Some x y parts.0 in
    cc

-- what is changed stands where it was put, and all else as before
pub slice_get-set_same : {X : Type 0} (xs : List X) (i : ℕ) (a : X) → i < length xs → slice_get (set xs i a) i ≡ Some a
slice_get-set_same [] i a lt = absurd (omega arith)
slice_get-set_same (x ∷ xs) zero a lt = refl
slice_get-set_same (x ∷ xs) (suc i) a lt = slice_get-set_same xs i a (let long : suc i < suc (length xs) = lt in omega arith)

pub slice_get-set_other : {X : Type 0} (xs : List X) (i j : ℕ) (a : X) → (j ≡ i → ⊥) → slice_get (set xs i a) j ≡ slice_get xs j
slice_get-set_other [] i j a ne = refl
slice_get-set_other (x ∷ xs) zero zero a ne = absurd (ne refl)
slice_get-set_other (x ∷ xs) zero (suc j) a ne = refl
slice_get-set_other (x ∷ xs) (suc i) zero a ne = refl
slice_get-set_other (x ∷ xs) (suc i) (suc j) a ne = slice_get-set_other xs i j a (λ e. ne (ap suc e))

-- what stands in a list with one more behind it
pub push_here : {X : Type 0} (xs : List X) (x : X) → slice_get (xs ++ x ∷ []) (length xs) ≡ Some x
push_here [] x = refl
push_here (y ∷ xs) x = push_here xs x

-- what stood in a list stands there when one more item does
pub push_old : {X : Type 0} (xs : List X) (x : X) (k : ℕ) (s : X) → slice_get xs k ≡ Some s → slice_get (xs ++ x ∷ []) k ≡ Some s
push_old [] x k s h = absurd (none-some s h)
push_old (y ∷ xs) x zero s h = h
push_old (y ∷ xs) x (suc k) s h = push_old xs x k s h

pub push_cases : {X : Type 0} (xs : List X) (x : X) (k : ℕ) (s : X) → slice_get (xs ++ x ∷ []) k ≡ Some s → (slice_get xs k ≡ Some s) ⊎ ((k ≡ length xs) × (s ≡ x))
push_cases [] x zero s h = inr (refl, cc)
push_cases [] x (suc k) s h = absurd (cc)
push_cases (y ∷ xs) x zero s h = inl h
push_cases (y ∷ xs) x (suc k) s h = elim (push_cases xs x k s h) [ inl old ↦ inl old | inr e ↦ inr (ap suc e.0, e.1) ]

-- what isn't there is None
pub none_from_is_some : {X : Type 0} (o : Option X) → is_some o ≡ false → o ≡ None
none_from_is_some None e = refl
none_from_is_some (Some x) e = cc

-- an item of two lists is one of the first or one of the second
pub slice_get-append : {A : Type 0} (xs ys : List A) (k : ℕ)
    → ((k < length xs) × (slice_get (xs ++ ys) k ≡ slice_get xs k)) ⊎ ((j : ℕ) × (k ≡ length xs + j) × (slice_get (xs ++ ys) k ≡ slice_get ys j))
slice_get-append [] ys k = inr (k, omega arith, refl)
slice_get-append (x ∷ xs) ys zero = inl (omega arith, refl)
slice_get-append (x ∷ xs) ys (suc k) = elim (slice_get-append xs ys k) [
  | inl w ↦ inl (omega (arith, w.0), w.1)
  | inr w ↦ inr (w.0, omega (arith, w.1), w.2)
]

-- where nothing stands nothing is set
pub set_none : {X : Type 0} (xs : List X) (k : ℕ) (x : X) → slice_get xs k ≡ None → set xs k x ≡ xs
set_none [] k x none = refl
set_none (a ∷ xs) zero x none = absurd (none-some a (sym none))
set_none (a ∷ xs) (suc k) x none = ap (λ l. a ∷ l) (set_none xs k x none)

-- a number of a list of numbers, read as one of those that are 0 past the end
pub index_at : (xs : List ℕ) (n i : ℕ) → slice_get xs n ≡ Some i → slice_index xs n ≡ i
index_at [] n i e = absurd (none-some i e)
index_at (x ∷ xs) zero i e = same_Some x i e
index_at (x ∷ xs) (suc n) i e = index_at xs n i e

-- what holds of the elements at n, and of those before
pub one_more : {X Y : Type 0} (P : ℕ → X → Y → Type 0) (xs : List X) (ys : List Y) (n : ℕ) (x : X) (y : Y)
    → slice_get xs n ≡ Some x → slice_get ys n ≡ Some y → P n x y
    → ((k : ℕ) (a : X) (b : Y) → k < n → slice_get xs k ≡ Some a → slice_get ys k ≡ Some b → P k a b)
    → (k : ℕ) (a : X) (b : Y) → k < n + 1 → slice_get xs k ≡ Some a → slice_get ys k ≡ Some b → P k a b
one_more P xs ys n x y at found here below k a b lt at' found' = by (cases_eq k n)
  where
    by : (k ≡ n) ⊎ (k ≢ n) → P k a b
    by (inl same) =
        let one : x ≡ a = same_Some x a (sym at ∙ ap (slice_get xs) (sym same) ∙ at') in
        let other : y ≡ b = same_Some y b (sym found ∙ ap (slice_get ys) (sym same) ∙ found') in
        subst (λ (i : ℕ). P i a b) (sym same) (subst (λ v. P n v b) one (subst (λ w. P n x w) other here))
    by (inr ne) = below k a b (omega arith) at' found'
