-- The items of lists that are put one after the other: where they come from, and in which order they stand.
use Rattle.std.proofs.Common.{ℕ, zero, suc, ◌<◌, ◌≤◌, ◌≡◌, List, [], ◌∷◌, map, Option, Some, None, refl, sym, ◌∙◌, arith, ◌⊎◌, inl, inr}
use Rattle.std.specs.List.{slice_get}
use Rattle.std.proofs.lemmas.Bool.{cases_lt}
use Rattle.std.proofs.lemmas.Option.{none-some}
use Rattle.lists.proofs.Places.{slice_get-append}
use Rattle.lists.specs.Rising.{IsRising, IsAlikeOnce}
use Rattle.ladder_rows.specs.Rows.{upto}
use Rattle.ladder_rows.specs.Boxes.{option_list}

pub option_item : {A : Type 0} (o : Option A) (k : ℕ) (x : A) → slice_get (option_list o) k ≡ Some x → (k ≡ 0) × (o ≡ Some x)
option_item None k x e = absurd (none-some x e)
option_item (Some y) zero x e = (refl, e)
option_item (Some y) (suc k) x e = absurd (none-some x e)

pub map_item : {A B : Type 0} (f : A → B) (xs : List A) (k : ℕ) (y : B) → slice_get (map f xs) k ≡ Some y → (x : A) × (slice_get xs k ≡ Some x) × (Some (f x) ≡ Some y)
map_item f [] k y e = absurd (none-some y e)
map_item f (x ∷ xs) zero y e = (x, refl, e)
map_item f (x ∷ xs) (suc k) y e = map_item f xs k y e

-- x is an item of one of the lists f 1 to f n
pub record IsItemOf {A : Type 0} (f : ℕ → List A) (n : ℕ) (x : A) : Type 0 where
  pub list : ℕ
  pub place : ℕ
  pub above : 0 < list
  pub within : list ≤ n
  pub is : slice_get (f list) place ≡ Some x

pub upto_item : {A : Type 0} (n : ℕ) (f : ℕ → List A) (k : ℕ) (x : A) → slice_get (upto n f) k ≡ Some x → IsItemOf f n x
upto_item zero f k x e = absurd (none-some x e)
upto_item (suc n) f k x e = elim (slice_get-append (upto n f) (f (suc n)) k) [
  | inl w ↦ let i = upto_item n f k x (sym w.1 ∙ e) in record { list = i.list; place = i.place; above = i.above; within = omega (arith, i.within); is = i.is }
  | inr w ↦ record { list = suc n; place = w.0; above = omega arith; within = omega arith; is = sym w.2 ∙ e }
]

-- each item of the list f i has the key i
abbrev pub IsKeyed : {A : Type 0} → (A → ℕ) → (ℕ → List A) → Type 0
IsKeyed {A} key f = (i k : ℕ) (x : A) → slice_get (f i) k ≡ Some x → key x ≡ i

pub upto_key : {A : Type 0} (key : A → ℕ) (f : ℕ → List A) (n k : ℕ) (x : A) → IsKeyed key f → slice_get (upto n f) k ≡ Some x → key x ≤ n
upto_key key f n k x keyed e =
    let i = upto_item n f k x e in
    omega (arith, keyed i.list i.place x i.is, i.within)

-- what f finds at the places of h rows and w columns, row by row
abbrev pub found : {A : Type 0} → (ℕ → ℕ → Option A) → ℕ → ℕ → List A
found f h w = upto h (λ r. upto w (λ c. option_list (f r c)))

-- f finds x at a place of h rows and w columns
pub record IsFound {A : Type 0} (f : ℕ → ℕ → Option A) (h w : ℕ) (x : A) : Type 0 where
  pub row : ℕ
  pub column : ℕ
  pub row_above : 0 < row
  pub row_within : row ≤ h
  pub column_above : 0 < column
  pub column_within : column ≤ w
  pub is : f row column ≡ Some x

pub found_item : {A : Type 0} (f : ℕ → ℕ → Option A) (h w k : ℕ) (x : A) → slice_get (found f h w) k ≡ Some x → IsFound f h w x
found_item f h w k x e =
    let i = upto_item h (λ r. upto w (λ c. option_list (f r c))) k x e in
    let j = upto_item w (λ c. option_list (f i.list c)) i.place x i.is in
    record {
      row = i.list;
      column = j.list;
      row_above = i.above;
      row_within = i.within;
      column_above = j.above;
      column_within = j.within;
      is = (option_item (f i.list j.list) j.place x j.is).1;
    }

-- whatever f finds says where it was found
abbrev pub IsPlaced : {A : Type 0} → (A → ℕ) → (A → ℕ) → (ℕ → ℕ → Option A) → Type 0
IsPlaced {A} row column f = (r c : ℕ) (x : A) → f r c ≡ Some x → (row x ≡ r) × (column x ≡ c)

pub upto_rising : {A : Type 0} (key : A → ℕ) (IsBelow : A → A → Type 0) (f : ℕ → List A) → IsKeyed key f → ((i : ℕ) → IsRising IsBelow (f i))
    → (n : ℕ) → IsRising (λ x y. (key x < key y) ⊎ ((key x ≡ key y) × IsBelow x y)) (upto n f)
upto_rising key IsBelow f keyed rising zero j k x y h a b = absurd (none-some x a)
upto_rising key IsBelow f keyed rising (suc n) j k x y h a b = elim (slice_get-append (upto n f) (f (suc n)) j) [
  | inl v ↦ elim (slice_get-append (upto n f) (f (suc n)) k) [
    | inl w ↦ upto_rising key IsBelow f keyed rising n j k x y h (sym v.1 ∙ a) (sym w.1 ∙ b)
    | inr w ↦ inl (omega (arith, upto_key key f n j x keyed (sym v.1 ∙ a), keyed (suc n) w.0 y (sym w.2 ∙ b)))
  ]
  | inr v ↦ elim (slice_get-append (upto n f) (f (suc n)) k) [
    | inl w ↦ absurd (omega (arith, v.1, w.0))
    | inr w ↦ inr (
      omega (arith, keyed (suc n) v.0 x (sym v.2 ∙ a), keyed (suc n) w.0 y (sym w.2 ∙ b)),
      rising (suc n) v.0 w.0 x y (omega (arith, v.1, w.1)) (sym v.2 ∙ a) (sym w.2 ∙ b),
    )
  ]
]

below_alone : (a b : ℕ) → (a < b) ⊎ ((a ≡ b) × ⊥) → a < b
below_alone a b (inl h) = h
below_alone a b (inr w) = absurd w.1

-- what f finds at the places 1 to n, where it says at which
pub options_rising : {A : Type 0} (key : A → ℕ) (f : ℕ → Option A) → ((c : ℕ) (x : A) → f c ≡ Some x → key x ≡ c) → (n : ℕ) → IsRising (λ x y. key x < key y) (upto n (λ c. option_list (f c)))
options_rising key f placed n j k x y l a b =
    below_alone (key x) (key y) (upto_rising key (λ x y. ⊥) (λ c. option_list (f c))
    (λ c k x e. placed c x (option_item (f c) k x e).1)
    (λ c j k x y l a b. absurd (omega (arith, l, (option_item (f c) j x a).0, (option_item (f c) k y b).0)))
    n j k x y l a b)

-- what is found at places stands by row and then column
abbrev pub IsBefore : {A : Type 0} → (A → ℕ) → (A → ℕ) → A → A → Type 0
IsBefore row column x y = (row x < row y) ⊎ ((row x ≡ row y) × (column x < column y))

pub found_rising : {A : Type 0} (row column : A → ℕ) (f : ℕ → ℕ → Option A) → IsPlaced row column f → (h w : ℕ) → IsRising (IsBefore row column) (found f h w)
found_rising {A} row column f placed h w =
    upto_rising row (λ x y. column x < column y) (λ r. upto w (λ c. option_list (f r c)))
    (λ r k x e. let j = upto_item w (λ c. option_list (f r c)) k x e in (placed r j.list x (option_item (f r j.list) j.place x j.is).1).0)
    (λ r. options_rising column (f r) (λ c x e. (placed r c x e).1) w)
    h

not_before : (a b c e : ℕ) → a ≡ c → b ≡ e → (a < c) ⊎ ((a ≡ c) × (b < e)) → ⊥
not_before a b c e i j (inl l) = absurd (omega (arith, i, l))
not_before a b c e i j (inr w) = absurd (omega (arith, j, w.1))

-- what is found at places is found once at each
pub found_once : {A : Type 0} (row column : A → ℕ) (f : ℕ → ℕ → Option A) → IsPlaced row column f → (h w : ℕ)
    → IsAlikeOnce (λ x y. (row x ≡ row y) × (column x ≡ column y)) (found f h w)
found_once row column f placed h w j k x y a b s = elim (cases_lt j k) [
  | inl l ↦ absurd (not_before (row x) (column x) (row y) (column y) s.0 s.1 (found_rising row column f placed h w j k x y l a b))
  | inr m ↦ elim (cases_lt k j) [
    | inl l ↦ absurd (not_before (row y) (column y) (row x) (column x) (sym s.0) (sym s.1) (found_rising row column f placed h w k j y x l b a))
    | inr n ↦ omega (arith, m, n)
  ]
]
