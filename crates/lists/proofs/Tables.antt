-- Tables: rows of cells, by two numbers.
use Rattle.std.proofs.Common.{◌≡◌, ◌⊎◌, inl, inr, ℕ, zero, suc, ◌<◌, true, false, ◌&&◌, eqb, List, [], ◌∷◌, length, get_or, map, replicate, slice_get, Option, Some, None, refl, ap, sym, ◌∙◌, arith}
use Rattle.std.proofs.Math.ListN.{length-replicate, set, get_or-map as get_or-map_default}
use Rattle.std.proofs.Math.Seq.{map-set_same}
use Rattle.std.specs.Option.{option_map}
use Rattle.std.proofs.lemmas.Bool.{eq-eqb, eqb-true, false≢true, and_parts, cases_eq}
use Rattle.std.proofs.lemmas.List.{length-map, length-set, get_or-set_same, get_or-set_other}
use Rattle.std.proofs.lemmas.Option.{slice_get_within, slice_get-map, get_or_from_slice_get}

-- what is named by two numbers is the same where both are
pub both_same : {X : Type 0} (named : ℕ → ℕ → X) (a b c d : ℕ) → (eqb a c && eqb b d) ≡ true → named a b ≡ named c d
both_same named a b c d h = let parts = and_parts (eqb a c) (eqb b d) h in rw (eqb-true a c parts.0, eqb-true b d parts.1) refl

pub both_itself : (a b : ℕ) → (eqb a a && eqb b b) ≡ true
both_itself a b = rw (eq-eqb a a refl, eq-eqb b b refl) refl

-- what is put into a cell stands there, and all else as before
pub cell_same : {X : Type 0} (rows : List (List X)) (i j : ℕ) (x other : X) → i < length rows → j < length (get_or rows i []) → get_or (get_or (set rows i (set (get_or rows i []) j x)) i []) j other ≡ x
cell_same rows i j x other row cell =
    ap (λ cells. get_or cells j other) (get_or-set_same rows i (set (get_or rows i []) j x) [] row) ∙ get_or-set_same (get_or rows i []) j x other cell

pub cell_other : {X : Type 0} (rows : List (List X)) (i j k l : ℕ) (x other : X) → i < length rows → (eqb i k && eqb j l) ≡ false
    → get_or (get_or (set rows i (set (get_or rows i []) j x)) k []) l other ≡ get_or (get_or rows k []) l other
cell_other {X} rows i j k l x other row another = by (cases_eq k i) where
  by : (k ≡ i) ⊎ (k ≡ i → ⊥) → get_or (get_or (set rows i (set (get_or rows i []) j x)) k []) l other ≡ get_or (get_or rows k []) l other
  by (inr apart) = ap (λ cells. get_or cells l other) (get_or-set_other rows i k (set (get_or rows i []) j x) [] apart)
  by (inl same) =
      let apart : l ≡ j → ⊥ = λ e. false≢true (sym another ∙ rw (same, e) (both_itself i j)) in
      rw same (ap (λ cells. get_or cells l other) (get_or-set_same rows i (set (get_or rows i []) j x) [] row) ∙ get_or-set_other (get_or rows i []) j l x other apart)

-- a cell of a table of which each cell was changed alike
pub cell_map : {X Y : Type 0} (f : X → Y) (rows : List (List X)) (i j : ℕ) (x : X) (y : Y) → f x ≡ y → get_or (get_or (map (map f) rows) i []) j y ≡ f (get_or (get_or rows i []) j x)
cell_map f rows i j x y to =
    ap (λ row. get_or row j y) (get_or-map_default (map f) rows i [])
    ∙ ap (λ z. get_or (map f (get_or rows i [])) j z) (sym to)
    ∙ get_or-map_default f (get_or rows i []) j x

-- no row gets longer or shorter by it
pub row_lengths_kept : {X : Type 0} (rows : List (List X)) (i j : ℕ) (x : X) → map length (set rows i (set (get_or rows i []) j x)) ≡ map length rows
row_lengths_kept rows i j x = map-set_same length rows i (set (get_or rows i []) j x) [] (length-set (get_or rows i []) j x)

-- rows that hold one value alone
pub row_lengths_filled : {R X : Type 0} (long : R → ℕ) (x : X) (rs : List R) → map length (map (λ r. replicate (long r) x) rs) ≡ map long rs
row_lengths_filled long x [] = refl
row_lengths_filled long x (r ∷ rs) = rw (length-replicate (long r) x, row_lengths_filled long x rs) refl

pub cell_filled : {R X : Type 0} (long : R → ℕ) (x : X) (rs : List R) (i j : ℕ) → get_or (get_or (map (λ r. replicate (long r) x) rs) i []) j x ≡ x
cell_filled long x [] i j = refl
cell_filled long x (r ∷ rs) zero j = among (long r) j where
  among : (m j : ℕ) → get_or (replicate m x) j x ≡ x
  among zero j = refl
  among (suc m) zero = refl
  among (suc m) (suc j) = among m j
cell_filled long x (r ∷ rs) (suc i) j = cell_filled long x rs i j

-- where a row has a cell there is such a row
pub row_of_cell : {R Y : Type 0} (cells : Option R → List Y) (o : Option R) (j : ℕ) (y : Y) → cells None ≡ [] → slice_get (cells o) j ≡ Some y → (r : R) × (o ≡ Some r) × (slice_get (cells (Some r)) j ≡ Some y)
row_of_cell cells None j y none at = absurd (let nothing = ap (λ ys. slice_get ys j) none in cc)
row_of_cell cells (Some r) j y none at = (r, refl, at)

-- a table with rows as long as those of another has a place for each cell of that one
pub cell_place : {R X Y : Type 0} (cells : Option R → List Y) (rs : List R) (rows : List (List X)) (i j : ℕ) (y : Y) → cells None ≡ [] → map length rows ≡ map (λ r. length (cells (Some r))) rs
    → slice_get (cells (slice_get rs i)) j ≡ Some y → (i < length rows) × (j < length (get_or rows i []))
cell_place {R} {X} {Y} cells rs rows i j y none alike at =
    let found = row_of_cell cells (slice_get rs i) j y none at in
    let long : R → ℕ = λ r. length (cells (Some r)) in
    let inside : i < length rs = slice_get_within rs i found.0 found.1 in
    let cell : j < length (cells (Some found.0)) = slice_get_within (cells (Some found.0)) j y found.2 in
    let many : length rows ≡ length rs = sym (length-map rows length) ∙ ap length alike ∙ length-map rs long in
    let row : length (get_or rows i []) ≡ length (cells (Some found.0)) =
    sym (get_or-map_default length rows i [])
    ∙ ap (λ l. get_or l i 0) alike
    ∙ get_or_from_slice_get (map long rs) i (long found.0) 0 (slice_get-map long rs i ∙ ap (option_map long) found.1) in
    (omega (arith, many), omega (arith, row))
