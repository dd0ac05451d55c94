-- The present incarnation of a resource is the greatest of its first one and of what the entries tell of it.
use Rattle.std.proofs.Common.{◌≡◌, arith, ℕ, ◌≤◌, cond, List, [], ◌∷◌, map, ap}
use Rattle.std.specs.Prelude.{slice_index}
use Rattle.std.proofs.lemmas.Bool.{eq-eqb}
use Rattle.std.specs.List.{AllByRecursion}
use Rattle.evaluation.specs.Steps.Facts.{greatest-first}
use Rattle.evaluation.specs.declared.name.Name.{Name}
use Rattle.evaluation.specs.Meaning.{Evaluated}
use Rattle.book.specs.Fits.{told_of, present_in, IsNumbered}

-- the present incarnation isn't below the first one
pub present-first : (first : List ℕ) (older : List Evaluated) (n : ℕ) → slice_index first n ≤ present_in first older n
present-first first older n = greatest-first (slice_index first n) (map (told_of n) older)

higher : (n a b : ℕ) → a ≤ b → (ys : List Evaluated) → AllByRecursion (λ (y : Evaluated). told_of n y ≤ a) ys → AllByRecursion (λ (y : Evaluated). told_of n y ≤ b) ys
higher n a b up [] low = tt
higher n a b up (y ∷ ys) low = (let here = low.0 in omega (arith, here, up), higher n a b up ys low.1)

-- nor below what an entry tells
pub present-told : (first : List ℕ) (older : List Evaluated) (n : ℕ) → AllByRecursion (λ (y : Evaluated). told_of n y ≤ present_in first older n) older
present-told first [] n = tt
present-told first (y ∷ older) n = (omega arith, higher n (present_in first older n) (present_in first (y ∷ older) n) (omega arith) older (present-told first older n))

-- an entry of the resource tells its incarnation
pub told-own : (n : ℕ) (y : Evaluated) → y.name.task.resource ≡ n → told_of n y ≡ y.name.incarnation
told-own n y own = ap (λ b. cond b y.name.incarnation (slice_index y.heard n)) (eq-eqb y.name.task.resource n own)

-- no entry of the resource is of a later incarnation than a name that isn't below the present one
pub below_lows : (first : List ℕ) (older : List Evaluated) (name : Name) → present_in first older name.task.resource ≤ name.incarnation
    → AllByRecursion (λ (y : Evaluated). y.name.task.resource ≡ name.task.resource → y.name.incarnation ≤ name.incarnation) older
below_lows first older name up = by older (higher name.task.resource (present_in first older name.task.resource) name.incarnation up older (present-told first older name.task.resource)) where
  by : (ys : List Evaluated) → AllByRecursion (λ (y : Evaluated). told_of name.task.resource y ≤ name.incarnation) ys
      → AllByRecursion (λ (y : Evaluated). y.name.task.resource ≡ name.task.resource → y.name.incarnation ≤ name.incarnation) ys
  by [] low = tt
  by (y ∷ ys) low = (λ own. let told = told-own name.task.resource y own in let here = low.0 in omega (arith, here, told), by ys low.1)

pub lows : (first : List ℕ) (older : List Evaluated) (name : Name) → IsNumbered first older name
    → AllByRecursion (λ (y : Evaluated). y.name.task.resource ≡ name.task.resource → y.name.incarnation ≤ name.incarnation) older
lows first older name numbered = below_lows first older name numbered.not_below_present
