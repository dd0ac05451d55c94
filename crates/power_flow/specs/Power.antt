use Rattle.std.specs.Prelude.{ℕ, List, [], ◌∷◌, Bool, IsTrue}
use Rattle.std.specs.List.{AllByRecursion}
use Rattle.drawings.specs.declared.place.Place.{Place}
use Rattle.network.specs.Links.{Diagram, Passes}
pub use Rattle.network.specs.Table.{EndsAt, SymbolEndsAt}

-- A walk, listed from its end back to its beginning: it begins at a source, and each step goes where state passes.
abbrev pub IsWalk : Diagram → (Place → Type 0) → List Place → Type 0
IsWalk d IsSource [] = ⊥
IsWalk d IsSource (p ∷ []) = IsSource p
IsWalk d IsSource (q ∷ p ∷ walk) = Passes d p q × IsWalk d IsSource (p ∷ walk)

-- each symbol that is left at one of these places conducts
abbrev pub AllConduct : Diagram → (ℕ → Bool) → List Place → Type 0
AllConduct d conducts left = AllByRecursion (λ p. (k : ℕ) → SymbolEndsAt d k p → IsTrue (conducts k)) left

-- A place is ON if some walk ends there, and every symbol that it goes into and out of again conducts.
pub record IsOn (d : Diagram) (conducts : ℕ → Bool) (IsSource : Place → Type 0) (p : Place) : Type 0 where
  pub passed : List Place
  pub walk : IsWalk d IsSource (p ∷ passed)
  pub conduct : AllConduct d conducts passed
