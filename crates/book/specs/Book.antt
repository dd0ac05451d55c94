-- What a book is, and what it answers. Entries stand with the newest first, but in the book itself.
use Rattle.std.specs.Prelude.{◌≡◌, ℕ, List, [], ◌∷◌, Some, slice_get, take}
use Rattle.std.specs.List.{AllByRecursion}
use Rattle.evaluation.specs.Meaning.{Evaluated}
use Rattle.book.specs.declared.book.misfit.Misfit.{Misfit}
use Rattle.book.specs.declared.book.misfit.Misfit.TheVariants.{WrongNumber, UnknownTake, Torn, Back, NotOwnLatest, Memory, NotAddressed, Misheard}
use Rattle.book.specs.Fits.{IsNumbered, IsKnown, IsUntorn, IsNotBack, IsOwnLatest, IsAddressed, IsWellHeard}

-- A book: the first incarnation of each resource, and the entries in their order.
pub record BookValue : Type 0 where
  pub first : List ℕ
  pub entries : List Evaluated

-- the clause that a misfit tells of; memory is wanting, so nothing is kept of it
abbrev pub KeepsClause : List ℕ → List Evaluated → Evaluated → Misfit → Type 0
KeepsClause first older x WrongNumber = IsNumbered first older x.name
KeepsClause first older x UnknownTake = AllByRecursion (IsKnown older) x.takes
KeepsClause first older x Torn = AllByRecursion (IsUntorn older) x.takes
KeepsClause first older x Back = AllByRecursion (IsNotBack older x.name) x.takes
KeepsClause first older x NotOwnLatest = AllByRecursion (IsOwnLatest older x.name) x.takes
KeepsClause first older x NotAddressed = AllByRecursion (IsAddressed older x.name) x.takes
KeepsClause first older x Misheard = IsWellHeard first older x.name x.heard
KeepsClause first older x Memory = ⊥

-- the misfits in the order in which they are looked for
abbrev pub misfits : List Misfit
misfits = WrongNumber ∷ UnknownTake ∷ Torn ∷ Back ∷ NotOwnLatest ∷ NotAddressed ∷ Misheard ∷ Memory ∷ []

-- Why an evaluation isn't entered: the clauses of all misfits before this one hold, and its own fails.
-- So memory is wanting only where the evaluation fits.
pub record IsMisfit (first : List ℕ) (older : List Evaluated) (x : Evaluated) (misfit : Misfit) : Type 0 where
  pub place : ℕ
  pub at : slice_get misfits place ≡ Some misfit
  pub kept : AllByRecursion (KeepsClause first older x) (take place misfits)
  pub fails : ¬ (KeepsClause first older x misfit)
