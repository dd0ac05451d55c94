-- The book of an audit, with what is known of the resources' incarnations.
use Rattle.std.specs.Prelude.{ℕ, List, [], slice_index, slice_index_or}
use Rattle.plant.specs.PlantValue.{PlantValue}
use Rattle.book.specs.Book.{BookValue}
use Rattle.audit.specs.Reasons.{CanHaveBeen}

-- a plant, its book, and of each resource the incarnation to which it has come, those in which its STARTs and RESTARTs put it,
-- and how many it has skipped
pub record AuditedBook : Type 0 where
  pub plant : PlantValue
  pub book : BookValue
  pub present : List ℕ
  pub risen : List (List ℕ)
  pub skips : List ℕ

-- the incarnations in which a resource's STARTs and RESTARTs put it
abbrev pub risen_at : AuditedBook → ℕ → List ℕ
risen_at b n = slice_index_or b.risen n []

-- a resource can have been in an incarnation
abbrev pub CanBeHeard : AuditedBook → ℕ → ℕ → Type 0
CanBeHeard b n i = CanHaveBeen (slice_index b.present n) (risen_at b n) i
