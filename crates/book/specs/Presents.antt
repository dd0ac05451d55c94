-- The present incarnations of the resources, entry by entry. Entries stand with the newest first.
use Rattle.std.specs.Prelude.{◌≡◌, ℕ, ◌<◌, List, ◌∷◌, length, slice_index}
use Rattle.evaluation.specs.Meaning.{Evaluated}
use Rattle.book.specs.Fits.{present_in}

-- these are the present incarnations of the resources after these entries
pub record ArePresent (first : List ℕ) (older : List Evaluated) (present : List ℕ) : Type 0 where
  pub sized : length present ≡ length first
  pub each : (n : ℕ) → n < length first → slice_index present n ≡ present_in first older n

-- whatever entries the old numbers are the present incarnations of, the new ones are those with one more entry, x
abbrev pub ArePresentWith : Evaluated → List ℕ → List ℕ → Type 0
ArePresentWith x old new =
    (first : List ℕ) (older : List Evaluated) → ArePresent first older old → ArePresent first (x ∷ older) new
