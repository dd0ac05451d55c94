-- The cores before the first event.
use Rattle.std.specs.Prelude.{◌≡◌, ℕ, List, Some, length, slice_get, slice_index}
use Rattle.plant.specs.PlantValue.{PlantValue}
use Rattle.exchange_core.specs.CoreValue.{CoreValue, fresh_core}
use Rattle.world.specs.History.{Openings, openings_at}

-- so many cores of a world before its first event
pub record AreFresh (plant : PlantValue) (first : List ℕ) (opening : Openings) (max_number count : ℕ)
    (cores : List CoreValue) : Type 0 where
  pub sized : length cores ≡ count
  pub fresh : (n : ℕ) (core : CoreValue) → slice_get cores n ≡ Some core
      → core ≡ fresh_core plant n first (slice_index first n) (openings_at opening n) max_number

-- the cores of all resources of a plant
abbrev pub AreFreshCores : PlantValue → List ℕ → Openings → ℕ → List CoreValue → Type 0
AreFreshCores plant first opening max_number cores =
    AreFresh plant first opening max_number (length plant.resources) cores
