-- Scans of some networks of a ladder in place of all.
use Rattle.std.specs.Prelude.{◌≡◌, ℕ, List, [], ◌∷◌, ◌++◌, Bool, true, false, Some, length, slice_get, sum_by, take, drop}
use Rattle.drawings.specs.declared.place.Place.{Place}
use Rattle.network.specs.Links.{Diagram}
use Rattle.declared_names.specs.declared.declarations.Declaration.{Declaration}
use Rattle.scan_steps.specs.declared.slot.Slot.{Slot}
use Rattle.power_flow.specs.Scan.{ScanMeaning}
use Rattle.needed_networks.specs.declared.count_limit.CountLimit.{CountLimit}
use Rattle.needed_networks.specs.Needs.{IsIdle, IsClosed}
use Rattle.needed_networks.specs.Counts.{AreCounters, AreLimits, limited_at}

-- the networks that aren't left out
abbrev pub kept_networks : List Bool → List Diagram → List Diagram
kept_networks omitted [] = []
kept_networks [] (d ∷ networks) = d ∷ kept_networks [] networks
kept_networks (false ∷ omitted) (d ∷ networks) = d ∷ kept_networks omitted networks
kept_networks (true ∷ omitted) (d ∷ networks) = kept_networks omitted networks

-- their part of the memories
abbrev pub kept_memories : List Bool → List Diagram → List Bool → List Bool
kept_memories omitted [] ms = []
kept_memories [] (d ∷ networks) ms = take (length d.elements) ms ++ kept_memories [] networks (drop (length d.elements) ms)
kept_memories (false ∷ omitted) (d ∷ networks) ms =
    take (length d.elements) ms ++ kept_memories omitted networks (drop (length d.elements) ms)
kept_memories (true ∷ omitted) (d ∷ networks) ms = kept_memories omitted networks (drop (length d.elements) ms)

-- the left rail of each network stands at these places
abbrev pub HaveRails : List Diagram → List Place → Type 0
HaveRails networks rails = (k : ℕ) (d : Diagram) → slice_get networks k ≡ Some d → d.rails ≡ rails

-- how many memories the networks have
abbrev pub memory_count : List Diagram → ℕ
memory_count networks = sum_by (λ d. length d.elements) networks

-- what stands at each place that matters is the same
pub record AreAgreed (idle : List Bool) (slots others : List Slot) : Type 0 where
  pub long : length others ≡ length slots
  pub same : (k : ℕ) → (IsIdle idle k → ⊥) → slice_get slots k ≡ slice_get others k

-- A scan of the networks that aren't left out: from other slots that agree with those before a scan of all, with their part
-- of the memories, to slots that agree with those after it, and again their part.
pub record Follows (ds : List Declaration) (dt : ℕ) (idle omitted : List Bool) (networks : List Diagram) (ms : List Bool)
    (slots' : List Slot) (ms' : List Bool) (others : List Slot) : Type 0 where
  pub others' : List Slot
  pub scan : ScanMeaning ds dt (kept_networks omitted networks) others (kept_memories omitted networks ms) others' (kept_memories omitted networks ms')
  pub agreed : AreAgreed idle slots' others'
  pub many : length ms' ≡ memory_count networks

-- Where what is left out changes nothing that matters, the other networks alone make of what matters what all make of it.
abbrev pub SlicesFollow : Type 0
SlicesFollow = (ds : List Declaration) (dt : ℕ) (idle omitted : List Bool) (networks : List Diagram)
    (slots : List Slot) (ms : List Bool) (slots' : List Slot) (ms' : List Bool) (others : List Slot)
    → IsClosed ds idle omitted networks → length ms ≡ memory_count networks → AreAgreed idle slots others
    → ScanMeaning ds dt networks slots ms slots' ms' → Follows ds dt idle omitted networks ms slots' ms' others

-- what stands at each place that matters is the same, as far as its count matters
pub record AreAgreedWithin (idle : List Bool) (limits : List CountLimit) (slots others : List Slot) : Type 0 where
  pub long : length others ≡ length slots
  pub same : (k : ℕ) → (IsIdle idle k → ⊥) → limited_at limits slots k ≡ limited_at limits others k

-- a scan of the networks that aren't left out, from such slots to such slots
pub record FollowsWithin (ds : List Declaration) (dt : ℕ) (idle omitted : List Bool) (limits : List CountLimit)
    (networks : List Diagram) (ms : List Bool) (slots' : List Slot) (ms' : List Bool) (others : List Slot) : Type 0 where
  pub others' : List Slot
  pub scan : ScanMeaning ds dt (kept_networks omitted networks) others (kept_memories omitted networks ms) others' (kept_memories omitted networks ms')
  pub agreed : AreAgreedWithin idle limits slots' others'

-- Where no count beyond its limit can be told from it besides, they do so whatever the counts beyond the limits are.
abbrev pub CountsFollow : Type 0
CountsFollow = (ds : List Declaration) (dt : ℕ) (idle omitted : List Bool) (limits : List CountLimit) (networks : List Diagram)
    (slots : List Slot) (ms : List Bool) (slots' : List Slot) (ms' : List Bool) (others : List Slot)
    → IsClosed ds idle omitted networks → AreLimits ds limits omitted networks → AreCounters limits slots
    → AreCounters limits others → length ms ≡ memory_count networks → AreAgreedWithin idle limits slots others
    → ScanMeaning ds dt networks slots ms slots' ms' → FollowsWithin ds dt idle omitted limits networks ms slots' ms' others
