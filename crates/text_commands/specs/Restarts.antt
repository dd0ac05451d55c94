-- What a restart of a ladder leaves, and what is given to its scans.
use Rattle.std.specs.Prelude.{ℕ, zero, suc, ◌+◌, ◌==◌, ◌++◌, if◌then◌else◌, List, [], ◌∷◌, Bool, false, fold, length, map, max, replicate, sum_by}
use Rattle.std.specs.List.{AllZip, flat_map, list_any, slice_split}
use Rattle.network.specs.Links.{Diagram}
use Rattle.declared_names.specs.declared.declarations.Declaration.{Declaration}
use Rattle.scan_steps.specs.declared.slot.Slot.{Slot}
use Rattle.scan_steps.specs.First.{slot_first}
use Rattle.scan_steps.specs.Slots.{variable_at}
use Rattle.text_commands.specs.Series.{IsCount, SeriesValue, is_comma, set_value}
use Rattle.text_commands.specs.Stores.{stored_places}

-- what a restart leaves: all is as at first, but for the variables that are kept
abbrev pub restarted : List ℕ → List Slot → List Slot → List Slot
restarted kept first slots = fold (λ fresh place. set_value fresh place (variable_at slots place)) first kept

-- the place, unless something is stored there
abbrev pub place_unless : List ℕ → ℕ → List ℕ
place_unless stored place = if list_any (λ other. other == place) stored then [] else place ∷ []

-- those of the first so many places
abbrev pub unstored_to : List ℕ → ℕ → List ℕ
unstored_to stored zero = []
unstored_to stored (suc place) = unstored_to stored place ++ place_unless stored place

-- the places of the inputs, at which no coil and no output pin stores: what stands there belongs to the outside
abbrev pub input_places : List Declaration → List Diagram → List ℕ
input_places ds networks = unstored_to (stored_places ds networks) (length ds)

-- what is kept: inputs and retained variables
abbrev pub kept_places : List Declaration → List Diagram → List ℕ → List ℕ
kept_places ds networks retained = input_places ds networks ++ retained

-- what stands at each name before the first scan
abbrev pub first_slots : List Declaration → List Slot
first_slots ds = map (λ (e : Declaration). slot_first e.declared) ds

-- all memories OFF
abbrev pub memories_off : List Diagram → List Bool
memories_off networks = replicate (sum_by (λ (d : Diagram). length d.elements) networks) false

-- the scans before which a ladder restarts, as words K[,K..] give them: each a number from 1 to 1,000,000
abbrev pub AreRestarts : List (List ℕ) → List ℕ → Type 0
AreRestarts words restarts = AllZip IsCount (flat_map (slice_split is_comma) words) restarts

-- what is given to the scans of a ladder: what words set; before which scans, counted from 1, it restarts; and which
-- places are kept then
pub record GivenValue : Type 0 where
  pub rows : List SeriesValue
  pub restarts : List ℕ
  pub kept : List ℕ

-- words alone: there is no restart
abbrev pub without_restarts : List SeriesValue → GivenValue
without_restarts rows = record { rows = rows; restarts = []; kept = [] }

-- there is a restart before scan k, counted from 0
abbrev pub restarts_at : GivenValue → ℕ → Bool
restarts_at given k = list_any (λ scan. scan == k + 1) given.restarts

-- the scan of the last restart; 0, where there is none
abbrev pub last_restart : List ℕ → ℕ
last_restart restarts = fold max 0 restarts

-- what stands at each name before scan k, counted from 0, where these stood behind the scan before it
abbrev pub opened_slots : List Declaration → GivenValue → ℕ → List Slot → List Slot
opened_slots ds given k slots = if restarts_at given k then restarted given.kept (first_slots ds) slots else slots

-- and the memories
abbrev pub opened_memories : List Diagram → GivenValue → ℕ → List Bool → List Bool
opened_memories networks given k memories = if restarts_at given k then memories_off networks else memories
