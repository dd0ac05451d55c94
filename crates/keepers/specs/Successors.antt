-- Keepers of one resource over the same files, one after the other.
use Rattle.std.specs.Prelude.{◌≡◌, ◌≢◌, ◌⊎◌, ◌<◌, ℕ, List, [], ◌∷◌, Result, Ok}
use Rattle.keepers.specs.declared.keeper_fault.KeeperFault.{KeeperFault}
use Rattle.keepers.specs.KnownFiles.{KnownFile, Replacing, IsStored}
use Rattle.keepers.specs.KnownFiles.KnownFile.{Unknown}
use Rattle.keepers.specs.KeptNumbers.{IsRaisedIn, number_file, temporary_file}
use Rattle.keepers.specs.KeptRetained.{retained_file}

-- A keeper of a resource did this to a folder: it was raised, or was to keep bytes of a task, whatever it answered.
abbrev pub KeeperDid : {F : Type 0} → (F → Replacing) → (F → List ℕ → KnownFile) → List ℕ → F → F → Type 0
KeeperDid answers file resource old new =
    ((last : ℕ) × (answer : Result ℕ KeeperFault) × IsRaisedIn (answers old) (file old) (file new) resource last answer)
    ⊎ ((task : ℕ) × (bytes : List ℕ) × (answer : Result (Unit {0}) KeeperFault)
    × IsStored (answers old) (file old) (file new) (retained_file resource task) (temporary_file resource) bytes answer)

-- something is known of the file of a resource's number
abbrev pub IsNumberKnown : {F : Type 0} → (F → List ℕ → KnownFile) → List ℕ → F → Type 0
IsNumberKnown file resource folder = file folder (number_file resource) ≢ Unknown

-- Keepers of a resource, however many, did what leads over these folders to the last one, and something is known of the file
-- of the number in each.
abbrev pub KeepersDid : {F : Type 0} → (F → Replacing) → (F → List ℕ → KnownFile) → List ℕ → F → List F → F → Type 0
KeepersDid answers file resource old [] new = new ≡ old
KeepersDid answers file resource old (next ∷ later) new =
    KeeperDid answers file resource old next × IsNumberKnown file resource next
    × KeepersDid answers file resource next later new

-- What a keeper of a resource answers to a raise is above what another one, or itself, answered before over the same files.
abbrev pub RaisesRise : {F : Type 0} → (F → Replacing) → (F → List ℕ → KnownFile) → Type 0
RaisesRise {F} answers file =
    (resource : List ℕ) (first last second other : ℕ) (before raised now after : F) (between : List F)
    → IsRaisedIn (answers before) (file before) (file raised) resource last (Ok first)
    → IsNumberKnown file resource raised
    → KeepersDid answers file resource raised between now
    → IsRaisedIn (answers now) (file now) (file after) resource other (Ok second)
    → first < second
