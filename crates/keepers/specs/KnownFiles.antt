-- What is known of the files of a folder, and what reading and replacing one of them does.
use Rattle.std.specs.Prelude.{◌≡◌, ◌≢◌, ℕ, ◌⊎◌, List, Option, Some, None, Result, Ok, Err, take}
use Rattle.std.specs.Global.{Vec}
use Rattle.keepers.specs.declared.keeper_fault.KeeperFault.{KeeperFault}
use Rattle.keepers.specs.declared.keeper_fault.KeeperFault.TheVariants as keeper
use Rattle.keepers.specs.declared.folder_fault.FolderFault.{FolderFault}
use Rattle.keepers.specs.declared.folder_fault.FolderFault.TheVariants as fault

-- What is known of a file: nothing; that there is none; that it holds these bytes; that it can't be read.
pub data KnownFile : Type 0 where
  Unknown : KnownFile
  Missing : KnownFile
  Holding : List ℕ → KnownFile
  Broken : KnownFile

-- what is read of a file of which this is known, if memory isn't wanting: so many of its first bytes, or all if it has no more
abbrev pub IsRead : KnownFile → ℕ → Result (Option (Vec ℕ)) FolderFault → Type 0
IsRead file most (Err fault.Memory) = Unit {0}
IsRead Unknown most found = Unit {0}
IsRead Missing most (Ok found) = found ≡ None
IsRead (Holding bytes) most (Ok None) = ⊥
IsRead (Holding bytes) most (Ok (Some found)) = found.items ≡ take most bytes
IsRead Broken most (Ok found) = ⊥
IsRead Missing most (Err fault.Failed) = ⊥
IsRead (Holding bytes) most (Err fault.Failed) = ⊥
IsRead Broken most (Err fault.Failed) = Unit {0}

-- what a folder may answer where so many of the first bytes of a file are to be read
abbrev pub Reading : Type 1
Reading = List ℕ → ℕ → Result (Option (Vec ℕ)) FolderFault → Type 0

-- If a file can't be read, the folder may answer so.
abbrev pub MayFail : Reading → List ℕ → KnownFile → Type 0
MayFail answers name Unknown = Unit {0}
MayFail answers name Missing = Unit {0}
MayFail answers name (Holding bytes) = Unit {0}
MayFail answers name Broken = (most : ℕ) × answers name most (Err fault.Failed)

-- Unreadable is told of a file that can't be read only where the folder may answer so.
abbrev pub IsAnswered : Reading → List ℕ → KnownFile → KeeperFault → Type 0
IsAnswered answers name file keeper.Unreadable = MayFail answers name file
IsAnswered answers name file keeper.Unwritable = Unit {0}
IsAnswered answers name file keeper.Spent = Unit {0}
IsAnswered answers name file keeper.Memory = Unit {0}

-- If anything is known of a file, it is that it can't be read.
abbrev pub CantBeRead : KnownFile → Type 0
CantBeRead Unknown = Unit {0}
CantBeRead Missing = ⊥
CantBeRead (Holding bytes) = ⊥
CantBeRead Broken = Unit {0}

-- If anything is known of a file, it is that it holds these bytes.
abbrev pub Holds : KnownFile → List ℕ → Type 0
Holds Unknown bytes = Unit {0}
Holds Missing bytes = ⊥
Holds (Holding held) bytes = held ≡ bytes
Holds Broken bytes = ⊥

-- What is known of all files but these two is as before.
abbrev pub AreOthersKept : (List ℕ → KnownFile) → (List ℕ → KnownFile) → List ℕ → List ℕ → Type 0
AreOthersKept old new name temporary = (other : List ℕ) → other ≢ name → other ≢ temporary → new other ≡ old other

-- A file was replaced by way of a temporary one: it holds the new bytes.
pub record IsReplaced (old new : List ℕ → KnownFile) (name temporary bytes : List ℕ) : Type 0 where
  pub held : Holds (new name) bytes
  pub others : AreOthersKept old new name temporary

-- A file was to be replaced, and is as before.
pub record IsKept (old new : List ℕ → KnownFile) (name temporary : List ℕ) : Type 0 where
  pub same : new name ≡ old name
  pub others : AreOthersKept old new name temporary

-- It is as before, or was replaced.
abbrev pub IsKeptOrReplaced : (List ℕ → KnownFile) → (List ℕ → KnownFile) → List ℕ → List ℕ → List ℕ → Type 0
IsKeptOrReplaced old new name temporary bytes = IsKept old new name temporary ⊎ IsReplaced old new name temporary bytes

-- what replacing a file leaves: after Ok the new bytes, after a fault these or what was there
abbrev pub IsReplacing : (List ℕ → KnownFile) → (List ℕ → KnownFile) → List ℕ → List ℕ → List ℕ → Result (Unit {0}) FolderFault → Type 0
IsReplacing old new name temporary bytes (Ok done) = IsReplaced old new name temporary bytes
IsReplacing old new name temporary bytes (Err fault) = IsKeptOrReplaced old new name temporary bytes

-- what a folder may answer where a file is to be replaced, by way of a temporary one, by bytes
abbrev pub Replacing : Type 1
Replacing = List ℕ → List ℕ → List ℕ → Result (Unit {0}) FolderFault → Type 0

-- A folder may have refused to replace a file for this reason, and the file is as before, or was replaced.
abbrev pub IsRefused : Replacing → FolderFault → (List ℕ → KnownFile) → (List ℕ → KnownFile) → List ℕ → List ℕ → List ℕ → Type 0
IsRefused answers why old new name temporary bytes =
    answers name temporary bytes (Err why) × IsKeptOrReplaced old new name temporary bytes

-- What keeping bytes in a file leaves: after Ok they are kept. It is Unwritable only where the folder answers so; where
-- memory is wanting, the folder answers so, or no file has changed. After both these bytes are there, or what was there.
abbrev pub IsStored : Replacing → (List ℕ → KnownFile) → (List ℕ → KnownFile) → List ℕ → List ℕ → List ℕ → Result (Unit {0}) KeeperFault → Type 0
IsStored answers old new name temporary bytes (Ok done) = IsReplaced old new name temporary bytes
IsStored answers old new name temporary bytes (Err keeper.Unreadable) = ⊥
IsStored answers old new name temporary bytes (Err keeper.Unwritable) =
    IsRefused answers fault.Failed old new name temporary bytes
IsStored answers old new name temporary bytes (Err keeper.Spent) = ⊥
IsStored answers old new name temporary bytes (Err keeper.Memory) =
    (new ≡ old) ⊎ IsRefused answers fault.Memory old new name temporary bytes

-- What keeping bytes in a file may answer: Unwritable only where the folder may answer that it can't, and no other fault
-- but Memory.
abbrev pub MayStore : Replacing → List ℕ → List ℕ → List ℕ → Result (Unit {0}) KeeperFault → Type 0
MayStore answers name temporary bytes (Ok done) = Unit {0}
MayStore answers name temporary bytes (Err keeper.Unreadable) = ⊥
MayStore answers name temporary bytes (Err keeper.Unwritable) = answers name temporary bytes (Err fault.Failed)
MayStore answers name temporary bytes (Err keeper.Spent) = ⊥
MayStore answers name temporary bytes (Err keeper.Memory) = Unit {0}
