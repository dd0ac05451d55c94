-- How the text of a file is put in the place of what it held: by way of a temporary file, at whose name nothing stood.
use Rattle.std.specs.Prelude.{◌≡◌, ◌≢◌, ℕ, ◌⊎◌, ◌++◌, ◌==◌, if◌then◌else◌, List, Result, Ok, Err, codes}
use Rattle.std.specs.Fmt.{decimal}
use Rattle.keepers.specs.KnownFiles.{KnownFile, IsReplacing}
use Rattle.keepers.specs.KnownFiles.KnownFile.{Unknown, Missing, Holding, Broken}
use Rattle.keepers.specs.declared.folder_fault.FolderFault.{FolderFault}

-- the names for a temporary file beside a file; they count from 0
abbrev pub name_beside : List ℕ → ℕ → List ℕ
name_beside name k = if k == 0 then name ++ codes ".tmp" else name ++ codes "." ++ decimal k ++ codes ".tmp"

-- If anything is known of a file, it is that there is none.
abbrev pub MayBeMissing : KnownFile → Type 0
MayBeMissing Unknown = Unit {0}
MayBeMissing Missing = Unit {0}
MayBeMissing (Holding bytes) = ⊥
MayBeMissing Broken = ⊥

-- It is known that there is a file.
abbrev pub IsThere : KnownFile → Type 0
IsThere Unknown = ⊥
IsThere Missing = ⊥
IsThere (Holding bytes) = Unit {0}
IsThere Broken = Unit {0}

-- a name for a temporary file beside a file, at which nothing is known to stand
pub record IsFreeName (files : List ℕ → KnownFile) (name free : List ℕ) : Type 0 where
  pub place : ℕ
  pub is : free ≡ name_beside name place
  pub missing : MayBeMissing (files free)

-- Each other file that is known to be there is as it was.
abbrev pub AreOthersSpared : (List ℕ → KnownFile) → (List ℕ → KnownFile) → List ℕ → Type 0
AreOthersSpared old new name = (other : List ℕ) → other ≢ name → IsThere (old other) → new other ≡ old other

-- What a file held was replaced by way of a temporary one, at whose name nothing was known to stand; or, after a fault, it may
-- be as it was. No other file that is known to be there has changed.
pub record IsReplacedByNew (old new : List ℕ → KnownFile) (name text : List ℕ) (result : Result (Unit {0}) FolderFault)
    : Type 0 where
  pub free : List ℕ
  pub is : IsFreeName old name free
  pub replaced : IsReplacing old new name free text result
  pub spared : AreOthersSpared old new name

-- It wasn't begun: there is a fault, and nothing has changed.
abbrev pub IsNotBegun : (List ℕ → KnownFile) → (List ℕ → KnownFile) → Result (Unit {0}) FolderFault → Type 0
IsNotBegun old new (Ok done) = ⊥
IsNotBegun old new (Err fault) = new ≡ old

-- what putting a text in the place of what a file held leaves
abbrev pub IsReplacedBeside : (List ℕ → KnownFile) → (List ℕ → KnownFile) → List ℕ → List ℕ → Result (Unit {0}) FolderFault → Type 0
IsReplacedBeside old new name text result = IsNotBegun old new result ⊎ IsReplacedByNew old new name text result
