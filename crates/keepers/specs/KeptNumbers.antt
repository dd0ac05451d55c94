-- The file in which a resource's incarnation is kept, and what raising it does.
use Rattle.std.specs.Prelude.{◌≡◌, ◌≢◌, ℕ, ◌+◌, ◌<◌, ◌≤◌, ◌^◌, ◌⊎◌, ◌++◌, List, Result, Ok, Err, codes}
use Rattle.std.specs.Fmt.{decimal}
use Rattle.keepers.specs.declared.keeper_fault.KeeperFault.{KeeperFault}
use Rattle.keepers.specs.declared.keeper_fault.KeeperFault.TheVariants as fault
use Rattle.keepers.specs.declared.folder_fault.FolderFault.{FolderFault}
use Rattle.keepers.specs.declared.folder_fault.FolderFault.TheVariants as folder
use Rattle.keepers.specs.KnownFiles.{KnownFile, Reading, Replacing, MayFail, IsReplaced, IsRefused}
use Rattle.keepers.specs.KnownFiles.KnownFile.{Unknown, Missing, Holding, Broken}

-- the name of a resource's file
abbrev pub number_file : List ℕ → List ℕ
number_file resource = resource ++ codes ".inc"

-- the name of the file by way of which it is replaced
abbrev pub temporary_file : List ℕ → List ℕ
temporary_file resource = resource ++ codes ".tmp"

-- an incarnation is kept as a decimal number and a line feed
abbrev pub number_text : ℕ → List ℕ
number_text n = decimal n ++ codes "\n"

-- If anything is known of a file, it keeps this number; no file keeps 0.
abbrev pub KeepsNumber : KnownFile → ℕ → Type 0
KeepsNumber Unknown n = Unit {0}
KeepsNumber Missing n = n ≡ 0
KeepsNumber (Holding bytes) n = bytes ≡ number_text n
KeepsNumber Broken n = ⊥

-- If anything is known of a file, it keeps no incarnation from this number on.
abbrev pub KeepsNoneFrom : KnownFile → ℕ → Type 0
KeepsNoneFrom Unknown last = Unit {0}
KeepsNoneFrom Missing last = 0 < last
KeepsNoneFrom (Holding bytes) last = (n : ℕ) → last ≤ n → n < 2 ^ 32 → bytes ≢ number_text n
KeepsNoneFrom Broken last = Unit {0}

-- The file keeps n, no less than the last answer and no greatest incarnation.
pub record IsRaisable (file : KnownFile) (last n : ℕ) : Type 0 where
  pub kept : KeepsNumber file n
  pub above : last ≤ n
  pub small : n + 1 < 2 ^ 32

-- the number after the one that a file keeps, or why there is none, in this order
abbrev pub IsNext : KnownFile → ℕ → Result ℕ KeeperFault → Type 0
IsNext file last (Ok i) = (n : ℕ) × IsRaisable file last n × (i ≡ n + 1)
IsNext file last (Err fault.Unreadable) = KeepsNoneFrom file last
IsNext file last (Err fault.Spent) = KeepsNumber file 4294967295
IsNext file last (Err fault.Unwritable) = ⊥
IsNext file last (Err fault.Memory) = Unit {0}

-- The number after the one kept was to be kept, and the folder answered a fault: the file is as before, or keeps it.
pub record IsTried (answers : Replacing) (why : FolderFault) (old new : List ℕ → KnownFile) (resource : List ℕ) (last : ℕ)
    : Type 0 where
  pub n : ℕ
  pub raisable : IsRaisable (old (number_file resource)) last n
  pub refused : IsRefused answers why old new (number_file resource) (temporary_file resource) (number_text (n + 1))

-- What a raise answers, and leaves in the folder: the next number is kept; or the fault, in this order, and no file is
-- changed, but where the folder answers that it can't replace it, or that memory is wanting.
abbrev pub IsRaisedIn : Replacing → (List ℕ → KnownFile) → (List ℕ → KnownFile) → List ℕ → ℕ → Result ℕ KeeperFault → Type 0
IsRaisedIn answers old new resource last (Ok i) =
    (n : ℕ) × IsRaisable (old (number_file resource)) last n × (i ≡ n + 1)
    × IsReplaced old new (number_file resource) (temporary_file resource) (number_text i)
IsRaisedIn answers old new resource last (Err fault.Unreadable) =
    KeepsNoneFrom (old (number_file resource)) last × (new ≡ old)
IsRaisedIn answers old new resource last (Err fault.Spent) =
    KeepsNumber (old (number_file resource)) 4294967295 × (new ≡ old)
IsRaisedIn answers old new resource last (Err fault.Unwritable) = IsTried answers folder.Failed old new resource last
IsRaisedIn answers old new resource last (Err fault.Memory) =
    (new ≡ old) ⊎ IsTried answers folder.Memory old new resource last

-- What a raise may answer, by the file and what the folder may answer alone: the number after the one that it keeps; or why
-- there is none, in this order, where Unwritable is told only if there is one, and the folder may answer that it can't
-- keep it.
abbrev pub MayAnswer : Reading → Replacing → KnownFile → List ℕ → ℕ → Result ℕ KeeperFault → Type 0
MayAnswer reads answers file resource last (Ok i) = (n : ℕ) × IsRaisable file last n × (i ≡ n + 1)
MayAnswer reads answers file resource last (Err fault.Unreadable) =
    KeepsNoneFrom file last × MayFail reads (number_file resource) file
MayAnswer reads answers file resource last (Err fault.Spent) = KeepsNumber file 4294967295
MayAnswer reads answers file resource last (Err fault.Unwritable) =
    (n : ℕ) × IsRaisable file last n
    × answers (number_file resource) (temporary_file resource) (number_text (n + 1)) (Err folder.Failed)
MayAnswer reads answers file resource last (Err fault.Memory) = Unit {0}
