-- What is found in a resource's files.
use Rattle.std.specs.Prelude.{ℕ, List, Option, Result, Ok, Err}
use Rattle.std.specs.Global.{Vec}
use Rattle.keepers.specs.declared.keeper_fault.KeeperFault.{KeeperFault}
use Rattle.keepers.specs.declared.keeper_fault.KeeperFault.TheVariants as fault
use Rattle.keepers.specs.declared.folder_fault.FolderFault.TheVariants as folder
use Rattle.keepers.specs.KnownFiles.{KnownFile, Reading, IsRead}
use Rattle.keepers.specs.KeptNumbers.{KeepsNumber, KeepsNoneFrom}

-- What is read of a file, as a keeper tells it: Unreadable where the folder answers that it can't read it, Memory where it
-- answers that memory is wanting.
abbrev pub IsReadOf : Reading → KnownFile → List ℕ → ℕ → Result (Option (Vec ℕ)) KeeperFault → Type 0
IsReadOf answers file name most (Ok found) = IsRead file most (Ok found)
IsReadOf answers file name most (Err fault.Unreadable) = IsRead file most (Err folder.Failed) × answers name most (Err folder.Failed)
IsReadOf answers file name most (Err fault.Unwritable) = ⊥
IsReadOf answers file name most (Err fault.Spent) = ⊥
IsReadOf answers file name most (Err fault.Memory) = answers name most (Err folder.Memory)

-- the number that a file keeps was found, or it keeps none
abbrev pub IsFound : KnownFile → Result ℕ KeeperFault → Type 0
IsFound file (Ok n) = KeepsNumber file n
IsFound file (Err fault.Unreadable) = KeepsNoneFrom file 0
IsFound file (Err fault.Unwritable) = ⊥
IsFound file (Err fault.Spent) = ⊥
IsFound file (Err fault.Memory) = Unit {0}
