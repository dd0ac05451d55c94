-- Where a keeper tells Unreadable of a file that can't be read, the folder answered so.
use Rattle.std.proofs.Common.{◌≡◌, ℕ, List, Option, Result, Ok, Err, sym, subst}
use Rattle.std.specs.Prelude.{IsErrAnd, IfErr}
use Rattle.std.specs.Global.{Vec}
use Rattle.keepers.specs.declared.keeper_fault.KeeperFault.{KeeperFault}
use Rattle.keepers.specs.declared.keeper_fault.KeeperFault.TheVariants as fault
use Rattle.keepers.specs.declared.folder_fault.FolderFault.TheVariants.{Failed}
use Rattle.keepers.specs.KnownFiles.{KnownFile, Reading, MayFail, IsAnswered, IsRead}
use Rattle.keepers.specs.KnownFiles.KnownFile.{Unknown, Missing, Holding, Broken}
use Rattle.keepers.specs.KeptNumbers.{KeepsNumber}
use Rattle.keepers.specs.Steps.Raising.{IsReadOf}

-- a file that was read can be read
may_read : (answers : Reading) (file : KnownFile) (name : List ℕ) (most : ℕ) (found : Option (Vec ℕ)) → IsRead file most (Ok found) → MayFail answers name file
may_read answers Unknown name most found read = tt
may_read answers Missing name most found read = tt
may_read answers (Holding bytes) name most found read = tt
may_read answers Broken name most found read = absurd read

-- so any fault may be told of it
may_tell : (answers : Reading) (file : KnownFile) (name : List ℕ) (e : KeeperFault) → MayFail answers name file → IsAnswered answers name file e
may_tell answers file name fault.Unreadable may = may
may_tell answers file name fault.Unwritable may = tt
may_tell answers file name fault.Spent may = tt
may_tell answers file name fault.Memory may = tt

pub answered_read : {T : Type 0} (answers : Reading) (file : KnownFile) (name : List ℕ) (most : ℕ) (found : Option (Vec ℕ)) (r : Result T KeeperFault) → IsRead file most (Ok found) → IfErr r (IsAnswered answers name file)
answered_read answers file name most found (Ok done) read = tt
answered_read answers file name most found (Err e) read = may_tell answers file name e (may_read answers file name most found read)

-- and of one that keeps a number
pub answered_kept : (answers : Reading) (file : KnownFile) (name : List ℕ) (n : ℕ) → KeepsNumber file n → MayFail answers name file
answered_kept answers Unknown name n keeps = tt
answered_kept answers Missing name n keeps = tt
answered_kept answers (Holding bytes) name n keeps = tt
answered_kept answers Broken name n keeps = absurd keeps

-- where it can't be read, the folder answered so
may_fail : (answers : Reading) (file : KnownFile) (name : List ℕ) (most : ℕ) → answers name most (Err Failed) → MayFail answers name file
may_fail answers Unknown name most failed = tt
may_fail answers Missing name most failed = tt
may_fail answers (Holding bytes) name most failed = tt
may_fail answers Broken name most failed = (most, failed)

fault_answered : (answers : Reading) (file : KnownFile) (name : List ℕ) (most : ℕ) (e : KeeperFault) → IsReadOf answers file name most (Err e) → IsAnswered answers name file e
fault_answered answers file name most fault.Unreadable read = may_fail answers file name most read.1
fault_answered answers file name most fault.Unwritable read = tt
fault_answered answers file name most fault.Spent read = tt
fault_answered answers file name most fault.Memory read = tt

pub answered_failed : {T : Type 0} (answers : Reading) (file : KnownFile) (name : List ℕ) (most : ℕ) (e : KeeperFault) (r : Result T KeeperFault) → IsErrAnd r (λ f. f ≡ e) → IsReadOf answers file name most (Err e)
    → IfErr r (IsAnswered answers name file)
answered_failed answers file name most e (Ok done) is read = tt
answered_failed answers file name most e (Err f) is read = subst (IsAnswered answers name file) (sym is) (fault_answered answers file name most e read)
