-- What stands in a folder isn't touched where a file is replaced by way of a new one.
use Rattle.std.proofs.Common.{◌≡◌, ◌≢◌, List, ℕ, None, Result, Ok, Err, inl, inr, refl, subst}
use Rattle.keepers.specs.KnownFiles.{KnownFile, IsRead, IsReplacing}
use Rattle.keepers.specs.KnownFiles.KnownFile.{Unknown, Missing, Holding, Broken}
use Rattle.keepers.specs.declared.folder_fault.FolderFault.{FolderFault}
use Rattle.plc_main.specs.Steps.Replacing.{AreOthersSpared, IsFreeName, IsReplacedBeside, IsThere, MayBeMissing, name_beside}

-- where no file is read there may be none
none_read : (file : KnownFile) (most : ℕ) → IsRead file most (Ok None) → MayBeMissing file
none_read Unknown most r = tt
none_read Missing most r = tt
none_read (Holding bytes) most r = r
none_read Broken most r = r

pub is_free_name : (files : List ℕ → KnownFile) (name free : List ℕ) (k most : ℕ) → free ≡ name_beside name k → IsRead (files free) most (Ok None) → IsFreeName files name free
is_free_name files name free k most is read = record { place = k; is = is; missing = none_read (files free) most read }

not_there : (file : KnownFile) → MayBeMissing file → IsThere file → ⊥
not_there Unknown missing there = there
not_there Missing missing there = there
not_there (Holding bytes) missing there = missing
not_there Broken missing there = missing

another : (files : List ℕ → KnownFile) (free other : List ℕ) → MayBeMissing (files free) → IsThere (files other) → other ≢ free
another files free other missing there e = not_there (files free) missing (subst (λ f. IsThere (files f)) e there)

spared : (old new : List ℕ → KnownFile) (name free text : List ℕ) (result : Result (Unit {0}) FolderFault) → MayBeMissing (old free) → IsReplacing old new name free text result → AreOthersSpared old new name
spared old new name free text (Ok done) missing replaced = λ other apart there. replaced.others other apart (another old free other missing there)
spared old new name free text (Err fault) missing (inl kept) = λ other apart there. kept.others other apart (another old free other missing there)
spared old new name free text (Err fault) missing (inr replaced) = λ other apart there. replaced.others other apart (another old free other missing there)

-- it was replaced by way of a file at whose name nothing stood
pub replaced_beside : (old new : List ℕ → KnownFile) (name free text : List ℕ) (result : Result (Unit {0}) FolderFault) → IsFreeName old name free → IsReplacing old new name free text result
    → IsReplacedBeside old new name text result
replaced_beside old new name free text result is replaced = inr (record {
  free = free;
  is = is;
  replaced = replaced;
  spared = spared old new name free text result is.missing replaced;
})

-- where it isn't begun nothing has changed
pub not_begun : (files : List ℕ → KnownFile) (name text : List ℕ) (fault : FolderFault) → IsReplacedBeside files files name text (Err fault)
not_begun files name text fault = inl refl
