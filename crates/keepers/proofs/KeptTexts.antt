-- Which values a file keeps.
use Rattle.std.proofs.Common.{arith, ◌≡◌, ℕ, ◌<◌, List, length, take, Some, None, Result, Ok, Err, sym, ap, subst, ◌∙◌}
use Rattle.std.specs.Prelude.{IsErrAnd}
use Rattle.std.specs.List.{AllByRecursion}
use Rattle.std.specs.Global.{Vec}
use Rattle.std.proofs.lemmas.List.{length-take, take_all}
use Rattle.std.proofs.lemmas.Option.{none-some}
use Rattle.std_blocks.specs.declared.value.Value.{Value}
use Rattle.task_codes.specs.CodeValue.{CodeValue}
use Rattle.evaluation.specs.Retained.{Suits}
use Rattle.text_lines.specs.ReadParts.{IsInRange}
use Rattle.keepers.specs.declared.folder_fault.FolderFault.TheVariants.{Failed}
use Rattle.keepers.specs.KnownFiles.{KnownFile, Reading, IsRead}
use Rattle.keepers.specs.KnownFiles.KnownFile.{Unknown, Missing, Holding, Broken}
use Rattle.keepers.specs.KeptRetained.{KeepsValues, KeepsNoValues, IsToldOf, retained_text, DepartsAt}
use Rattle.keepers.specs.Steps.Reading.{IsLonger}
use Rattle.keepers.specs.declared.keeper_fault.KeeperFault.{KeeperFault}
use Rattle.keepers.specs.declared.keeper_fault.KeeperFault.TheVariants as fault
use Rattle.keepers.specs.Steps.Raising.{IsReadOf}
use Rattle.keepers.proofs.RetainedTexts.{departs_none}

-- the first bytes are a text that is shorter than they may be only where they are all
pub whole : (most : ℕ) (bytes text : List ℕ) → length text < most → take most bytes ≡ text → bytes ≡ text
whole most bytes text short is = sym (take_all most bytes (omega (arith, length-take most bytes, ap (λ b. length b) is, short))) ∙ is

-- values whose text was read are kept
pub keeps_values : (file : KnownFile) (code : CodeValue) (most : ℕ) (bytes : Vec ℕ) (values : List Value) → IsLonger code most → IsRead file most (Ok (Some bytes))
    → Suits code values → AllByRecursion IsInRange values → bytes.items ≡ retained_text code values → KeepsValues file code values
keeps_values Unknown code most bytes values longer read suits ranges is = tt
keeps_values Missing code most bytes values longer read suits ranges is = absurd (none-some bytes (sym read))
keeps_values (Holding held) code most bytes values longer read suits ranges is = whole most held (retained_text code values) (longer values suits ranges) (sym read ∙ is)
keeps_values Broken code most bytes values longer read suits ranges is = absurd read

-- where what was read departs, none are kept
pub keeps_no_values : (file : KnownFile) (code : CodeValue) (most place : ℕ) (bytes : Vec ℕ) → IsLonger code most → IsRead file most (Ok (Some bytes))
    → DepartsAt code bytes.items place → KeepsNoValues file code
keeps_no_values Unknown code most place bytes longer read departs = tt
keeps_no_values Missing code most place bytes longer read departs = absurd (none-some bytes (sym read))
keeps_no_values (Holding held) code most place bytes longer read departs =
    λ values suits ranges is.
    let short = longer values suits ranges in
    let all : take most held ≡ held = take_all most held (omega (arith, short, ap (λ b. length b) is)) in
    departs_none code bytes.items place departs values suits ranges (read ∙ all ∙ is)
keeps_no_values Broken code most place bytes longer read departs = tt

-- a file that isn't there keeps the initial ones
pub keeps_none_read : (file : KnownFile) (code : CodeValue) (most : ℕ) (values : List Value) → IsRead file most (Ok None) → KeepsValues Missing code values → KeepsValues file code values
keeps_none_read Unknown code most values read initial = tt
keeps_none_read Missing code most values read initial = initial
keeps_none_read (Holding held) code most values read initial = absurd read
keeps_none_read Broken code most values read initial = absurd read

-- a file that can't be read keeps none
pub keeps_none_failed : (file : KnownFile) (code : CodeValue) (most : ℕ) → IsRead file most (Err Failed) → KeepsNoValues file code
keeps_none_failed Unknown code most read = tt
keeps_none_failed Missing code most read = absurd read
keeps_none_failed (Holding held) code most read = absurd read
keeps_none_failed Broken code most read = tt

-- what a fault in reading a file tells
told_fault : (answers : Reading) (file : KnownFile) (name : List ℕ) (code : CodeValue) (most : ℕ) (e : KeeperFault) → IsReadOf answers file name most (Err e) → IsToldOf file code (Err e)
told_fault answers file name code most fault.Unreadable read = keeps_none_failed file code most read.0
told_fault answers file name code most fault.Unwritable read = absurd read
told_fault answers file name code most fault.Spent read = absurd read
told_fault answers file name code most fault.Memory read = tt

pub told_failed : (answers : Reading) (file : KnownFile) (name : List ℕ) (code : CodeValue) (most : ℕ) (e : KeeperFault) (r : Result (List Value) KeeperFault) → IsErrAnd r (λ f. f ≡ e) → IsReadOf answers file name most (Err e)
    → IsToldOf file code r
told_failed answers file name code most e (Ok values) is read = absurd is
told_failed answers file name code most e (Err f) is read = subst (λ (g : KeeperFault). IsToldOf file code (Err g)) (sym is) (told_fault answers file name code most e read)
