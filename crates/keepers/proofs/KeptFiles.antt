-- Which number a file keeps.
use Rattle.std.proofs.Common.{arith, ◌≡◌, ℕ, ◌<◌, ◌^◌, List, Option, Some, None, Result, Ok, Err, sym, subst, ◌∙◌}
use Rattle.std.specs.Prelude.{MatchOption, IsErrAnd}
use Rattle.std.specs.Global.{Vec}
use Rattle.std.specs.Option.{ok_or}
use Rattle.std.proofs.lemmas.Option.{none-some}
use Rattle.keepers.specs.declared.keeper_fault.KeeperFault.{KeeperFault}
use Rattle.keepers.specs.declared.keeper_fault.KeeperFault.TheVariants.{Unreadable, Unwritable, Spent, Memory}
use Rattle.keepers.specs.declared.folder_fault.FolderFault.TheVariants.{Failed}
use Rattle.keepers.specs.KnownFiles.{KnownFile, Reading, IsRead}
use Rattle.keepers.specs.KnownFiles.KnownFile.{Unknown, Missing, Holding, Broken}
use Rattle.keepers.specs.KeptNumbers.{KeepsNumber, KeepsNoneFrom, number_text}
use Rattle.keepers.specs.Steps.Raising.{IsFound, IsReadOf}
use Rattle.keepers.proofs.NumberTexts.{whole_text, same_number, text_read}

-- a file that keeps a number below another one keeps none from that one on
pub keeps_none_from : (file : KnownFile) (n last : ℕ) → n < 2 ^ 32 → KeepsNumber file n → n < last → KeepsNoneFrom file last
keeps_none_from Unknown n last small keeps below = tt
keeps_none_from Missing n last small keeps below = omega (arith, below)
keeps_none_from (Holding bytes) n last small keeps below =
    λ m from m_small is. absurd (omega (arith, below, from, same_number m n m_small small (sym is ∙ keeps)))
keeps_none_from Broken n last small keeps below = tt

-- bytes that were read are the text of the number that the file keeps, if they are one
keeps_read : (file : KnownFile) (bytes : Vec ℕ) (n : ℕ) → n < 2 ^ 32 → IsRead file 12 (Ok (Some bytes)) → bytes.items ≡ number_text n → KeepsNumber file n
keeps_read Unknown bytes n small read is = tt
keeps_read Missing bytes n small read is = absurd (none-some bytes (sym read))
keeps_read (Holding held) bytes n small read is = whole_text held n small (sym read ∙ is)
keeps_read Broken bytes n small read is = absurd read

-- and if they are none, it keeps none
keeps_none_read : (file : KnownFile) (bytes : Vec ℕ) → IsRead file 12 (Ok (Some bytes))
    → ((n : ℕ) → n < 2 ^ 32 → bytes.items ≡ number_text n → ⊥) → KeepsNoneFrom file 0
keeps_none_read Unknown bytes read none = tt
keeps_none_read Missing bytes read none = absurd (none-some bytes (sym read))
keeps_none_read (Holding held) bytes read none = λ n from small is. none n small (read ∙ text_read held n small is)
keeps_none_read Broken bytes read none = tt

-- so what is made of them is what the file keeps
pub found_read : (file : KnownFile) (bytes : Vec ℕ) (found : Option ℕ) → IsRead file 12 (Ok (Some bytes))
    → MatchOption found ((n : ℕ) → n < 2 ^ 32 → bytes.items ≡ number_text n → ⊥) (λ n. bytes.items ≡ number_text n)
    → MatchOption found (Unit {0}) (λ n. n < 2 ^ 32)
    → IsFound file (ok_or found Unreadable)
found_read file bytes None read is small = keeps_none_read file bytes read is
found_read file bytes (Some n) read is small = keeps_read file bytes n small read is

-- a file that can't be read keeps no number
none_failed : (file : KnownFile) → IsRead file 12 (Err Failed) → KeepsNoneFrom file 0
none_failed Unknown read = tt
none_failed Missing read = absurd read
none_failed (Holding held) read = absurd read
none_failed Broken read = tt

fault_found : (answers : Reading) (file : KnownFile) (name : List ℕ) (e : KeeperFault) → IsReadOf answers file name 12 (Err e) → IsFound file (Err e)
fault_found answers file name Unreadable read = none_failed file read.0
fault_found answers file name Unwritable read = absurd read
fault_found answers file name Spent read = absurd read
fault_found answers file name Memory read = tt

pub found_failed : (answers : Reading) (file : KnownFile) (name : List ℕ) (e : KeeperFault) (r : Result ℕ KeeperFault) → IsErrAnd r (λ f. f ≡ e) → IsReadOf answers file name 12 (Err e) → IsFound file r
found_failed answers file name e (Ok n) is read = absurd is
found_failed answers file name e (Err f) is read = subst (λ (g : KeeperFault). IsFound file (Err g)) (sym is) (fault_found answers file name e read)
