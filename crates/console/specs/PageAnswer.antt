-- What `plc page` writes, and how it ends.
use Rattle.std.specs.Prelude.{◌≡◌, ◌⊎◌, ℕ, List, Option}
use Rattle.std.specs.Io.KnownBytes.{Appends}
use Rattle.page.specs.Page.{page_of}
use Rattle.text_lines.specs.Sending.{SendsLess}
use Rattle.console.specs.declared.command_fault.CommandFault.{CommandFault}
use Rattle.console.specs.declared.command_fault.CommandFault.TheVariants.{Text, Word, Write, Run, Memory}

-- why the page of a text wasn't written: an output that fails has less of it, and without memory nothing was written
abbrev pub ExplainsPage : List ℕ → Option (List ℕ) → Option (List ℕ) → CommandFault → Type 0
ExplainsPage text old new (Text fault) = ⊥
ExplainsPage text old new (Word fault) = ⊥
ExplainsPage text old new Write = SendsLess (page_of text) old new
ExplainsPage text old new (Run fault) = ⊥
ExplainsPage text old new Memory = new ≡ old

-- the page of some text was written, and so it ended
pub record IsPageWritten (status : ℕ) : Type 0 where
  pub text : List ℕ
  pub old : Option (List ℕ)
  pub new : Option (List ℕ)
  pub written : Appends old new (page_of text)
  pub status_is : status ≡ 0

-- how `plc page` ends: what stood in a file no contract can say, so it is the page of some text; 3 is where there is none
abbrev pub EndsPage : ℕ → Type 0
EndsPage status = (status ≡ 3) ⊎ IsPageWritten status
