-- A text that is written some at a time.
use Rattle.std.specs.Prelude.{◌≡◌, ℕ, ◌<◌, ◌++◌, List, Option, length, take}
use Rattle.std.specs.Io.KnownBytes.{Appends}
use Rattle.text_lines.specs.declared.send_fault.SendFault.{SendFault}
use Rattle.text_lines.specs.declared.send_fault.SendFault.TheVariants.{Write, Memory}

-- some of the text that stood to be written was written, and the rest stands still
pub record Sends (before after : List ℕ) (old new : Option (List ℕ)) : Type 0 where
  pub sent : List ℕ
  pub appended : Appends old new sent
  pub whole : sent ++ after ≡ before

-- no more than a beginning of a text was written
abbrev pub SendsPart : List ℕ → Option (List ℕ) → Option (List ℕ) → Type 0
SendsPart text old new = (written : ℕ) × Appends old new (take written text)

-- a beginning of a text was written, and not all of it
abbrev pub SendsLess : List ℕ → Option (List ℕ) → Option (List ℕ) → Type 0
SendsLess text old new = (written : ℕ) × (written < length text) × Appends old new (take written text)

-- why a text didn't go out whole: the output failed before its end, or memory was refused, be it behind the last byte
abbrev pub Stops : SendFault → List ℕ → Option (List ℕ) → Option (List ℕ) → Type 0
Stops Write text old new = SendsLess text old new
Stops Memory text old new = SendsPart text old new
