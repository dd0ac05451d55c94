-- What `plc explain` writes, and how it ends.
use Rattle.std.specs.Prelude.{◌≡◌, ◌≢◌, ◌⊎◌, ℕ, List, [], Option, None, Some}
use Rattle.std.specs.Borrow.{Bor}
use Rattle.std.specs.Io.KnownBytes.{Appends}
use Rattle.guidance.specs.Explaining.{all_kinds, explained}

-- a text was written, and so it ended
pub record IsTextWritten (text : List ℕ) (status : ℕ) : Type 0 where
  pub old : Option (List ℕ)
  pub new : Option (List ℕ)
  pub written : Appends old new text
  pub status_is : status ≡ 0

-- how the telling of a text ends: 3 is where it couldn't be written, or for want of memory
abbrev pub EndsTold : List ℕ → ℕ → Type 0
EndsTold text status = (status ≡ 3) ⊎ IsTextWritten text status

-- How `plc explain` ends: a kind of which nothing is told is refused, with 2; where none is named all are listed.
abbrev pub EndsExplain : Option (Bor (List ℕ)) → ℕ → Type 0
EndsExplain None status = EndsTold all_kinds status
EndsExplain (Some kind) status =
    (status ≡ 3) ⊎ ((explained kind.now ≡ []) × (status ≡ 2))
    ⊎ ((explained kind.now ≢ []) × IsTextWritten (explained kind.now) status)
