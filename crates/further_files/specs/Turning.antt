-- How notes go on in a further file of a journal.
use Rattle.std.specs.Prelude.{◌≡◌, ◌⊎◌, ℕ, ◌+◌, ◌++◌, List, Option, Some, None}
use Rattle.journal_rows.specs.ContinuesLine.{continues_line, digest_of}

-- where it is known what the last file holds, a new one holds this text alone
abbrev pub BeginsWith : List ℕ → Option (List ℕ) → Option (List ℕ) → Type 0
BeginsWith text None new = Unit {0}
BeginsWith text (Some held) new = new ≡ Some text

-- a file holds this, and has this digest
abbrev pub Holds : List ℕ → Option (List ℕ) → ℕ → Type 0
Holds text file digest = (file ≡ Some text) × (digest ≡ digest_of text)

-- Bytes were noted behind what the last file of this number held: there; or in the further file of the next number, behind the
-- line that goes on from the one before.
abbrev pub StandsBehind : ℕ → List ℕ → List ℕ → List ℕ → List ℕ → Type 0
StandsBehind number resource held bytes now =
    (now ≡ held ++ bytes)
    ⊎ ((incarnation : ℕ) × (now ≡ continues_line (number + 1) (digest_of held) resource incarnation ++ bytes))
