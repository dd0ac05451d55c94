-- What is noted by notes that may be given up.
use Rattle.std.specs.Prelude.{◌≡◌, ℕ, List, Option, codes}
use Rattle.std.specs.Io.KnownBytes.{Appends}
use Rattle.text_lines.specs.Sending.{SendsPart}
use Rattle.live_node.specs.Syncing.{Grows}
use Rattle.live_node.specs.declared.lenient_notes.Noting.{Noting}
use Rattle.live_node.specs.declared.lenient_notes.Noting.TheVariants.{All, GivenUp, Untold}

-- the line that tells that nothing more is noted
abbrev pub unnoted_line : List ℕ
unnoted_line = codes "UNNOTED\n"

-- What was written where the notes are given up: nothing, where they aren't; the line that tells it; or no more than a beginning
-- of it, where it can't be written.
abbrev pub TellsGivenUp : Option (List ℕ) → Option (List ℕ) → Noting → Type 0
TellsGivenUp from to All = to ≡ from
TellsGivenUp from to GivenUp = Appends from to unnoted_line
TellsGivenUp from to Untold = SendsPart unnoted_line from to

-- what was noted of these bytes: all; or a beginning, where the notes are given up
abbrev pub NotesSome : List ℕ → Option (List ℕ) → Option (List ℕ) → Noting → Type 0
NotesSome bytes old new All = Appends old new bytes
NotesSome bytes old new GivenUp = SendsPart bytes old new
NotesSome bytes old new Untold = SendsPart bytes old new

-- all that is noted is on the disk, unless the notes are given up
abbrev pub IsSyncedUnless : Option (List ℕ) → Option (List ℕ) → Noting → Type 0
IsSyncedUnless noted synced All = synced ≡ noted
IsSyncedUnless noted synced GivenUp = Unit {0}
IsSyncedUnless noted synced Untold = Unit {0}

-- these bytes were noted by notes that weren't given up, or they were given up at them
pub record NotesOrGivesUp (bytes : List ℕ) (noted_old noted_new synced_old synced_new from to : Option (List ℕ)) (noting : Noting)
    : Type 0 where
  pub noted : NotesSome bytes noted_old noted_new noting
  pub stays : Grows synced_old synced_new
  pub told : TellsGivenUp from to noting

-- all that was noted by notes that weren't given up was brought to the disk, or they were given up at that
pub record SyncsOrGivesUp (noted_old noted_new synced_old synced_new from to : Option (List ℕ)) (noting : Noting) : Type 0 where
  pub noted : noted_new ≡ noted_old
  pub synced : IsSyncedUnless noted_new synced_new noting
  pub stays : Grows synced_old synced_new
  pub told : TellsGivenUp from to noting
