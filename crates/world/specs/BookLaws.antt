-- What holds of the log of every list of events, and of a book.
use Rattle.std.specs.Prelude.{◌≡◌, ℕ, ◌≤◌, List, reverse, Some, length, slice_index, slice_get, take}
use Rattle.plant.specs.PlantValue.{IsSoundPlant}
use Rattle.evaluation.specs.Meaning.{Evaluated}
use Rattle.world.specs.declared.event.Event.{Event}
use Rattle.book.specs.declared.book.misfit.Misfit.{Misfit}
use Rattle.book.specs.declared.book.misfit.Misfit.TheVariants.{Memory}
use Rattle.world.specs.History.{Setting}
use Rattle.world.specs.Run.{IsRun}
use Rattle.world.specs.World.{WorldValue}
use Rattle.book.specs.Fits.{AllFit}
use Rattle.book.specs.Book.{IsMisfit}
use Rattle.world.specs.Replays.{AllCouldBeMade, Replays}
use Rattle.world.specs.Schedule.{schedule_of}
use Rattle.world.specs.Consistent.{IsConsistent}
use Rattle.world.specs.Theorem.{HoldersAgreeIn, IsDataConsistent}

-- a run is a consistent log
abbrev pub RunsAreConsistent : Type 0
RunsAreConsistent =
    (s : Setting) (events : List Event) (log : List Evaluated) → IsRun s events log → IsConsistent s.plant (reverse log)

-- each evaluation of a run fits those before it
abbrev pub RunsFit : Type 0
RunsFit =
    (s : Setting) (events : List Event) (log : List Evaluated) → length s.first ≡ length s.plant.resources
    → IsRun s events log → AllFit s.first (reverse log)

-- entering the log of a run into a book, in order, is refused for nothing but want of memory
abbrev pub RunsAreEntered : Type 0
RunsAreEntered =
    (s : Setting) (events : List Event) (log : List Evaluated) (k : ℕ) (x : Evaluated) (misfit : Misfit)
    → length s.first ≡ length s.plant.resources → IsRun s events log
    → slice_get log k ≡ Some x → IsMisfit s.first (reverse (take k log)) x misfit → misfit ≡ Memory

-- the first incarnations are numbers of 32 bits
abbrev pub AreIncarnations : List ℕ → Type 0
AreIncarnations first = (n : ℕ) → slice_index first n ≤ 4294967295

-- each evaluation of a run could have been made after those before it
abbrev pub RunsCouldBeMade : Type 0
RunsCouldBeMade =
    (s : Setting) (events : List Event) (log : List Evaluated) → IsSoundPlant s.plant
    → length s.first ≡ length s.plant.resources → AreIncarnations s.first → IsRun s events log
    → AllCouldBeMade s (reverse log)

-- events that make the entries of a run again are events of that run
abbrev pub RunsReplay : Type 0
RunsReplay =
    (s : Setting) (events again : List Event) (log : List Evaluated) → IsSoundPlant s.plant
    → length s.first ≡ length s.plant.resources → AreIncarnations s.first → IsRun s events log
    → Replays s.first log again → IsRun s again log

-- where each entry fits those before it, the events of these entries make them again
abbrev pub FittingEntriesReplay : Type 0
FittingEntriesReplay =
    (first : List ℕ) (entries : List Evaluated) → AllFit first (reverse entries)
    → Replays first entries (schedule_of first (reverse entries))

-- Where events make the entries of a book again, the consistency theorem holds of these events and entries,
-- and the entries are a consistent log.
abbrev pub BooksAreConsistent : Type 0
BooksAreConsistent =
    (s : Setting) (entries : List Evaluated) (events : List Event) → IsSoundPlant s.plant
    → length s.first ≡ length s.plant.resources → AllCouldBeMade s (reverse entries) → Replays s.first entries events
    → IsDataConsistent s events entries × IsConsistent s.plant (reverse entries)

-- resources that hold one evaluation hold equal values
abbrev pub HoldersAgree : Type 0
HoldersAgree = (w : WorldValue) → IsRun w.setting w.events w.log → HoldersAgreeIn w
