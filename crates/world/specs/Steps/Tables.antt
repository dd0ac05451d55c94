-- Steps of the proofs: the tables beside a schedule. Entries stand with the newest first, but in the book itself.
use Rattle.std.specs.Prelude.{◌≡◌, ℕ, ◌+◌, ◌==◌, ◌&&◌, Bool, if◌then◌else◌, List, [], Option, Some, None, length, reverse, take, slice_get}
use Rattle.std.specs.List.{list_any, find}
use Rattle.std.specs.Option.{option_map, option_and_then}
use Rattle.task_codes.specs.declared.task_ref.TaskRef.{TaskRef}
use Rattle.evaluation.specs.declared.name.Name.{Name}
use Rattle.evaluation.specs.declared.take.Take.{Take}
use Rattle.evaluation.specs.Meaning.{Evaluated}
use Rattle.evaluation.specs.Last.{same_task}
use Rattle.book.specs.Book.{BookValue}
use Rattle.book.specs.Fits.{IsNumbered, AllFit}
use Rattle.book.specs.Presents.{ArePresent}
use Rattle.world.specs.declared.schedule.last_takes.LastTake.{LastTake}
use Rattle.world.specs.declared.schedule.tables.Seen.{Seen}
use Rattle.world.specs.declared.schedule.tables.Tables.{Tables}
use Rattle.world.specs.Schedule.{taken_in, last_taken}

-- the entries before an index of a book
abbrev pub before : List Evaluated → ℕ → List Evaluated
before entries index = reverse (take index entries)

-- an entry of this resource
abbrev pub is_of_resource : ℕ → Evaluated → Bool
is_of_resource n y = y.name.task.resource == n

-- an entry of this resource that took from this producer
abbrev pub takes_from : ℕ → TaskRef → Evaluated → Bool
takes_from n q y = y.name.task.resource == n && list_any (λ (u : Take). same_task u.producer q) y.takes

-- an entry, if it is of this incarnation
abbrev pub if_in : ℕ → Option Evaluated → Option Evaluated
if_in i None = None
if_in i (Some y) = if y.name.incarnation == i then Some y else None

-- a row is of this producer
abbrev pub is_of_producer : TaskRef → LastTake → Bool
is_of_producer q row = same_task row.producer q

-- what a row tells: an incarnation, and what was taken in it
abbrev pub told_by : LastTake → Option (ℕ × Option (ℕ × ℕ))
told_by row = Some (row.incarnation, row.from)

-- what the rows tell of a producer
abbrev pub told_in : List LastTake → TaskRef → Option (ℕ × Option (ℕ × ℕ))
told_in rows q = option_and_then told_by (find (is_of_producer q) rows)

-- what a take in this incarnation tells; without one what was told before
abbrev pub told_over : ℕ → Option Take → Option (ℕ × Option (ℕ × ℕ)) → Option (ℕ × Option (ℕ × ℕ))
told_over i None old = old
told_over i (Some u) old = Some (i, u.from)

-- what is told of a producer with these takes in this incarnation, of which the first from it counts
abbrev pub told_with : ℕ → List Take → TaskRef → Option (ℕ × Option (ℕ × ℕ)) → Option (ℕ × Option (ℕ × ℕ))
told_with i takes q old = told_over i (find (λ (u : Take). same_task u.producer q) takes) old

-- what the newest entry of a resource that took from a producer tells
abbrev pub told_last : List Evaluated → ℕ → TaskRef → Option (ℕ × Option (ℕ × ℕ))
told_last older n q =
    option_map (λ (y : Evaluated). (y.name.incarnation, taken_in q y.takes)) (find (takes_from n q) older)

-- what was taken, if that was in this incarnation
abbrev pub taken_in_incarnation : ℕ → Option (ℕ × Option (ℕ × ℕ)) → Option (ℕ × ℕ)
taken_in_incarnation i None = None
taken_in_incarnation i (Some e) = if e.0 == i then e.1 else None

-- the rows tell what was taken last at this name's resource, in its incarnation
abbrev pub TellTakes : List Evaluated → Name → List LastTake → Type 0
TellTakes older name rows = (q : TaskRef) → taken_in_incarnation name.incarnation (told_in rows q) ≡ last_taken older name q

-- what is seen tells one entry more, of this name and with these takes, which stands at this index
pub record SeesMore (old new : Seen) (name : Name) (takes : List Take) (index : ℕ) : Type 0 where
  pub newest : new.newest ≡ Some index
  pub taken : (q : TaskRef) → told_in new.taken.items q ≡ told_with name.incarnation takes q (told_in old.taken.items q)

-- what is seen of resource n tells of these entries of a book
pub record IsSeen (entries older : List Evaluated) (n : ℕ) (seen : Seen) : Type 0 where
  pub newest : option_and_then (λ k. slice_get entries k) seen.newest ≡ find (is_of_resource n) older
  pub taken : (q : TaskRef) → told_in seen.taken.items q ≡ told_last older n q

-- nothing is seen of so many resources
pub record AreUnseen (resources : ℕ) (seen : List Seen) : Type 0 where
  pub many : length seen ≡ resources
  pub each : (n : ℕ) (s : Seen) → slice_get seen n ≡ Some s → (s.newest ≡ None) × (s.taken.items ≡ [])

-- The tables tell of the entries of a book before this index.
pub record Tells (book : BookValue) (index : ℕ) (tables : Tables) : Type 0 where
  pub present : ArePresent book.first (before book.entries index) tables.present.items
  pub many : length tables.seen.items ≡ length book.first
  pub seen : (n : ℕ) (s : Seen) → slice_get tables.seen.items n ≡ Some s
      → IsSeen book.entries (before book.entries index) n s

-- of whatever book the old tables tell up to an index at which this entry stands, the new ones tell of it too
abbrev pub TellsOneMore : Tables → Tables → Evaluated → ℕ → Type 0
TellsOneMore old new x index =
    (book : BookValue) → slice_get book.entries index ≡ Some x → Tells book index old → Tells book (index + 1) new

-- The tables tell of the entries before this index, which fit, and the name is one that can follow them.
pub record IsAt (book : BookValue) (index : ℕ) (tables : Tables) (name : Name) : Type 0 where
  pub fit : AllFit book.first (before book.entries index)
  pub numbered : IsNumbered book.first (before book.entries index) name
  pub tells : Tells book index tables
