-- Steps of the proofs: the tables of a book. Entries stand with the newest first.
use Rattle.std.specs.Prelude.{◌≡◌, ℕ, ◌-◌, Bool, if◌then◌else◌, ◌==◌, ◌&&◌, List, [], ◌∷◌, ◌++◌, Option, Some, None, length, replicate, reverse, slice_set, slice_get, is_some}
use Rattle.std.specs.Option.{option_map}
use Rattle.std.specs.Ordering.{nat_cmp, ordering_then}
use Rattle.std.specs.declared.cmp.Ordering.{Ordering}
use Rattle.std.specs.declared.cmp.Ordering.TheVariants.{Less}
use Rattle.std.specs.List.{find, list_any}
use Rattle.task_codes.specs.declared.task_ref.TaskRef.{TaskRef}
use Rattle.evaluation.specs.declared.take.Take.{Take}
use Rattle.evaluation.specs.Meaning.{Evaluated}
use Rattle.evaluation.specs.Last.{same_task}
use Rattle.book.specs.declared.book.ledger.Ledger.{Ledger}
use Rattle.book.specs.declared.book.ledger.place.Place.{Place}
use Rattle.book.specs.declared.book.ledger.task_places.TaskPlaces.{TaskPlaces}
use Rattle.book.specs.declared.book.ledger.taker.Taker.{Taker}
use Rattle.std.specs.List.{AllByRecursion}
use Rattle.book.specs.Fits.{AllFit}
use Rattle.book.specs.Presents.{ArePresent}
use Rattle.book.specs.Steps.Deciding.{is_of_task, takes_from}

-- where the newest entry that passes stands among all, counted from the oldest
abbrev pub newest_place : (Evaluated → Bool) → List Evaluated → Option ℕ
newest_place passes [] = None
newest_place passes (x ∷ older) = if passes x then Some (length older) else newest_place passes older

-- where the newest entries of the resources stand
abbrev pub newests : List ℕ → List Evaluated → List (Option ℕ)
newests first [] = replicate (length first) None
newests first (x ∷ older) = slice_set (newests first older) x.name.task.resource (Some (length older))

-- an entry's place
abbrev pub place_of : Evaluated → ℕ → Place
place_of x index = record { incarnation = x.name.incarnation; number = x.name.number; index = index }

-- the places of a task's entries, the oldest first
abbrev pub places_of : TaskRef → List Evaluated → List Place
places_of t [] = []
places_of t (x ∷ older) =
    if is_of_task t x then places_of t older ++ place_of x (length older) ∷ [] else places_of t older

-- a row is of this task
abbrev pub is_row : TaskRef → TaskPlaces → Bool
is_row t row = same_task row.task t

-- the places of a row, if there is one
abbrev pub row_places : Option TaskPlaces → List Place
row_places None = []
row_places (Some row) = row.places.items

-- the places that the rows tell of a task
abbrev pub places_in : List TaskPlaces → TaskRef → List Place
places_in rows t = row_places (find (is_row t) rows)

-- where the last of the places is
abbrev pub last_index : List Place → Option ℕ
last_index ps = option_map (λ (p : Place). p.index) (slice_get ps (length ps - 1))

-- how a place's pair stands to this one
abbrev pub pair_cmp : ℕ → ℕ → Place → Ordering
pair_cmp incarnation number p = ordering_then (nat_cmp p.incarnation incarnation) (nat_cmp p.number number)

-- where the place of this pair is
abbrev pub index_of : ℕ → ℕ → List Place → Option ℕ
index_of incarnation number [] = None
index_of incarnation number (p ∷ ps) =
    if p.incarnation == incarnation && p.number == number then Some p.index else index_of incarnation number ps

-- each place's pair is below those of the later ones
abbrev pub AreRising : List Place → Type 0
AreRising [] = Unit {0}
AreRising (p ∷ ps) = AllByRecursion (λ (q : Place). pair_cmp q.incarnation q.number p ≡ Less) ps × AreRising ps

-- the rows tell of one place more of a task, its last, and of all else as before
abbrev pub AddsPlace : List TaskPlaces → List TaskPlaces → TaskRef → Place → Type 0
AddsPlace old new task place =
    (t : TaskRef) → places_in new t ≡ (if same_task task t then places_in old t ++ place ∷ [] else places_in old t)

-- the rows tell the same
abbrev pub KeepsPlaces : List TaskPlaces → List TaskPlaces → Type 0
KeepsPlaces old new = (t : TaskRef) → places_in new t ≡ places_in old t

-- there is one row more, of this task, with this place alone
abbrev pub AddsRow : List TaskPlaces → List TaskPlaces → TaskRef → Place → Type 0
AddsRow old new task place =
    (row : TaskPlaces) × (row.task ≡ task) × (row.places.items ≡ place ∷ []) × (new ≡ old ++ row ∷ [])

-- a row is of this resource and producer
abbrev pub is_taker : ℕ → TaskRef → Taker → Bool
is_taker n q row = row.resource == n && same_task row.producer q

-- the place of a row, if there is one
abbrev pub row_place : Option Taker → Option ℕ
row_place None = None
row_place (Some row) = row.index

-- where, as the rows tell, the newest entry of a resource that takes from a producer stands
abbrev pub taker_in : List Taker → ℕ → TaskRef → Option ℕ
taker_in rows n q = row_place (find (is_taker n q) rows)

-- there is a row
abbrev pub has_row : List Taker → ℕ → TaskRef → Bool
has_row rows n q = is_some (find (is_taker n q) rows)

-- some of these takes is from this producer
abbrev pub take_from : TaskRef → List Take → Bool
take_from q takes = list_any (λ (u : Take). same_task u.producer q) takes

-- a row, where an entry of this resource with these takes stands at this index
abbrev pub noted : ℕ → List Take → ℕ → Taker → Taker
noted n takes index row =
    if n == row.resource && take_from row.producer takes then record row { index = Some index } else row

-- The tables tell of these entries.
pub record AreTables (first : List ℕ) (older : List Evaluated) (present : List ℕ) (newest : List (Option ℕ))
    (tasks : List TaskPlaces) (takers : List Taker) : Type 0 where
  pub incarnations : ArePresent first older present
  pub newest_are : newest ≡ newests first older
  pub places : (t : TaskRef) → places_in tasks t ≡ places_of t older
  pub latest : (n : ℕ) (q : TaskRef) → taker_in takers n q ≡ newest_place (takes_from n q) older

-- The ledger tells of these entries.
abbrev pub Tells : List ℕ → List Evaluated → Ledger → Type 0
Tells first older ledger = AreTables first older ledger.present.items ledger.newest.items ledger.tasks.items
    ledger.takers.items

-- whatever entries the old ledger tells of, the new one tells of them and of x, which stands at this index
abbrev pub TellsOneMore : Ledger → Ledger → Evaluated → ℕ → Type 0
TellsOneMore old new x index =
    (first : List ℕ) (older : List Evaluated) → index ≡ length older
    → Tells first older old → Tells first (x ∷ older) new

-- whatever entries the old ledger tells of, the new one tells of them
abbrev pub TellsAsBefore : Ledger → Ledger → Type 0
TellsAsBefore old new = (first : List ℕ) (older : List Evaluated) → Tells first older old → Tells first older new

-- What a book keeps, of entries in their order: each one fits those before it, and the ledger tells of them.
abbrev pub IsBook : List ℕ → List Evaluated → Ledger → Type 0
IsBook first entries ledger = AllFit first (reverse entries) × Tells first (reverse entries) ledger
