-- Steps of the proofs: the tests by which a book decides whether an evaluation fits.
-- Entries stand with the newest first.
use Rattle.std.specs.Prelude.{ℕ, ◌+◌, Bool, true, false, if◌then◌else◌, ◌==◌, ◌&&◌, ◌||◌, not, nat_lt, nat_le, List, Option, Some, None, length, reverse, is_some, MatchOption}
use Rattle.std.specs.Ordering.{int_eq}
use Rattle.std.specs.Cmp.Lexicographic.{pointwise}
use Rattle.std.specs.List.{list_all, list_any, find}
use Rattle.std_blocks.specs.declared.value.Value.{Value}
use Rattle.std_blocks.specs.declared.value.Value.TheVariants.{Bool as On, Int, Time}
use Rattle.task_codes.specs.declared.task_ref.TaskRef.{TaskRef}
use Rattle.evaluation.specs.declared.name.Name.{Name}
use Rattle.evaluation.specs.declared.take.Take.{Take}
use Rattle.evaluation.specs.Meaning.{Evaluated}
use Rattle.evaluation.specs.Heard.{is_addressed}
use Rattle.evaluation.specs.Last.{same_task, last_number, from_of}
use Rattle.book.specs.declared.book.misfit.Misfit.{Misfit}
use Rattle.book.specs.declared.book.misfit.Misfit.TheVariants.{WrongNumber, UnknownTake, Torn, Back, NotOwnLatest, NotAddressed, Misheard}
use Rattle.book.specs.Fits.{present_in, name_from, is_below, Fits}
use Rattle.book.specs.Book.{BookValue, IsMisfit}

-- two names are one
abbrev pub same_name : Name → Name → Bool
same_name a b = same_task a.task b.task && (a.incarnation == b.incarnation && a.number == b.number)

-- two values are one
abbrev pub same_value : Value → Value → Bool
same_value (On a) (On b) = if a then b else not b
same_value (On a) (Int b) = false
same_value (On a) (Time b) = false
same_value (Int a) (On b) = false
same_value (Int a) (Int b) = int_eq a b
same_value (Int a) (Time b) = false
same_value (Time a) (On b) = false
same_value (Time a) (Int b) = false
same_value (Time a) (Time b) = a == b

-- two images are one
abbrev pub same_values : List Value → List Value → Bool
same_values = pointwise same_value

-- two takes are from one evaluation, or both of nothing
abbrev pub same_from : Option (ℕ × ℕ) → Option (ℕ × ℕ) → Bool
same_from None None = true
same_from (Some a) (Some b) = a.0 == b.0 && a.1 == b.1
same_from None (Some b) = false
same_from (Some a) None = false

-- an entry is of this task
abbrev pub is_of_task : TaskRef → Evaluated → Bool
is_of_task t y = same_task y.name.task t

-- an entry, if it is of this incarnation
abbrev pub if_of : ℕ → Option Evaluated → Option Evaluated
if_of i None = None
if_of i (Some y) = if y.name.incarnation == i then Some y else None

-- the newest entry of a task, if it is of this incarnation
abbrev pub newest_in : (older : List Evaluated) (t : TaskRef) (incarnation : ℕ) → Option Evaluated
newest_in older t i = if_of i (find (is_of_task t) older)

-- a name's number is one more than that of its task's newest entry in its incarnation
abbrev pub is_next : List Evaluated → Name → Bool
is_next older name = name.number == last_number (newest_in older name.task name.incarnation) + 1

-- the first clause of what fits
abbrev pub is_numbered : List ℕ → List Evaluated → Name → Bool
is_numbered first older name =
    nat_lt name.task.resource (length first)
    && (nat_le (present_in first older name.task.resource) name.incarnation && is_next older name)

-- an entry's name is this one
abbrev pub is_named : Name → Evaluated → Bool
is_named name y = same_name y.name name

-- an entry has this name
abbrev pub has_named : List Evaluated → Name → Bool
has_named older name = is_some (find (is_named name) older)

abbrev pub known_from : List Evaluated → TaskRef → Option (ℕ × ℕ) → Bool
known_from older p None = true
known_from older p (Some f) = has_named older (name_from p f)

-- the second clause, for one take
abbrev pub is_known : List Evaluated → Take → Bool
is_known older t = known_from older t.producer t.from

-- an entry, if there is one, has this image
abbrev pub keeps_image : List Value → Option Evaluated → Bool
keeps_image image None = true
keeps_image image (Some y) = same_values image y.outputs

abbrev pub untorn_from : List Evaluated → TaskRef → List Value → Option (ℕ × ℕ) → Bool
untorn_from older p image None = true
untorn_from older p image (Some f) = keeps_image image (find (is_named (name_from p f)) older)

-- the third clause, for one take
abbrev pub is_untorn : List Evaluated → Take → Bool
is_untorn older t = untorn_from older t.producer t.image t.from

-- a take is from another producer, or this one isn't below it
abbrev pub keeps_take : Take → Take → Bool
keeps_take t u = not (same_task u.producer t.producer) || not (is_below t.from u.from)

-- an entry is of this resource and takes from this producer
abbrev pub takes_from : ℕ → TaskRef → Evaluated → Bool
takes_from n q y = y.name.task.resource == n && list_any (λ (u : Take). same_task u.producer q) y.takes

-- an entry, if there is one, is of another incarnation, or a take is below none of its takes
abbrev pub keeps_takes : ℕ → Take → Option Evaluated → Bool
keeps_takes i t None = true
keeps_takes i t (Some y) = not (y.name.incarnation == i) || list_all (keeps_take t) y.takes

-- the newest entry of a name's resource that takes from a take's producer keeps that take
abbrev pub is_kept : List Evaluated → Name → Take → Bool
is_kept older name t = keeps_takes name.incarnation t (find (takes_from name.task.resource t.producer) older)

-- the fourth clause, for one take
abbrev pub is_not_back : List Evaluated → Name → Take → Bool
is_not_back older name t = t.producer.resource == name.task.resource || is_kept older name t

-- the fifth clause, for one take
abbrev pub is_own_latest : List Evaluated → Name → Take → Bool
is_own_latest older name t =
    not (t.producer.resource == name.task.resource)
    || same_from t.from (from_of (newest_in older t.producer name.incarnation))

-- an entry, if there is one, is addressed to this incarnation of a resource
abbrev pub keeps_address : ℕ → ℕ → Option Evaluated → Bool
keeps_address n i None = true
keeps_address n i (Some y) = is_addressed y n i

abbrev pub addressed_from : List Evaluated → Name → TaskRef → Option (ℕ × ℕ) → Bool
addressed_from older name p None = true
addressed_from older name p (Some f) =
    keeps_address name.task.resource name.incarnation (find (is_named (name_from p f)) older)

-- the sixth clause, for one take
abbrev pub is_addressed_to : List Evaluated → Name → Take → Bool
is_addressed_to older name t =
    t.producer.resource == name.task.resource || addressed_from older name t.producer t.from

-- as many numbers, and none below the one at its place of the first ones
abbrev pub none_below : List ℕ → List ℕ → Bool
none_below = pointwise nat_le

-- an entry is of this resource
abbrev pub is_of_resource : ℕ → Evaluated → Bool
is_of_resource n y = y.name.task.resource == n

-- an entry, if there is one, is of another incarnation, or none of these numbers is below what it has heard
abbrev pub keeps_heard : ℕ → List ℕ → Option Evaluated → Bool
keeps_heard i heard None = true
keeps_heard i heard (Some y) = not (y.name.incarnation == i) || none_below y.heard heard

-- the seventh clause
abbrev pub is_well_heard : List ℕ → List Evaluated → Name → List ℕ → Bool
is_well_heard first older name heard =
    none_below first heard && keeps_heard name.incarnation heard (find (is_of_resource name.task.resource) older)

-- the first clause that fails, if one does
abbrev pub first_failed : List ℕ → List Evaluated → Name → List ℕ → List Take → Option Misfit
first_failed first older name heard takes =
    if not (is_numbered first older name) then Some WrongNumber
    else if not (list_all (is_known older) takes) then Some UnknownTake
    else if not (list_all (is_untorn older) takes) then Some Torn
    else if not (list_all (is_not_back older name) takes) then Some Back
    else if not (list_all (is_own_latest older name) takes) then Some NotOwnLatest
    else if not (list_all (is_addressed_to older name) takes) then Some NotAddressed
    else if not (is_well_heard first older name heard) then Some Misheard
    else None

-- What is decided of an evaluation: no misfit if it fits a book's entries, else the first clause that fails.
abbrev pub IsDecided : BookValue → Evaluated → Option Misfit → Type 0
IsDecided book x misfit =
    MatchOption misfit (Fits book.first (reverse book.entries) x) (IsMisfit book.first (reverse book.entries) x)
