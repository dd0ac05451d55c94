-- When an evaluation fits a book's entries. Entries stand with the newest first.
use Rattle.std.specs.Prelude.{◌≡◌, ◌≢◌, ℕ, ◌+◌, ◌<◌, ◌≤◌, ◌==◌, ◌&&◌, Bool, true, false, List, [], ◌∷◌, Option, Some, None, length, map, slice_index, MatchOption, if◌then◌else◌}
use Rattle.std.specs.List.{AllByRecursion}
use Rattle.lists.specs.Among.{Among}
use Rattle.std_blocks.specs.declared.value.Value.{Value}
use Rattle.task_codes.specs.declared.task_ref.TaskRef.{TaskRef}
use Rattle.evaluation.specs.declared.name.Name.{Name}
use Rattle.evaluation.specs.declared.take.Take.{Take}
use Rattle.evaluation.specs.Names.{pair_precedes}
use Rattle.evaluation.specs.Meaning.{Evaluated}
use Rattle.evaluation.specs.Heard.{is_addressed, greatest}
use Rattle.evaluation.specs.Last.{same_task, last_number, from_of}

-- the last entry of a task in an incarnation
abbrev pub last_in : List Evaluated → TaskRef → ℕ → Option Evaluated
last_in [] t incarnation = None
last_in (x ∷ older) t incarnation =
    if same_task x.name.task t && x.name.incarnation == incarnation then Some x else last_in older t incarnation

-- what an entry tells of a resource: its own incarnation, if it is of that resource;
-- else the incarnation of which its maker had heard
abbrev pub told_of : ℕ → Evaluated → ℕ
told_of n y = if y.name.task.resource == n then y.name.incarnation else slice_index y.heard n

-- a resource's present incarnation: the greatest of its first one and of what the entries tell of it
abbrev pub present_in : List ℕ → List Evaluated → ℕ → ℕ
present_in first older n = greatest (slice_index first n) (map (told_of n) older)

-- the name that a take from p gives
abbrev pub name_from : TaskRef → ℕ × ℕ → Name
name_from p f = record { task = p; incarnation = f.0; number = f.1 }

-- what is taken is below what is taken: in the pair order, where nothing is below every pair
abbrev pub is_below : Option (ℕ × ℕ) → Option (ℕ × ℕ) → Bool
is_below a None = false
is_below None (Some f) = true
is_below (Some e) (Some f) = pair_precedes e f

-- First clause. The resource exists, its incarnation isn't below the resource's present one,
-- and the number is one more than that of the task's last entry in the incarnation, 1 if there is none.
pub record IsNumbered (first : List ℕ) (older : List Evaluated) (name : Name) : Type 0 where
  pub exists : name.task.resource < length first
  pub not_below_present : present_in first older name.task.resource ≤ name.incarnation
  pub next : name.number ≡ last_number (last_in older name.task name.incarnation) + 1

-- Second clause. A take that isn't of nothing names an entry.
abbrev pub IsKnown : List Evaluated → Take → Type 0
IsKnown older t =
    MatchOption t.from (Unit {0}) (λ f. (y : Evaluated) × Among y older × (y.name ≡ name_from t.producer f))

-- an entry of this name has this image
abbrev pub HasImage : Name → List Value → Evaluated → Type 0
HasImage name image y = y.name ≡ name → image ≡ y.outputs

-- Third clause. It has the image of that entry.
abbrev pub IsUntorn : List Evaluated → Take → Type 0
IsUntorn older t = MatchOption t.from (Unit {0}) (λ f. AllByRecursion (HasImage (name_from t.producer f) t.image) older)

-- a take is below none of these from its producer
abbrev pub IsBelowNone : Take → List Take → Type 0
IsBelowNone t us = AllByRecursion (λ (u : Take). u.producer ≡ t.producer → is_below t.from u.from ≡ false) us

-- a take is below none that an entry of the name's resource and incarnation took from its producer
abbrev pub IsNotBackFrom : Name → Take → Evaluated → Type 0
IsNotBackFrom name t y =
    y.name.task.resource ≡ name.task.resource → y.name.incarnation ≡ name.incarnation → IsBelowNone t y.takes

-- Fourth clause. A take from another resource isn't below an earlier take of this resource and incarnation
-- from that producer.
abbrev pub IsNotBack : List Evaluated → Name → Take → Type 0
IsNotBack older name t = t.producer.resource ≢ name.task.resource → AllByRecursion (IsNotBackFrom name t) older

-- Fifth clause. A take from the own resource is that task's last entry in this incarnation,
-- or of nothing if there is none.
abbrev pub IsOwnLatest : List Evaluated → Name → Take → Type 0
IsOwnLatest older name t =
    t.producer.resource ≡ name.task.resource → t.from ≡ from_of (last_in older t.producer name.incarnation)

-- an entry of this name is addressed to the incarnation of the taker's resource
abbrev pub IsMeantFor : Name → Name → Evaluated → Type 0
IsMeantFor taken taker y = y.name ≡ taken → is_addressed y taker.task.resource taker.incarnation ≡ true

-- Sixth clause. An entry that is taken from another resource is addressed to the taker's incarnation.
abbrev pub IsAddressed : List Evaluated → Name → Take → Type 0
IsAddressed older name t =
    t.producer.resource ≢ name.task.resource
    → MatchOption t.from (Unit {0}) (λ f. AllByRecursion (IsMeantFor (name_from t.producer f) name) older)

-- none of these numbers is below the one at its place of those
abbrev pub NoneBelow : List ℕ → List ℕ → Type 0
NoneBelow xs ys = (n : ℕ) → slice_index ys n ≤ slice_index xs n

-- none of these numbers is below what an entry of the name's resource and incarnation has heard
abbrev pub HasHeardNoMore : Name → List ℕ → Evaluated → Type 0
HasHeardNoMore name heard y =
    y.name.task.resource ≡ name.task.resource → y.name.incarnation ≡ name.incarnation → NoneBelow heard y.heard

-- Seventh clause. One number is heard of each resource, none of them below that resource's first incarnation,
-- and none below what an earlier entry of this resource and incarnation has heard.
pub record IsWellHeard (first : List ℕ) (older : List Evaluated) (name : Name) (heard : List ℕ) : Type 0 where
  pub many : length heard ≡ length first
  pub not_below_first : NoneBelow heard first
  pub not_below_earlier : AllByRecursion (HasHeardNoMore name heard) older

-- An evaluation fits the entries before it: all seven clauses hold.
pub record Fits (first : List ℕ) (older : List Evaluated) (x : Evaluated) : Type 0 where
  pub numbered : IsNumbered first older x.name
  pub known : AllByRecursion (IsKnown older) x.takes
  pub untorn : AllByRecursion (IsUntorn older) x.takes
  pub not_back : AllByRecursion (IsNotBack older x.name) x.takes
  pub own_latest : AllByRecursion (IsOwnLatest older x.name) x.takes
  pub addressed : AllByRecursion (IsAddressed older x.name) x.takes
  pub heard : IsWellHeard first older x.name x.heard

-- each entry fits those before it
abbrev pub AllFit : List ℕ → List Evaluated → Type 0
AllFit first [] = Unit {0}
AllFit first (x ∷ older) = Fits first older x × AllFit first older

-- a take is below none that an entry of this resource, whatever its incarnation, took from its producer
abbrev pub IsNotFallenFrom : ℕ → Take → Evaluated → Type 0
IsNotFallenFrom n t y = y.name.task.resource ≡ n → IsBelowNone t y.takes

-- a take that isn't of nothing is below no earlier take of this resource, in whatever incarnation, from that producer
abbrev pub IsNotFallen : List Evaluated → ℕ → Take → Type 0
IsNotFallen older n t = t.from ≢ None → AllByRecursion (IsNotFallenFrom n t) older

-- Takes that aren't of nothing never fall, over all incarnations of a resource.
abbrev pub NeverFall : List Evaluated → Type 0
NeverFall [] = Unit {0}
NeverFall (x ∷ older) = AllByRecursion (IsNotFallen older x.name.task.resource) x.takes × NeverFall older
