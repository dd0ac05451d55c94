-- What the checks of a report decide, step by step.
use Rattle.std.specs.Prelude.{◌≡◌, ◌↔◌, ◌⊎◌, ℕ, ◌+◌, ◌-◌, ◌<◌, ◌≤◌, ◌==◌, ◌&&◌, ◌||◌, ◌++◌, ◌∷◌, Bool, true, false, IsTrue, List, [], Option, Some, IfSome, MatchOption, All, Contains, length, drop, map, take, slice_get, slice_index_or}
use Rattle.std.specs.List.{list_any}
use Rattle.std.specs.List.Sorted.{IsStrictlyIncreasing}
use Rattle.plant.specs.PlantValue.{PlantValue}
use Rattle.evaluation.specs.Meaning.{Evaluated}
use Rattle.node_reports.specs.declared.command.Command.{Command}
use Rattle.node_reports.specs.declared.step.Step.{Step}
use Rattle.node_reports.specs.declared.journal.Journal.{Journal}
use Rattle.node_reports.specs.declared.cause.Cause.TheVariants.{Stopped}
use Rattle.node_reports.specs.declared.node_fault.NodeFault.{NodeFault}
use Rattle.node_reports.specs.declared.run_fault.RunFault.{RunFault}
use Rattle.node_reports.specs.declared.run_fault.RunFault.TheVariants as run
use Rattle.node_reports.specs.Journals.{made}
use Rattle.node_reports.specs.Reports.{entries_of, is_restart_of, incarnations_of, IsUnobeyed, IsToldOf, AreTold, AreListed, may_stop, may_have_stopped, fault_tickets, first_of_ticket}

-- a journal is that of the resource at a place, and begins in this place's incarnation
pub record BeginsAt (first : List ℕ) (place : ℕ) (j : Journal) : Type 0 where
  pub resource_is : j.resource ≡ place
  pub first_is : slice_get first place ≡ Some j.first

-- there are as many journals as first incarnations, and each is that of the resource at its place,
-- and begins in this place's incarnation
pub record AllBegin (first : List ℕ) (journals : List Journal) : Type 0 where
  pub many : length journals ≡ length first
  pub each : (k : ℕ) (j : Journal) → slice_get journals k ≡ Some j → BeginsAt first k j

-- the steps of a resource have come to a place: what they made are these entries of the resource,
-- and then what they made from that place on
abbrev pub HaveCome : List Evaluated → ℕ → List Step → ℕ → Type 0
HaveCome entries resource steps at = made steps ≡ entries_of resource entries ++ made (drop at steps)

-- the place has gone on by this entry, whichever entries the steps had come to before
abbrev pub HasGoneOn : ℕ → List Step → ℕ → ℕ → Evaluated → Type 0
HasGoneOn resource steps old new x =
    (earlier : List Evaluated) → HaveCome earlier resource steps old → HaveCome (earlier ++ x ∷ []) resource steps new

-- the place can't go on by this entry: whichever entries the steps had come to before,
-- they didn't make these, this one and any later ones
abbrev pub CantGoOn : ℕ → List Step → ℕ → Evaluated → Type 0
CantGoOn resource steps at x =
    (earlier later : List Evaluated) → HaveCome earlier resource steps at
    → ¬ (made steps ≡ entries_of resource (earlier ++ x ∷ later))

-- each place is marked where it was, or where the test passes for its ticket, which is one more than the place
abbrev pub AreMarkedAlso : (ℕ → Bool) → List Bool → List Bool → Type 0
AreMarkedAlso test old new =
    (k : ℕ) → k < length old → slice_index_or new k false ≡ (slice_index_or old k false || test (k + 1))

-- for each place, whether its ticket, which is one more than the place, is among these
pub record AreTicketMarks (count : ℕ) (tickets : List ℕ) (marks : List Bool) : Type 0 where
  pub many : length marks ≡ count
  pub each : (k : ℕ) → k < count → slice_index_or marks k false ≡ list_any (λ t. t == k + 1) tickets

-- for each place, whether an entry has its ticket, which is one more than the place
pub record AreMarks (count : ℕ) (entries : List Evaluated) (marks : List Bool) : Type 0 where
  pub many : length marks ≡ count
  pub each : (k : ℕ) → k < count
      → slice_index_or marks k false ≡ list_any (λ (x : Evaluated). x.ticket == k + 1) entries

-- these numbers rise, and the last one is this
pub record RiseTo (xs : List ℕ) (last : Option ℕ) : Type 0 where
  pub rising : IsStrictlyIncreasing xs
  pub last_is : slice_get xs (length xs - 1) ≡ last

-- the same of the first k of the faults noted, which stand by ticket;
-- the last ticket listed is this, and isn't above those that follow
pub record AreListedUpTo (k : ℕ) (noted listed : List NodeFault) (last : Option ℕ) : Type 0 where
  pub rise : RiseTo (fault_tickets listed) last
  pub first : All (λ (f : NodeFault). first_of_ticket f.ticket noted ≡ Some f) listed
  pub high : (i : ℕ) (f : NodeFault) → i < k → slice_get noted i ≡ Some f
      → MatchOption last ⊥ (λ before. f.ticket ≤ before)
  pub told : (i : ℕ) (f : NodeFault) → i < k → slice_get noted i ≡ Some f → Contains (fault_tickets listed) f.ticket
  pub low : IfSome last (λ before. (i : ℕ) (f : NodeFault) → k ≤ i → slice_get noted i ≡ Some f → before ≤ f.ticket)

-- no command has this ticket
abbrev pub IsNoTicket : List Command → ℕ → Type 0
IsNoTicket commands ticket = (c : Command) → Contains commands c → c.ticket ≡ ticket → ⊥

-- this one is listed and has this ticket, and no other one has
pub record IsOfTicket (commands : List Command) (ticket : ℕ) (c : Command) : Type 0 where
  pub listed : Contains commands c
  pub ticket_is : c.ticket ≡ ticket
  pub only : (d : Command) → Contains commands d → d.ticket ≡ ticket → d ≡ c

-- for each place, whether a journal has a restart of its ticket, which is one more than the place
abbrev pub AreRestartMarks : List Journal → List Bool → Type 0
AreRestartMarks journals marks =
    (k : ℕ) → k < length marks
    → slice_index_or marks k false ≡ list_any (λ (j : Journal). list_any (is_restart_of (k + 1)) j.steps) journals

-- a ticket has a place among the marks
abbrev pub HasMark : List Bool → ℕ → Type 0
HasMark marks ticket = (0 < ticket) × (ticket ≤ length marks)

-- this answer tells whether a command wasn't obeyed, if these mark the restarts of the journals
abbrev pub TellsUnobeyed : List Bool → List ℕ → Command → Bool → Type 0
TellsUnobeyed marks unanswered command answer =
    (journals : List Journal) → AreRestartMarks journals marks
    → (IsTrue answer ↔ IsUnobeyed unanswered journals command)

-- this answer tells whether a fault is told of a command, if these mark the restarts of the journals
abbrev pub TellsTold : List Bool → PlantValue → List Command → List ℕ → NodeFault → Bool → Type 0
TellsTold marks plant commands unanswered f answer =
    (journals : List Journal) → AreRestartMarks journals marks
    → (IsTrue answer ↔ IsToldOf plant commands journals unanswered f)

-- what was marked is marked, and the resource of a fault that may stop it
abbrev pub AreMarkedBy : List Bool → List Bool → NodeFault → Type 0
AreMarkedBy old new f =
    (r : ℕ) → r < length old
    → slice_index_or new r false ≡ (slice_index_or old r false || (f.resource == r && may_stop f.cause))

-- the resource of a fault is marked, if it has stopped
abbrev pub IsMarkedIfStopped : List Bool → NodeFault → Type 0
IsMarkedIfStopped marks f = f.cause ≡ Stopped → IsTrue (slice_index_or marks f.resource false)

-- for each place, whether one of these faults may have stopped the resource
abbrev pub AreStopMarks : List NodeFault → List Bool → Type 0
AreStopMarks faults marks = (r : ℕ) → r < length marks → slice_index_or marks r false ≡ may_have_stopped r faults

-- each fault is of one of so many resources
abbrev pub AreWithin : ℕ → List NodeFault → Type 0
AreWithin count faults = All (λ (f : NodeFault). f.resource < count) faults

-- a resource has stopped only where an earlier one of the faults may have stopped it; this of the first k of them
abbrev pub AreStopsTold : ℕ → List NodeFault → Type 0
AreStopsTold k faults =
    (i : ℕ) (f : NodeFault) → i < k → slice_get faults i ≡ Some f → f.cause ≡ Stopped
    → may_have_stopped f.resource (take i faults) ≡ true

-- why the faults noted aren't told: for want of memory, or because not all are told of commands that may have met them
abbrev pub IsToldFault : PlantValue → List Command → List Journal → List ℕ → List NodeFault → RunFault → Type 0
IsToldFault plant commands journals unanswered noted fault =
    (fault ≡ run.Memory)
    ⊎ ((fault ≡ run.Stranger) × AreListed (λ fs. ¬ (AreTold plant commands journals unanswered fs)) noted)

-- for each journal, the incarnations in which its resource was
abbrev pub AreIncarnationsOf : List Journal → List (List ℕ) → Type 0
AreIncarnationsOf journals all = all ≡ map incarnations_of journals

-- an incarnation is among those at a place, if there are any
abbrev pub IsAt : List (List ℕ) → ℕ → ℕ → Type 0
IsAt all place incarnation = IfSome (slice_get all place) (λ those. Contains those incarnation)

-- each number that was heard is among those at its place
abbrev pub AreAt : List (List ℕ) → List ℕ → Type 0
AreAt all heard = (place incarnation : ℕ) → slice_get heard place ≡ Some incarnation → IsAt all place incarnation
