-- What a report of the threads has to be: the book fits, the journals are lawful, they made the book's entries,
-- the commands are accounted for, and the book's entries are a run.
use Rattle.std.specs.Prelude.{◌≡◌, ◌≢◌, ◌⊎◌, [], ◌∷◌, ℕ, ◌<◌, ◌≤◌, ◌==◌, ◌&&◌, Bool, true, false, not, List, Option, Some, None, MatchOption, All, Contains, length, map, filter, find, reverse, take, slice_get}
use Rattle.std.specs.List.{filter_map, list_any}
use Rattle.std.specs.List.Sorted.{IsStrictlyIncreasing}
use Rattle.plant.specs.PlantValue.{PlantValue, tasks_at, code_at}
use Rattle.evaluation.specs.Meaning.{Evaluated}
use Rattle.world.specs.declared.event.Event.{Event}
use Rattle.world.specs.History.{Setting, setting_over}
use Rattle.world.specs.Run.{IsRun}
use Rattle.book.specs.Fits.{AllFit}
use Rattle.book.specs.Book.{BookValue}
use Rattle.world.specs.Replays.{Replays, AllCouldBeMade}
use Rattle.node_reports.specs.declared.command.Command.{Command}
use Rattle.node_reports.specs.declared.act.Act.{Act}
use Rattle.node_reports.specs.declared.act.Act.TheVariants.{Evaluate, Restart}
use Rattle.node_reports.specs.declared.step.Step.{Step}
use Rattle.node_reports.specs.declared.step.Step.TheVariants.{Took, Made, Restarted, Heard}
use Rattle.node_reports.specs.declared.journal.Journal.{Journal}
use Rattle.node_reports.specs.declared.cause.Cause.{Cause}
use Rattle.node_reports.specs.declared.cause.Cause.TheVariants.{OutOfTurns, NoSuchTask, NumbersSpent, Memory, Misfit, Keeper, NotSent, Stopped}
use Rattle.node_reports.specs.declared.node_fault.NodeFault.{NodeFault}
use Rattle.node_reports.specs.declared.run_fault.RunFault.{RunFault}
use Rattle.node_reports.specs.declared.run_fault.RunFault.TheVariants as run
use Rattle.node_reports.specs.Journals.{made, firsts_of, openings_of, IsLawful}

-- the entries of one resource, in order
abbrev pub entries_of : ℕ → List Evaluated → List Evaluated
entries_of resource entries = filter (λ (x : Evaluated). x.name.task.resource == resource) entries

-- First. Each entry of the book fits the entries before it, and the book begins with the journals' first incarnations.
pub record IsFittingBook (book : BookValue) (journals : List Journal) : Type 0 where
  pub fit : AllFit book.first (reverse book.entries)
  pub first_is : book.first ≡ firsts_of journals

-- Second. There is one journal for each resource of the plant, in the plant's order, and each is lawful,
-- with the journals' first incarnations.
pub record AreJournalsOf (plant : PlantValue) (max_number : ℕ) (journals : List Journal) : Type 0 where
  pub many : length journals ≡ length plant.resources
  pub in_order : (k : ℕ) (j : Journal) → slice_get journals k ≡ Some j → j.resource ≡ k
  pub lawful : All (IsLawful plant (firsts_of journals) max_number) journals

-- Third. What each journal made are, in order, the book's entries of its resource.
abbrev pub AreInBook : List Evaluated → List Journal → Type 0
AreInBook entries journals = All (λ (j : Journal). made j.steps ≡ entries_of j.resource entries) journals

-- the command that an evaluation answers: of its ticket, resource, task, elapsed time and field inputs
abbrev pub command_of : Evaluated → Command
command_of x =
    record { ticket = x.ticket; resource = x.name.task.resource; act = Evaluate x.name.task.task x.dt x.inputs }

-- a step of a resource, where it is a restart, answers a Restart command of that resource
abbrev pub IsCommanded : List Command → ℕ → Step → Type 0
IsCommanded commands resource (Took x) = Unit {0}
IsCommanded commands resource (Made x) = Unit {0}
IsCommanded commands resource (Heard of heard) = Unit {0}
IsCommanded commands resource (Restarted ticket incarnation) =
    Contains commands (record { ticket = ticket; resource = resource; act = Restart })

-- the ticket of an evaluation made or of a restart
abbrev pub ticket_of : Step → Option ℕ
ticket_of (Took x) = None
ticket_of (Made x) = Some x.ticket
ticket_of (Heard of heard) = None
ticket_of (Restarted ticket incarnation) = Some ticket

-- the tickets of the evaluations made and of the restarts, in order
abbrev pub tickets_of : List Step → List ℕ
tickets_of steps = filter_map ticket_of steps

-- the incarnation of a restart
abbrev pub restarted_in : Step → Option ℕ
restarted_in (Took x) = None
restarted_in (Made x) = None
restarted_in (Restarted ticket incarnation) = Some incarnation
restarted_in (Heard of heard) = None

-- the incarnations in which a resource was, as its journal tells: the first one, and those of its restarts
abbrev pub incarnations_of : Journal → List ℕ
incarnations_of j = j.first ∷ filter_map restarted_in j.steps

-- each number that an evaluation has heard is an incarnation in which the resource at its place was
abbrev pub HasHeardTruly : List Journal → Evaluated → Type 0
HasHeardTruly journals x =
    (m i : ℕ) (j : Journal) → slice_get x.heard m ≡ Some i → slice_get journals m ≡ Some j
    → Contains (incarnations_of j) i

-- all restarts of a journal are commanded, and its tickets rise
pub record IsObedient (commands : List Command) (j : Journal) : Type 0 where
  pub restarts : All (IsCommanded commands j.resource) j.steps
  pub rising : IsStrictlyIncreasing (tickets_of j.steps)

abbrev pub is_evaluate : Act → Bool
is_evaluate (Evaluate task dt inputs) = true
is_evaluate Restart = false

-- an Evaluate command that no entry answers
abbrev pub is_unanswered : List Evaluated → Command → Bool
is_unanswered entries c = is_evaluate c.act && not (list_any (λ (x : Evaluated). x.ticket == c.ticket) entries)

-- their tickets, in the order of the commands
abbrev pub unanswered_of : List Command → List Evaluated → List ℕ
unanswered_of commands entries = map (λ (c : Command). c.ticket) (filter (is_unanswered entries) commands)

-- Fourth. Each entry answers an Evaluate command of its ticket with its contents,
-- each restart answers a Restart command of its resource, the tickets rise in each journal,
-- what entries have heard is true, and the Evaluate commands that no entry answers are listed.
pub record AreAnswers (commands : List Command) (entries : List Evaluated) (journals : List Journal)
    (unanswered : List ℕ) : Type 0 where
  pub commanded : All (λ (x : Evaluated). Contains commands (command_of x)) entries
  pub obedient : All (IsObedient commands) journals
  pub heard : All (HasHeardTruly journals) entries
  pub unanswered_are : unanswered ≡ unanswered_of commands entries

-- a step is the restart of a ticket
abbrev pub is_restart_of : ℕ → Step → Bool
is_restart_of ticket (Took x) = false
is_restart_of ticket (Made x) = false
is_restart_of ticket (Heard of heard) = false
is_restart_of ticket (Restarted own incarnation) = own == ticket

-- a command wasn't obeyed: one to evaluate is among the unanswered, and of one to restart no journal has the restart
abbrev pub IsUnobeyed : List ℕ → List Journal → Command → Type 0
IsUnobeyed unanswered journals c = by c.act
  where
    by : Act → Type 0
    by (Evaluate task dt inputs) = Contains unanswered c.ticket
    by Restart = All (λ (j : Journal). list_any (is_restart_of c.ticket) j.steps ≡ false) journals

-- a command asks to evaluate a task that its resource has
abbrev pub HasTask : PlantValue → Command → Type 0
HasTask plant c = by c.act
  where
    by : Act → Type 0
    by (Evaluate task dt inputs) = task < length (tasks_at plant c.resource)
    by Restart = ⊥

-- a command asks to evaluate a task that its resource hasn't
abbrev pub LacksTask : PlantValue → Command → Type 0
LacksTask plant c = by c.act
  where
    by : Act → Type 0
    by (Evaluate task dt inputs) = length (tasks_at plant c.resource) ≤ task
    by Restart = ⊥

-- a command asks to evaluate a task that has retained variables
abbrev pub KeepsRetained : PlantValue → Command → Type 0
KeepsRetained plant c = by c.act
  where
    by : Act → Type 0
    by (Evaluate task dt inputs) = MatchOption (code_at plant (record { resource = c.resource; task = task })) ⊥
        (λ code. code.retained ≢ [])
    by Restart = ⊥

-- A command may have met a cause, where this says that it wasn't obeyed.
-- One may be out of turns also when it is done with, and an evaluation made, or the news of a restart, may not be sent.
-- A keeper is asked for a restart, which isn't obeyed where it refuses; and it is handed the retained variables of a
-- task once its evaluation stands, which stays so where it refuses, or where memory is wanting for them.
-- After any other cause the command isn't obeyed.
-- Only a task that isn't there is no such task, and only one that is there spends its numbers or is a misfit.
abbrev pub MayMeet : PlantValue → Command → Type 0 → Cause → Type 0
MayMeet plant c Unobeyed OutOfTurns = Unit {0}
MayMeet plant c Unobeyed NoSuchTask = LacksTask plant c × Unobeyed
MayMeet plant c Unobeyed NumbersSpent = HasTask plant c × Unobeyed
MayMeet plant c Unobeyed Memory = Unobeyed ⊎ KeepsRetained plant c
MayMeet plant c Unobeyed Misfit = HasTask plant c × Unobeyed
MayMeet plant c Unobeyed Keeper = ((c.act ≡ Restart) × Unobeyed) ⊎ (KeepsRetained plant c × ¬ Unobeyed)
MayMeet plant c Unobeyed NotSent = Unit {0}
MayMeet plant c Unobeyed Stopped = Unobeyed

-- a fault is told of a command, by its ticket and resource, and of a cause that the command may have met
pub record IsToldOf (plant : PlantValue) (commands : List Command) (journals : List Journal) (unanswered : List ℕ)
    (f : NodeFault) : Type 0 where
  pub command : Command
  pub listed : Contains commands command
  pub ticket_is : command.ticket ≡ f.ticket
  pub resource_is : command.resource ≡ f.resource
  pub may_meet : MayMeet plant command (IsUnobeyed unanswered journals command) f.cause

-- each of these faults is
abbrev pub AllTold : PlantValue → List Command → List Journal → List ℕ → List NodeFault → Type 0
AllTold plant commands journals unanswered faults = All (IsToldOf plant commands journals unanswered) faults

-- a resource obeys no further command after a fault of it that may stop it: want of memory, or a misfit
abbrev pub may_stop : Cause → Bool
may_stop OutOfTurns = false
may_stop NoSuchTask = false
may_stop NumbersSpent = false
may_stop Memory = true
may_stop Misfit = true
may_stop Keeper = false
may_stop NotSent = false
may_stop Stopped = false

-- one of these faults may have stopped a resource
abbrev pub may_have_stopped : ℕ → List NodeFault → Bool
may_have_stopped resource faults = list_any (λ (f : NodeFault). f.resource == resource && may_stop f.cause) faults

-- the tickets of faults
abbrev pub fault_tickets : List NodeFault → List ℕ
fault_tickets faults = map (λ (f : NodeFault). f.ticket) faults

-- The faults are told by ticket, at most one of each; each is told of a command;
-- and a resource has stopped only where an earlier fault may have stopped it.
pub record AreTold (plant : PlantValue) (commands : List Command) (journals : List Journal) (unanswered : List ℕ)
    (faults : List NodeFault) : Type 0 where
  pub rising : IsStrictlyIncreasing (fault_tickets faults)
  pub told : AllTold plant commands journals unanswered faults
  pub stopped : (k : ℕ) (f : NodeFault) → slice_get faults k ≡ Some f → f.cause ≡ Stopped
      → may_have_stopped f.resource (take k faults) ≡ true

-- the first of these faults that has this ticket
abbrev pub first_of_ticket : ℕ → List NodeFault → Option NodeFault
first_of_ticket ticket noted = find (λ (f : NodeFault). f.ticket == ticket) noted

-- Each of these is the first fault noted of its ticket, their tickets rise, and each ticket of a fault noted is among
-- theirs.
pub record AreByTicket (noted listed : List NodeFault) : Type 0 where
  pub rising : IsStrictlyIncreasing (fault_tickets listed)
  pub first : All (λ (f : NodeFault). first_of_ticket f.ticket noted ≡ Some f) listed
  pub told : All (λ (f : NodeFault). Contains (fault_tickets listed) f.ticket) noted

-- the setting in which the threads ran: the plant, the journals' first incarnations and openings, and the limit
abbrev pub setting_of : PlantValue → ℕ → List Journal → Setting
setting_of plant max_number journals = setting_over plant (firsts_of journals) (openings_of journals) max_number

-- Fifth. Events that make the book's entries again, such as the book's schedule,
-- have just these entries as their run, over the plant, the journals' first incarnations and openings, and the limit.
abbrev pub RunsAgain : PlantValue → ℕ → BookValue → List Journal → Type 0
RunsAgain plant max_number book journals =
    (events : List Event) → Replays book.first book.entries events
    → IsRun (setting_of plant max_number journals) events book.entries

-- So each entry could have been made after those before it: by the plant's code, with a number within the limit, from
-- the state that the task's last entry in its incarnation left.
abbrev pub CanBeMadeAgain : PlantValue → ℕ → BookValue → List Journal → Type 0
CanBeMadeAgain plant max_number book journals =
    AllCouldBeMade (setting_of plant max_number journals) (reverse book.entries)

-- The journals agree with the book: there is one for each resource of the plant, in the plant's order,
-- each begins in the book's first incarnation of its resource, and what each made are, in order,
-- the book's entries of its resource.
pub record Agree (plant : PlantValue) (book : BookValue) (journals : List Journal) : Type 0 where
  pub many : length journals ≡ length plant.resources
  pub in_order : (k : ℕ) (j : Journal) → slice_get journals k ≡ Some j → j.resource ≡ k
  pub first_is : book.first ≡ firsts_of journals
  pub in_book : AreInBook book.entries journals

-- why a book and journals aren't those of one run: they don't agree
abbrev pub IsAgreeFault : PlantValue → BookValue → List Journal → RunFault → Type 0
IsAgreeFault plant book journals run.Memory = ⊥
IsAgreeFault plant book journals run.Spawn = ⊥
IsAgreeFault plant book journals run.BookDisagrees = ¬ (Agree plant book journals)
IsAgreeFault plant book journals run.Stranger = ⊥
IsAgreeFault plant book journals run.Doubled = ⊥
IsAgreeFault plant book journals run.Keeper = ⊥

-- each entry answers an Evaluate command of its ticket with its contents,
-- each restart a Restart command of its resource, and what entries have heard is true
pub record AreCommanded (commands : List Command) (entries : List Evaluated) (journals : List Journal) : Type 0 where
  pub evaluations : All (λ (x : Evaluated). Contains commands (command_of x)) entries
  pub restarts : All (λ (j : Journal). All (IsCommanded commands j.resource) j.steps) journals
  pub heard : All (HasHeardTruly journals) entries

-- the tickets of the evaluations made and of the restarts rise in each journal
abbrev pub AreRising : List Journal → Type 0
AreRising journals = All (λ (j : Journal). IsStrictlyIncreasing (tickets_of j.steps)) journals

-- of the faults noted the first of each ticket are listed, and this holds of that list
pub record AreListed (P : List NodeFault → Type 0) (noted : List NodeFault) : Type 0 where
  pub listed : List NodeFault
  pub by_ticket : AreByTicket noted listed
  pub holds : P listed

-- of the commands, the entries and the journals, these faults are told of commands that may have met them
abbrev pub AreToldOf : PlantValue → List Command → List Evaluated → List Journal → List NodeFault → Type 0
AreToldOf plant commands entries journals faults =
    AreTold plant commands journals (unanswered_of commands entries) faults

-- Why no report is collected of a book, of journals and of the faults noted. The journals don't agree with the book.
-- Or they agree, and an entry or a restart answers no command of its own, an entry has heard of an incarnation that
-- never was, or a fault is told of no command that may have met it. Or all that is so, and only the tickets of a journal
-- don't rise.
-- Want of memory may stand in the place of each, and there is no other fault.
abbrev pub IsCollectFault : PlantValue → List Command → BookValue → List Journal → List NodeFault → RunFault → Type 0
IsCollectFault plant commands book journals noted run.Memory = Unit {0}
IsCollectFault plant commands book journals noted run.Spawn = ⊥
IsCollectFault plant commands book journals noted run.BookDisagrees = ¬ (Agree plant book journals)
IsCollectFault plant commands book journals noted run.Stranger =
    Agree plant book journals
    × (¬ (AreCommanded commands book.entries journals)
    ⊎ AreListed (λ fs. ¬ (AreToldOf plant commands book.entries journals fs)) noted)
IsCollectFault plant commands book journals noted run.Doubled =
    Agree plant book journals × AreCommanded commands book.entries journals
    × AreListed (AreToldOf plant commands book.entries journals) noted × ¬ (AreRising journals)
IsCollectFault plant commands book journals noted run.Keeper = ⊥

-- threads left a book whose entries fit, lawful journals, and faults, of which no report is collected for this reason
pub record LeavesFault (plant : PlantValue) (max_number : ℕ) (commands : List Command) (fault : RunFault) : Type 0 where
  pub book : BookValue
  pub journals : List Journal
  pub noted : List NodeFault
  pub fit : AllFit book.first (reverse book.entries)
  pub lawful : All (IsLawful plant (firsts_of journals) max_number) journals
  pub found : IsCollectFault plant commands book journals noted fault

-- Why a run of threads gives no report: memory was wanting, a thread wasn't started or a keeper didn't raise its
-- incarnation, or didn't tell what it kept, before the start; else no report is collected of what the threads left.
abbrev pub IsRunFault : PlantValue → ℕ → List Command → RunFault → Type 0
IsRunFault plant max_number commands run.Memory = Unit {0}
IsRunFault plant max_number commands run.Spawn = Unit {0}
IsRunFault plant max_number commands run.BookDisagrees = LeavesFault plant max_number commands run.BookDisagrees
IsRunFault plant max_number commands run.Stranger = LeavesFault plant max_number commands run.Stranger
IsRunFault plant max_number commands run.Doubled = LeavesFault plant max_number commands run.Doubled
IsRunFault plant max_number commands run.Keeper = Unit {0}
