-- What one look at a journal finds, beside the book and the commands.
use Rattle.std.specs.Prelude.{◌≡◌, ◌↔◌, ℕ, IsTrue, List, Some, All, Contains, length, slice_get}
use Rattle.std.specs.List.Sorted.{IsStrictlyIncreasing}
use Rattle.evaluation.specs.Meaning.{Evaluated}
use Rattle.book.specs.Book.{BookValue}
use Rattle.plant.specs.PlantValue.{PlantValue}
use Rattle.node_reports.specs.declared.command.Command.{Command}
use Rattle.node_reports.specs.declared.step.Step.{Step}
use Rattle.node_reports.specs.declared.step.Step.TheVariants.{Took, Made, Restarted, Heard}
use Rattle.node_reports.specs.declared.journal.Journal.{Journal}
use Rattle.node_reports.specs.declared.collector.looked.Looked.{Looked}
use Rattle.node_reports.specs.declared.collector.found.Found.{Found}
use Rattle.node_reports.specs.Journals.{made}
use Rattle.node_reports.specs.Reports.{command_of, entries_of, tickets_of, IsCommanded, Agree, AreCommanded, AreRising}
use Rattle.node_reports.specs.Steps.Collecting.{AreAt}

-- an evaluation that a step made answers a command, and has heard of these incarnations alone; a restart answers one
abbrev pub IsHonestStep : List Command → List (List ℕ) → ℕ → Step → Type 0
IsHonestStep commands all resource (Took x) = Unit {0}
IsHonestStep commands all resource (Made x) = Contains commands (command_of x) × AreAt all x.heard
IsHonestStep commands all resource (Heard of heard) = Unit {0}
IsHonestStep commands all resource (Restarted ticket incarnation) =
    IsCommanded commands resource (Restarted ticket incarnation)

-- what a look at a journal has found
pub record IsLooked (commands : List Command) (entries : List Evaluated) (all : List (List ℕ)) (j : Journal)
    (l : Looked) : Type 0 where
  pub made_is : IsTrue l.is_made ↔ (made j.steps ≡ entries_of j.resource entries)
  pub honest_is : IsTrue l.is_honest ↔ All (IsHonestStep commands all j.resource) j.steps
  pub rising_is : IsTrue l.is_rising ↔ IsStrictlyIncreasing (tickets_of j.steps)

-- one look at each journal, in their order
pub record AreLooked (commands : List Command) (entries : List Evaluated) (all : List (List ℕ))
    (journals : List Journal) (looked : List Looked) : Type 0 where
  pub many : length looked ≡ length journals
  pub each : (k : ℕ) (j : Journal) (l : Looked) → slice_get journals k ≡ Some j → slice_get looked k ≡ Some l
      → IsLooked commands entries all j l

-- what the looks at all journals have found; of journals that don't agree nothing is told of commands
pub record IsFound (plant : PlantValue) (commands : List Command) (book : BookValue) (journals : List Journal)
    (f : Found) : Type 0 where
  pub agree_is : IsTrue f.agree ↔ Agree plant book journals
  pub honest_is : Agree plant book journals → (IsTrue f.are_honest ↔ AreCommanded commands book.entries journals)
  pub rising_is : IsTrue f.are_rising ↔ AreRising journals
