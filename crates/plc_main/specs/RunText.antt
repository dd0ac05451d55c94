-- What `plc run` writes.
use Rattle.std.specs.Prelude.{◌≢◌, ◌↔◌, ℕ, ◌++◌, ◌⊎◌, IsTrue, true, List, [], Option, Result}
use Rattle.std.specs.Io.KnownBytes.{Appends, Keeps}
use Rattle.plant.specs.PlantValue.{PlantValue}
use Rattle.keepers.specs.Keepers.{Telling}
use Rattle.keepers.specs.declared.keeper_fault.KeeperFault.{KeeperFault}
use Rattle.evaluation.specs.declared.field_input.FieldInput.{FieldInput}
use Rattle.evaluation.specs.InputTexts.{IsRead}
use Rattle.node_reports.specs.declared.command.Command.{Command}
use Rattle.run_texts.specs.declared.run_plan.PlannedRun.{PlannedRun}
use Rattle.node_reports.specs.declared.report.Report.{Report}
use Rattle.node_reports.specs.Journals.{BeginAbove}
use Rattle.node_reports.specs.Reports.{IsFittingBook, AreJournalsOf, AreInBook, AreAnswers, RunsAgain, CanBeMadeAgain, AreTold, IsRunFault}
use Rattle.node.specs.Openings.{OpenAsTold}
use Rattle.node.specs.Raises.{BeginAsRaised}
use Rattle.console.specs.declared.request.RunRequest.{RunRequest}
use Rattle.console.specs.Answers.{AreWantedFor}
use Rattle.console.specs.FieldWords.{one_text_of}
use Rattle.console.specs.declared.command_fault.CommandFault.{CommandFault}
use Rattle.console.specs.declared.command_fault.CommandFault.TheVariants.{Text, Word, Write, Run, Memory}
use Rattle.text_lines.specs.Sending.{SendsPart, SendsLess}
use Rattle.node_reports.specs.declared.run_fault.RunFault.{RunFault}
use Rattle.node_reports.specs.declared.run_fault.RunFault.TheVariants as run
use Rattle.text_commands.specs.declared.text_command_fault.TextCommandFault.TheVariants as text
use Rattle.text_commands.specs.PlanText.{RefusesPlanOf}
use Rattle.traces.specs.declared.texts.Wanted.{Wanted}
use Rattle.traces.specs.Texts.{ArePlannedTexts}
use Rattle.plc_main.specs.declared.run_command.Ran.{Ran}
use Rattle.run_texts.specs.RunCommands.{IsPlannedRun}
use Rattle.run_texts.specs.ReportText.{report_lines, replay_line}

-- What a report of threads with these keepers is: its book fits; its journals are lawful, begin above what the keepers
-- held last, as they answered and with what they told, and made the book's entries; the commands are accounted for, the
-- book's entries are a run and could have been made one after the other, and the faults are told of commands that may have
-- met them.
pub record IsReport {K : Type 0} (last : K → ℕ) (raises : K → Result ℕ KeeperFault → Type 0) (tells : K → Telling)
    (keepers : List K) (plant : PlantValue) (commands : List Command) (max_number : ℕ) (r : Report) : Type 0 where
  pub fitting : IsFittingBook r.book r.journals
  pub journals : AreJournalsOf plant max_number r.journals
  pub begun : BeginAbove last keepers r.journals
  pub given : BeginAsRaised raises keepers r.journals
  pub opened : OpenAsTold tells plant keepers r.journals
  pub made : AreInBook r.book.entries r.journals
  pub answers : AreAnswers commands r.book.entries r.journals r.unanswered
  pub again : RunsAgain plant max_number r.book r.journals
  pub made_again : CanBeMadeAgain plant max_number r.book r.journals
  pub faults : AreTold plant commands r.journals r.unanswered r.node_faults

-- a report of threads that ran the commands for the plan
pub record IsReportOf {K : Type 0} (last : K → ℕ) (raises : K → Result ℕ KeeperFault → Type 0) (tells : K → Telling)
    (keepers : List K) (plant : PlantValue) (until : ℕ) (inputs : List FieldInput) (report : Report) : Type 0 where
  pub work : PlannedRun
  pub planned : IsPlannedRun plant until inputs work
  pub reported : IsReport last raises tells keepers plant work.commands.items 4294967295 report

-- The lines of such a report were written, and `REPLAY equal` last; the answer is whether there is a fault in the
-- report, with the texts that are wanted of its book's evaluations at the moments of the plan.
pub record WritesReport {K : Type 0} (last : K → ℕ) (raises : K → Result ℕ KeeperFault → Type 0) (tells : K → Telling)
    (keepers : List K) (plant : PlantValue) (until : ℕ) (inputs : List FieldInput) (wanted : Wanted)
    (old new : Option (List ℕ)) (ran : Ran) : Type 0 where
  pub report : Report
  pub is_report : IsReportOf last raises tells keepers plant until inputs report
  pub appended : Appends old new (report_lines plant report ++ replay_line true)
  pub faulty_is : IsTrue ran.faulty ↔ (report.node_faults ≢ [])
  pub texts : ArePlannedTexts wanted plant until is_report.work.dues.items report.book.entries ran.texts

-- the report of the plant up to the moment that was asked for was written, with the field inputs that the words give, and
-- the texts for the files that were asked for
pub record WritesAskedRun {K : Type 0} (last : K → ℕ) (raises : K → Result ℕ KeeperFault → Type 0) (tells : K → Telling)
    (keepers : List K) (plant : PlantValue) (request : RunRequest) (old new : Option (List ℕ)) (ran : Ran) : Type 0 where
  pub inputs : List FieldInput
  pub read : IsRead (one_text_of request.words.items) inputs
  pub wanted : Wanted
  pub asked : AreWantedFor request.plant.now request.files wanted
  pub report : WritesReport last raises tells keepers plant request.until inputs wanted old new ran

-- a beginning of the text of such a report was written, and not all of it
pub record WritesReportLess {K : Type 0} (last : K → ℕ) (raises : K → Result ℕ KeeperFault → Type 0) (tells : K → Telling)
    (keepers : List K) (plant : PlantValue) (until : ℕ) (inputs : List FieldInput) (old new : Option (List ℕ)) : Type 0 where
  pub report : Report
  pub is_report : IsReportOf last raises tells keepers plant until inputs report
  pub sent : SendsLess (report_lines plant report ++ replay_line true) old new

-- no more than a beginning of the lines of such a report was written, and nothing of the last line
pub record WritesReportPart {K : Type 0} (last : K → ℕ) (raises : K → Result ℕ KeeperFault → Type 0) (tells : K → Telling)
    (keepers : List K) (plant : PlantValue) (until : ℕ) (inputs : List FieldInput) (old new : Option (List ℕ)) : Type 0 where
  pub report : Report
  pub is_report : IsReportOf last raises tells keepers plant until inputs report
  pub sent : SendsPart (report_lines plant report) old new

-- threads that ran the commands for the plan gave no report, for this reason, which isn't want of memory
pub record RefusesRun (plant : PlantValue) (until : ℕ) (inputs : List FieldInput) (fault : RunFault) : Type 0 where
  pub work : PlannedRun
  pub planned : IsPlannedRun plant until inputs work
  pub refused : IsRunFault plant 4294967295 work.commands.items fault
  pub not_memory : fault ≢ run.Memory

-- why there was a fault, and what was written before: nothing before a plan that is too long and threads that gave no
-- report for another reason than want of memory, and after want of memory no last line
abbrev pub ExplainsRun : {K : Type 0} → (K → ℕ) → (K → Result ℕ KeeperFault → Type 0) → (K → Telling) → List K → PlantValue → ℕ
    → List FieldInput → Option (List ℕ) → Option (List ℕ) → CommandFault → Type 0
ExplainsRun last raises tells keepers plant until inputs old new (Text fault) =
    RefusesPlanOf plant until (text.Text fault) × Keeps old new
ExplainsRun last raises tells keepers plant until inputs old new (Word fault) = ⊥
ExplainsRun last raises tells keepers plant until inputs old new Write =
    WritesReportLess last raises tells keepers plant until inputs old new
ExplainsRun last raises tells keepers plant until inputs old new (Run fault) =
    RefusesRun plant until inputs fault × Keeps old new
ExplainsRun last raises tells keepers plant until inputs old new Memory =
    Keeps old new ⊎ WritesReportPart last raises tells keepers plant until inputs old new
