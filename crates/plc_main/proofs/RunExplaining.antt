-- Why `run_text` ended, from why a part of it did.
use Rattle.std.proofs.Common.{◌≡◌, ℕ, List, Option, Result, Ok, Err, IfErr, inl, inr, sym, subst}
use Rattle.std.specs.Result.{IsErrAnd}
use Rattle.std.proofs.KnownBytes.{Keeps-refl}
use Rattle.lists.proofs.Results.{kept_fault}
use Rattle.plant.specs.PlantValue.{PlantValue}
use Rattle.evaluation.specs.declared.field_input.FieldInput.{FieldInput}
use Rattle.keepers.specs.Keepers.{Telling}
use Rattle.keepers.specs.declared.keeper_fault.KeeperFault.{KeeperFault}
use Rattle.node_reports.specs.declared.run_fault.RunFault.{RunFault}
use Rattle.node_reports.specs.declared.report.Report.{Report}
use Rattle.node_reports.specs.Journals.{BeginAbove}
use Rattle.node_reports.specs.Reports.{IsFittingBook, AreJournalsOf, AreInBook, AreAnswers, RunsAgain, CanBeMadeAgain, AreTold, IsRunFault}
use Rattle.node.specs.Openings.{OpenAsTold}
use Rattle.node.specs.Raises.{BeginAsRaised}
use Rattle.console.specs.declared.command_fault.CommandFault.{CommandFault}
use Rattle.text_lines.specs.declared.send_fault.SendFault.{SendFault}
use Rattle.text_lines.specs.declared.send_fault.SendFault.TheVariants as sending
use Rattle.text_commands.specs.declared.text_command_fault.TextCommandFault.{TextCommandFault}
use Rattle.text_commands.specs.declared.text_command_fault.TextCommandFault.TheVariants as text
use Rattle.text_commands.specs.PlanText.{RefusesPlanOf}
use Rattle.run_texts.specs.declared.run_plan.PlannedRun.{PlannedRun}
use Rattle.run_texts.specs.RunCommands.{IsPlannedRun}
use Rattle.run_texts.specs.ReportText.{TellsPart}
use Rattle.text_commands.specs.Giving.{sending_fault}
use Rattle.console.specs.Giving.{GivenForRun, command_fault}
use Rattle.plc_main.specs.RunText.{IsReportOf, ExplainsRun}

no_plan : {K : Type 0} (last : K → ℕ) (raises : K → Result ℕ KeeperFault → Type 0) (tells : K → Telling) (keepers : List K) (plant : PlantValue) (until : ℕ) (inputs : List FieldInput) (old : Option (List ℕ)) (found : TextCommandFault) → RefusesPlanOf plant until found → ExplainsRun last raises tells keepers plant until inputs old old (command_fault found)
no_plan last raises tells keepers plant until inputs old (text.Text fault) refused = (refused, Keeps-refl old)
no_plan last raises tells keepers plant until inputs old (text.Word fault) refused = absurd refused
no_plan last raises tells keepers plant until inputs old text.Write refused = absurd refused
no_plan last raises tells keepers plant until inputs old text.Memory refused = inl (Keeps-refl old)

-- no plan
pub run_refused : {K T : Type 0} (last : K → ℕ) (raises : K → Result ℕ KeeperFault → Type 0) (tells : K → Telling) (keepers : List K) (plant : PlantValue) (until : ℕ) (inputs : List FieldInput) (old : Option (List ℕ)) (found : TextCommandFault) (r : Result T CommandFault) → IsErrAnd r (λ fault. fault ≡ command_fault found)
    → RefusesPlanOf plant until found → IfErr r (ExplainsRun last raises tells keepers plant until inputs old old)
run_refused last raises tells keepers plant until inputs old found r is refused = kept_fault (command_fault found) (ExplainsRun last raises tells keepers plant until inputs old old) r is (no_plan last raises tells keepers plant until inputs old found refused)

-- no report
pub no_report : {K T : Type 0} (last : K → ℕ) (raises : K → Result ℕ KeeperFault → Type 0) (tells : K → Telling) (keepers : List K) (plant : PlantValue) (until : ℕ) (inputs : List FieldInput) (run : PlannedRun) (old : Option (List ℕ)) (found : RunFault) (r : Result T CommandFault) → IsPlannedRun plant until inputs run
    → IsRunFault plant 4294967295 run.commands.items found → IsErrAnd r (GivenForRun found) → IfErr r (ExplainsRun last raises tells keepers plant until inputs old old)
no_report last raises tells keepers plant until inputs run old found (Ok x) planned refused given = tt
no_report last raises tells keepers plant until inputs run old found (Err fault) planned refused given = elim given [
  | inl w ↦ subst (ExplainsRun last raises tells keepers plant until inputs old old) (sym w.1) (inl (Keeps-refl old))
  | inr w ↦ subst (ExplainsRun last raises tells keepers plant until inputs old old) (sym w.1) (record { work = run; planned = planned; refused = refused; not_memory = w.0 }, Keeps-refl old)
]

told_of : {K : Type 0} (last : K → ℕ) (raises : K → Result ℕ KeeperFault → Type 0) (tells : K → Telling) (keepers : List K) (plant : PlantValue) (until : ℕ) (inputs : List FieldInput) (old new : Option (List ℕ)) (report : Report) (found : SendFault) → IsReportOf last raises tells keepers plant until inputs report → TellsPart plant report old new found
    → ExplainsRun last raises tells keepers plant until inputs old new (command_fault (sending_fault found))
told_of last raises tells keepers plant until inputs old new report sending.Write is part = record { report = report; is_report = is; sent = part }
told_of last raises tells keepers plant until inputs old new report sending.Memory is part = inr (record { report = report; is_report = is; sent = part })

-- the report was told in part
pub told_partly : {K T : Type 0} (last : K → ℕ) (raises : K → Result ℕ KeeperFault → Type 0) (tells : K → Telling) (keepers : List K) (plant : PlantValue) (until : ℕ) (inputs : List FieldInput) (old new : Option (List ℕ)) (report : Report) (found : SendFault) (r : Result T CommandFault) → IsErrAnd r (λ fault. fault ≡ command_fault (sending_fault found))
    → IsReportOf last raises tells keepers plant until inputs report → TellsPart plant report old new found → IfErr r (ExplainsRun last raises tells keepers plant until inputs old new)
told_partly last raises tells keepers plant until inputs old new report found r given is part =
    kept_fault (command_fault (sending_fault found)) (ExplainsRun last raises tells keepers plant until inputs old new) r given (told_of last raises tells keepers plant until inputs old new report found is part)

-- what the threads answered is a report of the commands for the plan
abbrev pub report_of : {K : Type 0} (last : K → ℕ) (raises : K → Result ℕ KeeperFault → Type 0) (tells : K → Telling) (keepers : List K) (plant : PlantValue) (until : ℕ) (inputs : List FieldInput) (run : PlannedRun) (report : Report) → IsPlannedRun plant until inputs run
    → IsFittingBook report.book report.journals → AreJournalsOf plant 4294967295 report.journals → BeginAbove last keepers report.journals → BeginAsRaised raises keepers report.journals → OpenAsTold tells plant keepers report.journals → AreInBook report.book.entries report.journals
    → AreAnswers run.commands.items report.book.entries report.journals report.unanswered → RunsAgain plant 4294967295 report.book report.journals
    → CanBeMadeAgain plant 4294967295 report.book report.journals → AreTold plant run.commands.items report.journals report.unanswered report.node_faults → IsReportOf last raises tells keepers plant until inputs report
report_of last raises tells keepers plant until inputs run report planned fitting journals begun given opened made answers again made_again faults = record {
  work = run;
  planned = planned;
  reported = record { fitting = fitting; journals = journals; begun = begun; given = given; opened = opened; made = made; answers = answers; again = again; made_again = made_again; faults = faults };
}
