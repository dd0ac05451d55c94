-- The lines of a report of threads.
use Rattle.std.specs.Prelude.{◌≢◌, ◌↔◌, ℕ, ◌+◌, ◌++◌, Bool, IsTrue, true, List, [], ◌∷◌, Option, codes, if◌then◌else◌}
use Rattle.std.specs.List.{flat_map}
use Rattle.std.specs.Fmt.{decimal}
use Rattle.std.specs.Io.KnownBytes.{Appends}
use Rattle.plant.specs.PlantValue.{PlantValue}
use Rattle.evaluation.specs.Meaning.{Evaluated}
use Rattle.text_lines.specs.declared.send_fault.SendFault.{SendFault}
use Rattle.text_lines.specs.declared.send_fault.SendFault.TheVariants as sending
use Rattle.text_lines.specs.Sending.{SendsPart, SendsLess}
use Rattle.text_lines.specs.LineParts.{resource_text}
use Rattle.world.specs.RunLines.{evaluation_line}
use Rattle.node_reports.specs.declared.cause.Cause.{Cause}
use Rattle.node_reports.specs.declared.cause.Cause.TheVariants.{OutOfTurns, NoSuchTask, NumbersSpent, Memory, Misfit, Keeper, NotSent, Stopped}
use Rattle.node_reports.specs.declared.node_fault.NodeFault.{NodeFault}
use Rattle.node_reports.specs.declared.report.Report.{Report}

-- the lines of evaluations; their places are numbered from k on
abbrev pub entry_lines : PlantValue → ℕ → List Evaluated → List ℕ
entry_lines plant k [] = []
entry_lines plant k (x ∷ xs) = evaluation_line plant k x ++ entry_lines plant (k + 1) xs

-- `UNANSWERED k`
abbrev pub unanswered_line : ℕ → List ℕ
unanswered_line ticket = codes "UNANSWERED " ++ decimal ticket ++ codes "\n"

abbrev pub unanswered_lines : List ℕ → List ℕ
unanswered_lines tickets = flat_map unanswered_line tickets

-- why a command wasn't obeyed, or a message not sent
abbrev pub cause_text : Cause → List ℕ
cause_text OutOfTurns = codes "OutOfTurns"
cause_text NoSuchTask = codes "NoSuchTask"
cause_text NumbersSpent = codes "NumbersSpent"
cause_text Memory = codes "Memory"
cause_text Misfit = codes "Misfit"
cause_text Keeper = codes "Keeper"
cause_text NotSent = codes "NotSent"
cause_text Stopped = codes "Stopped"

-- `FAULT R1 3 NumbersSpent`: the resource, the ticket of the command to it, and the cause
abbrev pub fault_line : PlantValue → NodeFault → List ℕ
fault_line plant f =
    codes "FAULT " ++ resource_text plant f.resource ++ codes " " ++ decimal f.ticket ++ codes " "
    ++ cause_text f.cause ++ codes "\n"

abbrev pub fault_lines : PlantValue → List NodeFault → List ℕ
fault_lines plant faults = flat_map (fault_line plant) faults

-- What the threads did: a line for each entry of the book, with its place from 1, for each command that no entry
-- answers, and for each fault.
abbrev pub report_lines : PlantValue → Report → List ℕ
report_lines plant r =
    entry_lines plant 1 r.book.entries ++ unanswered_lines r.unanswered ++ fault_lines plant r.node_faults

-- the last line: whether the run of the book's schedule gives its entries
abbrev pub replay_line : Bool → List ℕ
replay_line equal = if equal then codes "REPLAY equal\n" else codes "REPLAY differs\n"

-- The lines of a report were written, and `REPLAY equal` last; the answer is whether there is a fault in the report.
pub record TellsReport (plant : PlantValue) (report : Report) (old new : Option (List ℕ)) (faulty : Bool) : Type 0 where
  pub appended : Appends old new (report_lines plant report ++ replay_line true)
  pub faulty_is : IsTrue faulty ↔ (report.node_faults ≢ [])

-- a beginning of these lines and the last one was written, and not all of it; for want of memory nothing of the last line
abbrev pub TellsBeginning : List ℕ → List ℕ → Option (List ℕ) → Option (List ℕ) → SendFault → Type 0
TellsBeginning lines last old new sending.Write = SendsLess (lines ++ last) old new
TellsBeginning lines last old new sending.Memory = SendsPart lines old new

-- so much was written of a report
abbrev pub TellsPart : PlantValue → Report → Option (List ℕ) → Option (List ℕ) → SendFault → Type 0
TellsPart plant report old new fault = TellsBeginning (report_lines plant report) (replay_line true) old new fault
