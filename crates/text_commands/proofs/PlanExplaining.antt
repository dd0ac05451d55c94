-- Why `plan_text` ended, from why a part of it did.
use Rattle.std.proofs.Common.{◌≡◌, ℕ, ◌≤◌, List, length, Option, Result, IfErr, inl, inr}
use Rattle.std.specs.Result.{IsErrAnd}
use Rattle.std.proofs.KnownBytes.{Keeps-refl}
use Rattle.lists.proofs.Results.{kept_fault}
use Rattle.std.specs.Io.KnownBytes.{Appends}
use Rattle.task_codes.specs.declared.due.Due.{Due}
use Rattle.plant.specs.PlantValue.{PlantValue}
use Rattle.plant.specs.Plan.{IsPlan}
use Rattle.text_commands.specs.declared.plan_form.PlanForm.{PlanForm}
use Rattle.text_commands.specs.declared.text_command_fault.TextCommandFault.{TextCommandFault}
use Rattle.text_commands.specs.declared.text_command_fault.TextCommandFault.TheVariants.{Text, Word, Write, Memory}
use Rattle.text_commands.specs.declared.text_fault.TextFault.TheVariants.{Draw, Graph, Bind, Plant, TooLong, Second}
use Rattle.text_lines.specs.declared.send_fault.SendFault.{SendFault}
use Rattle.text_lines.specs.declared.send_fault.SendFault.TheVariants as sending
use Rattle.text_commands.specs.Giving.{sending_fault}
use Rattle.text_commands.specs.CheckText.{IsPlantOf}
use Rattle.text_commands.specs.PlanText.{plan_lines, RefusesPlanOf, WritesPlan, StopsPlan, ExplainsPlan}
use Rattle.text_lines.specs.Sending.{Stops}

pub plan_refused : (text : List ℕ) (until : ℕ) (form : PlanForm) (old : Option (List ℕ)) (plant : PlantValue) (fault : TextCommandFault) → IsPlantOf text plant → RefusesPlanOf plant until fault → ExplainsPlan text until form old old fault
plan_refused text until form old plant (Text (Draw fault)) read refused = absurd refused
plan_refused text until form old plant (Text (Graph fault)) read refused = absurd refused
plan_refused text until form old plant (Text (Bind fault)) read refused = absurd refused
plan_refused text until form old plant (Text (Plant fault)) read refused = absurd refused
plan_refused text until form old plant (Text TooLong) read refused = ((record { plant = plant; read = read; dues = refused.0; planned = refused.1 }, refused.2), Keeps-refl old)
plan_refused text until form old plant (Text (Second fault)) read refused = absurd refused
plan_refused text until form old plant (Word fault) read refused = absurd refused
plan_refused text until form old plant Write read refused = absurd refused
plan_refused text until form old plant Memory read refused = inl (Keeps-refl old)

pub plan_written : (text : List ℕ) (until : ℕ) (form : PlanForm) (old new : Option (List ℕ)) (plant : PlantValue) (dues : List Due) → IsPlantOf text plant → IsPlan plant until dues × (length dues ≤ 100000)
    → Appends old new (plan_lines plant form dues) → WritesPlan text until form old new
plan_written text until form old new plant dues read plan written = record { plan = record { plant = plant; read = read; dues = dues; planned = plan.0 }; few = plan.1; appended = written }

sent_partly : (text : List ℕ) (until : ℕ) (form : PlanForm) (old new : Option (List ℕ)) (found : SendFault) → StopsPlan found text until form old new → ExplainsPlan text until form old new (sending_fault found)
sent_partly text until form old new sending.Write part = part
sent_partly text until form old new sending.Memory part = inr part

pub plan_partly : {T : Type 0} (text : List ℕ) (until : ℕ) (form : PlanForm) (old new : Option (List ℕ)) (plant : PlantValue) (dues : List Due) (found : SendFault) (r : Result T TextCommandFault) → IsErrAnd r (λ fault. fault ≡ sending_fault found)
    → IsPlantOf text plant → IsPlan plant until dues × (length dues ≤ 100000) → Stops found (plan_lines plant form dues) old new → IfErr r (ExplainsPlan text until form old new)
plan_partly text until form old new plant dues found r is read plan part =
    kept_fault (sending_fault found) (ExplainsPlan text until form old new) r is
    (sent_partly text until form old new found (record { plan = record { plant = plant; read = read; dues = dues; planned = plan.0 }; few = plan.1; stopped = part }))
