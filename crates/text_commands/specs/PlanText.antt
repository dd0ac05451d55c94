-- What `plc plan` writes.
use Rattle.std.specs.Prelude.{ℕ, ◌<◌, ◌≤◌, ◌==◌, ◌&&◌, ◌++◌, ◌⊎◌, Bool, not, List, Option, length, filter, unwrap_or, codes}
use Rattle.std.specs.List.{flat_map, list_any, enumerate_from, range_with_len}
use Rattle.std.specs.Option.{option_map}
use Rattle.std.specs.Fmt.{decimal}
use Rattle.std.specs.Io.KnownBytes.{Appends, Keeps}
use Rattle.task_codes.specs.declared.due.Due.{Due}
use Rattle.task_codes.specs.declared.task_ref.TaskRef.{TaskRef}
use Rattle.task_codes.specs.CodeValue.{CodeValue}
use Rattle.evaluation.specs.Last.{same_task}
use Rattle.plant.specs.PlantValue.{TaskValue, PlantValue, codes_at}
use Rattle.plant.specs.Plan.{task_at, IsPlan}
use Rattle.text_lines.specs.LineParts.{resource_text, task_text}
use Rattle.text_commands.specs.CheckText.{IsPlantOf, IsToldOf}
use Rattle.text_lines.specs.Sending.{Stops}
use Rattle.text_lines.specs.declared.send_fault.SendFault.{SendFault}
use Rattle.text_lines.specs.declared.send_fault.SendFault.TheVariants as sending
use Rattle.text_commands.specs.declared.plan_form.PlanForm.{PlanForm}
use Rattle.text_commands.specs.declared.plan_form.PlanForm.TheVariants.{Moments, Schedule}
use Rattle.text_commands.specs.declared.text_command_fault.TextCommandFault.{TextCommandFault}
use Rattle.text_commands.specs.declared.text_command_fault.TextCommandFault.TheVariants.{Text, Word, Write, Memory}
use Rattle.text_commands.specs.declared.text_fault.TextFault.{TextFault}
use Rattle.text_commands.specs.declared.text_fault.TextFault.TheVariants.{Draw, Graph, Bind, Plant, TooLong, Second}

-- the interval of a task
abbrev pub interval_at : PlantValue → TaskRef → ℕ
interval_at plant t = unwrap_or (option_map (λ (found : TaskValue). found.interval) (task_at plant t)) 0

-- a resource has a task that takes from this one
abbrev pub has_taker : PlantValue → ℕ → TaskRef → Bool
has_taker plant resource t =
    list_any (λ (c : CodeValue). list_any (λ p. same_task p t) c.producers) (codes_at plant resource)

-- another resource than the task's own has one that takes from it
abbrev pub is_taker : PlantValue → TaskRef → ℕ → Bool
is_taker plant t resource = not (resource == t.resource) && has_taker plant resource t

-- the resources that take from a task, each once, in the plant's order
abbrev pub takers_of : PlantValue → TaskRef → List ℕ
takers_of plant t = filter (is_taker plant t) (range_with_len 0 (length plant.resources))

-- a line `10 R1.FAST`: the moment, and the task
abbrev pub moment_line : PlantValue → Due → List ℕ
moment_line plant d = decimal d.moment ++ codes " " ++ task_text plant d.task ++ codes "\n"

-- a line `EVAL R1.FAST 10`: the task, and its interval, as the time since its evaluation before
abbrev pub evaluation_line : PlantValue → TaskRef → List ℕ
evaluation_line plant t = codes "EVAL " ++ task_text plant t ++ codes " " ++ decimal (interval_at plant t) ++ codes "\n"

-- a line `DELIVER 1 R2`: the message, and a resource
abbrev pub delivery_line : PlantValue → ℕ → ℕ → List ℕ
delivery_line plant message resource =
    codes "DELIVER " ++ decimal message ++ codes " " ++ resource_text plant resource ++ codes "\n"

-- For entry m of a plan its moment; or the evaluation of its task, which as the m-th of all is message m, and right
-- behind it the deliveries of that message to the resources that take from the task.
abbrev pub entry_lines : PlantValue → PlanForm → ℕ × Due → List ℕ
entry_lines plant Moments (m, d) = moment_line plant d
entry_lines plant Schedule (m, d) =
    evaluation_line plant d.task ++ flat_map (delivery_line plant m) (takers_of plant d.task)

-- the lines for each entry of a plan, counted from 1
abbrev pub plan_lines : PlantValue → PlanForm → List Due → List ℕ
plan_lines plant form dues = flat_map (entry_lines plant form) (enumerate_from 1 dues)

-- there is no plan: it is too long, or memory
abbrev pub RefusesPlanOf : PlantValue → ℕ → TextCommandFault → Type 0
RefusesPlanOf plant until (Text (Draw fault)) = ⊥
RefusesPlanOf plant until (Text (Graph fault)) = ⊥
RefusesPlanOf plant until (Text (Bind fault)) = ⊥
RefusesPlanOf plant until (Text (Plant fault)) = ⊥
RefusesPlanOf plant until (Text TooLong) = (dues : List Due) × IsPlan plant until dues × (100000 < length dues)
RefusesPlanOf plant until (Text (Second fault)) = ⊥
RefusesPlanOf plant until (Word fault) = ⊥
RefusesPlanOf plant until Write = ⊥
RefusesPlanOf plant until Memory = Unit {0}

-- the text is a plant, and this is its plan
pub record Planned (text : List ℕ) (until : ℕ) : Type 0 where
  pub plant : PlantValue
  pub read : IsPlantOf text plant
  pub dues : List Due
  pub planned : IsPlan plant until dues

-- the plan has at most 100,000 entries, and their lines were written
pub record WritesPlan (text : List ℕ) (until : ℕ) (form : PlanForm) (old new : Option (List ℕ)) : Type 0 where
  pub plan : Planned text until
  pub few : length plan.dues ≤ 100000
  pub appended : Appends old new (plan_lines plan.plant form plan.dues)

-- the plan has at most 100,000 entries, and their lines didn't go out whole
pub record StopsPlan (fault : SendFault) (text : List ℕ) (until : ℕ) (form : PlanForm) (old new : Option (List ℕ)) : Type 0 where
  pub plan : Planned text until
  pub few : length plan.dues ≤ 100000
  pub stopped : Stops fault (plan_lines plan.plant form plan.dues) old new

-- what holds after a refusal by the text: a plan that is too long has more than 100,000 entries
abbrev pub RefusesPlan : List ℕ → ℕ → TextFault → Type 0
RefusesPlan text until (Draw fault) = ⊥
RefusesPlan text until (Graph fault) = ⊥
RefusesPlan text until (Bind fault) = ⊥
RefusesPlan text until (Plant fault) = IsToldOf text fault
RefusesPlan text until TooLong = (p : Planned text until) × (100000 < length p.dues)
RefusesPlan text until (Second fault) = ⊥

-- why there was a fault, and what was written before: nothing before a fault of the text
abbrev pub ExplainsPlan : List ℕ → ℕ → PlanForm → Option (List ℕ) → Option (List ℕ) → TextCommandFault → Type 0
ExplainsPlan text until form old new (Text fault) = RefusesPlan text until fault × Keeps old new
ExplainsPlan text until form old new (Word fault) = ⊥
ExplainsPlan text until form old new Write = StopsPlan sending.Write text until form old new
ExplainsPlan text until form old new Memory = Keeps old new ⊎ StopsPlan sending.Memory text until form old new
