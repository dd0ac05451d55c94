-- The commands of `plc run`.
use Rattle.std.specs.Prelude.{◌≡◌, ℕ, ◌+◌, ◌≤◌, List, [], ◌∷◌, length}
use Rattle.task_codes.specs.declared.due.Due.{Due}
use Rattle.plant.specs.PlantValue.{PlantValue}
use Rattle.plant.specs.Plan.{IsPlan}
use Rattle.text_commands.specs.PlanText.{interval_at}
use Rattle.evaluation.specs.declared.field_input.FieldInput.{FieldInput}
use Rattle.node_reports.specs.declared.command.Command.{Command}
use Rattle.node_reports.specs.declared.act.Act.TheVariants.{Evaluate}
use Rattle.run_texts.specs.declared.run_plan.PlannedRun.{PlannedRun}

-- the command for an entry of the plan: its resource is to evaluate its task, the task's interval after the time
-- before, with these field inputs
abbrev pub command_for : PlantValue → List FieldInput → ℕ → Due → Command
command_for plant inputs ticket d = record {
  ticket = ticket;
  resource = d.task.resource;
  act = Evaluate d.task.task (interval_at plant d.task) inputs;
}

-- a command for each entry of a plan, in order; their tickets count from k on
abbrev pub commands_from : PlantValue → List FieldInput → ℕ → List Due → List Command
commands_from plant inputs k [] = []
commands_from plant inputs k (d ∷ dues) = command_for plant inputs k d ∷ commands_from plant inputs (k + 1) dues

-- the entries are those of the plan, at most 100,000, and the commands those for them
pub record IsPlannedRun (plant : PlantValue) (until : ℕ) (inputs : List FieldInput) (run : PlannedRun) : Type 0 where
  pub planned : IsPlan plant until run.dues.items
  pub few : length run.dues.items ≤ 100000
  pub commands_are : run.commands.items ≡ commands_from plant inputs 1 run.dues.items
