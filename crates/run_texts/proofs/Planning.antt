-- The commands for a plan are numbered, and for resources of the plant.
use Rattle.std.proofs.Common.{◌≡◌, ℕ, ◌+◌, ◌<◌, suc, zero, List, [], ◌∷◌, All, length, slice_get, Option, Some, None, Result, Ok, Err, IfOk, refl, sym, ap, ◌∙◌, subst, arith}
use Rattle.std.specs.Prelude.{unwrap_or}
use Rattle.std.proofs.lemmas.List.{length-map}
use Rattle.std.proofs.lemmas.Option.{none-some, slice_get_within}
use Rattle.task_codes.specs.declared.due.Due.{Due}
use Rattle.task_codes.specs.declared.timing.Timing.{Timing}
use Rattle.task_codes.specs.Plan.{IsDue, timing_at}
use Rattle.plant.specs.PlantValue.{PlantValue}
use Rattle.plant.specs.Plan.{timings_of}
use Rattle.evaluation.specs.declared.field_input.FieldInput.{FieldInput}
use Rattle.node_reports.specs.declared.command.Command.{Command}
use Rattle.node_reports.specs.Commands.{AreNumbered, AreForPlant}
use Rattle.run_texts.specs.RunCommands.{command_for, commands_from, IsPlannedRun}
use Rattle.run_texts.specs.declared.run_plan.PlannedRun.{PlannedRun}

-- the tickets count from k on
numbered_from : (plant : PlantValue) (inputs : List FieldInput) (j : ℕ) (dues : List Due) (k : ℕ) (c : Command) → slice_get (commands_from plant inputs j dues) k ≡ Some c → c.ticket ≡ j + k
numbered_from plant inputs j [] k c at = absurd (none-some c at)
numbered_from plant inputs j (d ∷ dues) zero c at = let one : command_for plant inputs j d ≡ c = cc in omega (arith, ap (λ (x : Command). x.ticket) one)
numbered_from plant inputs j (d ∷ dues) (suc k) c at = let more = numbered_from plant inputs (j + 1) dues k c at in omega (arith, more)

pub numbered : (plant : PlantValue) (inputs : List FieldInput) (dues : List Due) → AreNumbered (commands_from plant inputs 1 dues)
numbered plant inputs dues k c at = let n = numbered_from plant inputs 1 dues k c at in omega (arith, n)

-- what is due is a task of a resource that exists
resource_exists : (plant : PlantValue) (d : Due) (timing : Timing) → timing_at (timings_of plant) d.task ≡ Some timing → d.task.resource < length plant.resources
resource_exists plant d timing stands = by (slice_get (timings_of plant) d.task.resource) refl where
  by : (o : Option (List Timing)) → slice_get (timings_of plant) d.task.resource ≡ o → d.task.resource < length plant.resources
  by None is = absurd (none-some timing (sym (ap (λ (o : Option (List Timing)). slice_get (unwrap_or o []) d.task.task) is) ∙ stands))
  by (Some ts) is = simp length-map at (slice_get_within (timings_of plant) d.task.resource ts is)

for_plant_from : (plant : PlantValue) (until : ℕ) (inputs : List FieldInput) (j : ℕ) (dues : List Due) → All (IsDue (timings_of plant) until) dues → AreForPlant plant (commands_from plant inputs j dues)
for_plant_from plant until inputs j [] each k c lt = absurd (omega arith)
for_plant_from plant until inputs j (d ∷ dues) each zero c lt = let due = each 0 d (omega arith) in resource_exists plant d due.timing due.stands
for_plant_from plant until inputs j (d ∷ dues) each (suc k) c lt = for_plant_from plant until inputs (j + 1) dues (λ i x inside. each (suc i) x (omega arith)) k c (omega arith)

pub planned_numbered : (plant : PlantValue) (until : ℕ) (inputs : List FieldInput) (run : PlannedRun) → IsPlannedRun plant until inputs run → AreNumbered run.commands.items
planned_numbered plant until inputs run p = subst AreNumbered (sym p.commands_are) (numbered plant inputs run.dues.items)

pub planned_for_plant : (plant : PlantValue) (until : ℕ) (inputs : List FieldInput) (run : PlannedRun) → IsPlannedRun plant until inputs run → AreForPlant plant run.commands.items
planned_for_plant plant until inputs run p = subst (AreForPlant plant) (sym p.commands_are) (for_plant_from plant until inputs 1 run.dues.items p.planned.each)

-- what follows from what an answer has
pub ok_more : {T E : Type 0} (P Q : T → Type 0) (r : Result T E) → ((x : T) → P x → Q x) → IfOk r P → IfOk r Q
ok_more P Q (Ok x) then has = then x has
ok_more P Q (Err e) then has = tt
