use Rattle.std.proofs.Common.{◌≡◌, ◌≢◌, arith}
use Rattle.evaluation.specs.declared.input_fault.InputFault.TheVariants as input
use Rattle.world.specs.declared.line_fault.LineFault.TheVariants.{Syntax, Write}
use Rattle.world.proofs.ScheduleReading.{evaluate_at, err_and, inputs_refused}
use Rattle.world.proofs.read_line.read_evaluate.Goals as goal

pub returns-in_default-task_of-clause-fault : goal.returns-in_default-task_of-clause-fault
returns-in_default-task_of-clause-fault c = λ _ task dt inputs h. c.in_default-task_of.ensures task (evaluate_at c.args.plant.now task dt inputs c.args.words.now h).0

pub returns-in_err-inputs-clause-early : goal.returns-in_err-inputs-clause-early
returns-in_err-inputs-clause-early c =
    err_and c.from_residual.result (λ fault. (fault ≢ Write) × (fault ≡ Syntax → c.in_err-inputs.field-0.0 ≢ input.Memory) × (c.in_err-inputs.field-0.0 ≢ input.Memory → fault ≡ Syntax)) _ c.from_residual.ensures.1 (λ f given. given.0)

pub returns-in_err-inputs-clause-fault : goal.returns-in_err-inputs-clause-fault
returns-in_err-inputs-clause-fault c =
    err_and c.from_residual.result (λ fault. (fault ≢ Write) × (fault ≡ Syntax → c.in_err-inputs.field-0.0 ≢ input.Memory) × (c.in_err-inputs.field-0.0 ≢ input.Memory → fault ≡ Syntax)) _ c.from_residual.ensures.1
    (λ f given is. inputs_refused c.args.plant.now c.args.words.now c.in_err-inputs.field-0.0 c.in_err-inputs.ensures.fault (given.1 is))

pub overflow_cast-result : goal.overflow_cast-result
overflow_cast-result c = let h = c.in-Some-number_up_to.ensures.within in omega (arith, h)
