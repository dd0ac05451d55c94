use Rattle.cycle.proofs.Fairness.{is_asked}
use Rattle.cycle.proofs.laws.due_tasks_are_asked.Goals as goal

pub returns : goal.returns
returns c = λ first last steps place t. is_asked first last steps place t
