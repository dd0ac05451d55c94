use Rattle.task_codes.proofs.Planned.{plan_is_one}
use Rattle.task_codes.proofs.laws.one_plan.Goals as goal

pub returns : goal.returns
returns c = λ resources until a b. plan_is_one resources until a b
