use Rattle.cycle.proofs.Planned.{in_order}
use Rattle.cycle.proofs.laws.order_as_planned.Goals as goal

pub returns : goal.returns
returns c = λ timings n moment a b. in_order timings n moment a b
