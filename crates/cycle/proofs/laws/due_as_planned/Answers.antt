use Rattle.cycle.proofs.Planned.{is_planned, planned_is}
use Rattle.cycle.proofs.laws.due_as_planned.Goals as goal

pub returns : goal.returns
returns c = λ timings n t reading positive timed. (is_planned timings n t reading positive timed, λ moment later is. planned_is timings n t reading moment positive timed later is)
