use Rattle.std.proofs.Common.{◌∙◌}
use Rattle.evaluation.proofs.InitialStates.{initial_is}
use Rattle.evaluation.proofs.task_state.initial_of.Goals as goal

pub returns-clause-value : goal.returns-clause-value
returns-clause-value c =
    c.in_ok-kept.ensures
    ∙ initial_is c.args.ladder.now c.in_ok-state.state c.in_ok-state.ensures.fits c.in_ok-state.ensures.slots c.in_ok-state.ensures.memories
