use Rattle.live_node.specs.NodeAnswers.{a_keeper_gives}
use Rattle.audit.proofs.AnswersTold.{answers_told}
use Rattle.audit.proofs.laws.answers_are_told.Goals as goal

pub returns : goal.returns
returns g c = answers_told (a_keeper_gives g.K.Keeper.last g.K.Keeper.raise_gives)
