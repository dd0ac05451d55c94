use Rattle.std.proofs.Common.{refl}
use Rattle.text_commands.proofs.SecondDrawings.{equal_if_told}
use Rattle.text_commands.proofs.second_drawing.joined.are_same_networks.Goals as goal

pub returns : goal.returns
returns c = λ on.
    equal_if_told c.args.networks.now c.args.others.now c.are_same.result c.are_same.ensures (λ x y answer. rw (← answer.shows.0, ← answer.shows.1) (answer.says.met refl)) on
