use Rattle.text_commands.proofs.SecondChanges.{changes_nothing}
use Rattle.text_commands.proofs.second_drawing.laws.second_changes_nothing.Goals as goal

pub returns : goal.returns
returns c = changes_nothing c.slices_follow.ensures
