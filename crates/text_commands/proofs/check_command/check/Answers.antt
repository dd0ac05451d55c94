use Rattle.std.proofs.Common.{inl, inr}
use Rattle.text_commands.specs.Comments.{without_comments}
use Rattle.text_commands.proofs.check_command.check.Goals as goal

pub check_lines-requires : goal.check_lines-requires
check_lines-requires g c = elim c.in_ok-plant.ensures.ok [
  | inl stands ↦ c.counts_are_small.ensures c.args.plant.now c.in_ok-plant.plant stands
  | inr emptied ↦ c.counts_are_small.ensures (without_comments c.args.plant.now) c.in_ok-plant.plant emptied.1
]
