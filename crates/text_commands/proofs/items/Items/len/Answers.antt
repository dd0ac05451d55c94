use Rattle.std.proofs.Common.{◌∙◌}
use Rattle.text_commands.proofs.SeriesValues.{last_end_is}
use Rattle.text_commands.proofs.items.Items.len.Goals as goal

pub returns : goal.returns
returns c = rw (← c.self.view_is) (rw c.deref.ensures.value at c.last_end.ensures ∙ last_end_is c.self.inside.items.items c.self.inside.ends.items c.self.invariant)
