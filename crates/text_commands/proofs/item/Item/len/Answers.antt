use Rattle.std.proofs.Common.{◌*◌, ◌∙◌, ap, sym}
use Rattle.text_commands.specs.Steps.Series.{once_values}
use Rattle.text_commands.proofs.SeriesValues.{length-repeated}
use Rattle.text_commands.proofs.item.Item.len.Goals as goal

pub returns-clause-long : goal.returns-clause-long
returns-clause-long c = rw (← c.self.view_is) (ap (λ n. c.self.inside.times * n) c.len.ensures ∙ sym (length-repeated c.self.inside.times (once_values c.self.inside.once)))
