use Rattle.std.proofs.Common.{◌%◌, ◌*◌, ◌<◌, ◌∙◌, length, ap, sym, subst}
use Rattle.std.specs.Prelude.{slice_get}
use Rattle.text_commands.specs.Steps.Series.{once_values}
use Rattle.text_commands.proofs.SeriesValues.{length-repeated, repeated_at}
use Rattle.text_commands.proofs.item.Item.value.Goals as goal

pub returns : goal.returns
returns c =
    let once = once_values c.self.inside.once in
    let within = rw (← c.self.view_is) at c.requires in
    let lt : c.args.place < c.self.inside.times * length once = subst (λ n. c.args.place < n) (length-repeated c.self.inside.times once) within in
    rw (← c.self.view_is) (c.value.ensures ∙ ap (λ n. slice_get once (c.args.place % n)) c.len.ensures ∙ sym (repeated_at c.self.inside.times c.args.place once c.self.invariant.0.0 lt))
