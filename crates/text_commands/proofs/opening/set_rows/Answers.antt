use Rattle.std.proofs.Common.{sym, subst}
use Rattle.text_commands.specs.Series.{IsOfVariable}
use Rattle.text_commands.proofs.opening.set_rows.Goals as goal

pub set_row-requires : goal.set_row-requires
set_row-requires c =
    let ds = c.requires.0 in
    (ds, c.loop-row.invariant.1 ds c.requires.1, subst (IsOfVariable ds) (sym c.row-item.is) (c.requires.2 c.loop-row.row-index c.row-item.result c.loop-row-test.true))
