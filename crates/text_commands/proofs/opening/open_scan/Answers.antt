use Rattle.std.proofs.Common.{ap}
use Rattle.text_commands.specs.Restarts.{GivenValue}
use Rattle.text_commands.proofs.OpenedScans.{opened_by}
use Rattle.text_commands.proofs.opening.open_scan.Goals as goal

pub set_rows-requires : goal.set_rows-requires
set_rows-requires c = (c.args.ladder.now.declarations, c.in_ok-restart_before.ensures.fits.slots, rw (← c.given.view_is) at c.requires.rows)

pub returns : goal.returns
returns c =
    let before = c.in_ok-restart_before.ensures in
    let rows = ap (λ (given : GivenValue). given.rows) c.given.view_is in
    opened_by c.args.ladder.now c.args.given.now c.args.k c.args.state.now c.restart_before.new.state c.set_rows.new.state c.given.inside.rows.now rows before.slots before.memories before.fits c.set_rows.ensures.slots
    c.set_rows.ensures.declared
