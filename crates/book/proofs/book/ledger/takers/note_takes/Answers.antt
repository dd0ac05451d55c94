-- One row more was noted.
use Rattle.std.proofs.Common.{add-one, arith, ◌<◌, length}
use Rattle.book.specs.Steps.Ledger.{noted}
use Rattle.book.proofs.Ledgers.{map-step}
use Rattle.book.proofs.book.ledger.takers.note_takes.Goals as goal

pub loop-row-preserved : goal.loop-row-preserved
loop-row-preserved c =
    let within : c.loop-row.row-index < length c.args.rows.now = omega arith in
    rw (add-one, c.noted.ensures, c.loop-row.invariant) (map-step (noted c.args.resource c.args.takes.now c.args.index) c.args.rows.now c.loop-row.row-index _ within)
