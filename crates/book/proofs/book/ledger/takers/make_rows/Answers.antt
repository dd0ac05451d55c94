-- One row more is made, and no row is lost.
use Rattle.std.proofs.Common.{◌≡◌, ◌∙◌, true, add-one, sym, arith}
use Rattle.evaluation.specs.declared.take.Take.{Take}
use Rattle.book.specs.Steps.Ledger.{has_row}
use Rattle.book.proofs.Ledgers.{each-more}
use Rattle.book.proofs.book.ledger.takers.make_rows.Goals as goal

pub loop-take-preserved : goal.loop-take-preserved
loop-take-preserved c = (
  λ n q. c.make_row.ensures.same n q ∙ c.loop-take.invariant.0 n q,
  rw add-one (each-more (λ (u : Take). has_row c.loop-take.rows.items c.args.resource u.producer ≡ true) _ (λ u h. c.make_row.ensures.kept c.args.resource u.producer h) c.args.takes.now c.loop-take.take-index c.take-item.result (omega arith) (sym c.take-item.is) c.loop-take.invariant.1 c.in_ok-make_row.ensures.made),
)
