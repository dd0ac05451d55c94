-- A new row tells of nothing.
use Rattle.std.proofs.Common.{rules, None}
use Rattle.book.proofs.Ledgers.{taker-push, row-kept, row-made, own_row}
use Rattle.book.proofs.book.ledger.takers.make_row.Goals as goal

pub returns-clause-same : goal.returns-clause-same
returns-clause-same c = λ n q. rw c.in_ok-push.ensures.items (taker-push c.args.rows.now.items _ (search rules) n q)

pub returns-clause-kept : goal.returns-clause-kept
returns-clause-kept c = λ n q has. rw c.in_ok-push.ensures.items (row-kept c.args.rows.now.items _ n q has)

pub returns-clause-made : goal.returns-clause-made
returns-clause-made c = rw c.in_ok-push.ensures.items (row-made c.args.rows.now.items _ c.args.resource c.args.producer (own_row c.args.resource c.args.producer None))
