-- The new row has the one place.
use Rattle.std.proofs.Common.{rules}
use Rattle.book.proofs.book.ledger.places.add_row.Goals as goal

pub returns-clause-ok : goal.returns-clause-ok
returns-clause-ok c = (record { task = c.args.task; places = c.push.new.self }, search rules, search rules, search rules)
