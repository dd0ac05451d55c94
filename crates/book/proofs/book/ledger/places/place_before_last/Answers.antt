-- The place has the pair.
use Rattle.book.proofs.Ledgers.{place-at}
use Rattle.book.proofs.book.ledger.places.place_before_last.Goals as goal

pub returns-then-place-number : goal.returns-then-place-number
returns-then-place-number c = λ rising. place-at c.args.incarnation c.args.number c.args.places.now rising c.in_ok-before.before c.in_ok-place.place.now c.in_ok-place.ensures.lookup.3.0 c.in_ok-place.ensures.lookup.1 c.if-place-incarnation.true c.if-place-number.true
