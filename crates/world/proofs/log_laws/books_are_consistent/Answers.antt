-- Where the entries of a book are made again, they are a consistent log.
use Rattle.world.proofs.Consistency.Makings.{books-consistent}
use Rattle.world.proofs.log_laws.books_are_consistent.Goals as goal

pub returns : goal.returns
returns c = books-consistent c.takes_never_fall.ensures
