-- The law holds by the clauses alone.
use Rattle.book.proofs.Falling.{never-fall}
use Rattle.book.proofs.laws.takes_never_fall.Goals as goal

pub returns : goal.returns
returns c = never-fall
