-- Where each entry fits those before it, takes never fall.
use Rattle.std.proofs.Common.{subst, reverse}
use Rattle.book.specs.Book.{BookValue}
use Rattle.book.specs.Fits.{NeverFall}
use Rattle.book.proofs.Falling.{never-fall}
use Rattle.book.proofs.book.Book.entries.Goals as goal

pub returns-clause-unfallen : goal.returns-clause-unfallen
returns-clause-unfallen c = subst (λ (b : BookValue). NeverFall (reverse b.entries)) c.self.view_is (never-fall c.self.inside.first.items (reverse c.self.inside.entries.items) c.self.invariant.0)
