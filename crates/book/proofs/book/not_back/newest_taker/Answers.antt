-- The row of the resource and producer tells where the newest taker stands.
use Rattle.std.proofs.Common.{◌∙◌, ap}
use Rattle.std.specs.Prelude.{reverse}
use Rattle.std.specs.List.{find}
use Rattle.book.specs.Book.{BookValue}
use Rattle.book.specs.Steps.Deciding.{takes_from}
use Rattle.book.proofs.Ledgered.{taker-told}
use Rattle.book.proofs.book.not_back.newest_taker.Goals as goal

pub returns : goal.returns
returns c =
    rw (c.entry_at.ensures, c.as_slice-2.ensures.value, c.find_taker-index.ensures, c.as_slice.ensures.value)
    (taker-told c.book.inside.first.items c.book.inside.entries.items c.book.inside.ledger c.book.invariant c.args.resource c.args.producer ∙ ap (λ (b : BookValue). find (takes_from c.args.resource c.args.producer) (reverse b.entries)) c.book.view_is)
