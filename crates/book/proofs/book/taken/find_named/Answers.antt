-- What stands at the place of a name is its entry.
use Rattle.std.proofs.Common.{◌∙◌, ap, sym}
use Rattle.std.specs.Prelude.{reverse}
use Rattle.std.specs.List.{find}
use Rattle.book.specs.Book.{BookValue}
use Rattle.book.specs.Steps.Deciding.{is_named}
use Rattle.book.specs.Steps.Ledger.{newest_place}
use Rattle.book.proofs.Ledgered.{at-newest}
use Rattle.book.proofs.book.taken.find_named.Goals as goal

pub returns : goal.returns
returns c =
    rw (c.entry_at.ensures, c.as_slice.ensures.value)
    (at-newest c.book.inside.first.items c.book.inside.entries.items c.book.inside.ledger c.book.invariant (is_named c.args.name) c.place_of.result
    (c.place_of.ensures.value ∙ ap (λ (b : BookValue). newest_place (is_named c.args.name) (reverse b.entries)) (sym c.book.view_is))
    ∙ ap (λ (b : BookValue). find (is_named c.args.name) (reverse b.entries)) c.book.view_is)
