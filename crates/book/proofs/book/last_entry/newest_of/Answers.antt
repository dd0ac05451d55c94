-- The last of the task's places is that of its newest entry.
use Rattle.std.proofs.Common.{◌∙◌, ap}
use Rattle.std.specs.Prelude.{reverse}
use Rattle.std.specs.List.{find}
use Rattle.book.specs.Book.{BookValue}
use Rattle.book.specs.Steps.Deciding.{is_of_task}
use Rattle.book.proofs.Ledgered.{newest-told}
use Rattle.book.proofs.book.last_entry.newest_of.Goals as goal

pub returns : goal.returns
returns c =
    rw (c.entry_at.ensures, c.as_slice-2.ensures.value, c.last_place.ensures, c.places_of-places.ensures, c.as_slice.ensures.value)
    (newest-told c.book.inside.first.items c.book.inside.entries.items c.book.inside.ledger c.book.invariant c.args.task ∙ ap (λ (b : BookValue). find (is_of_task c.args.task) (reverse b.entries)) c.book.view_is)
