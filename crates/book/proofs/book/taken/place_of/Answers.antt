-- The place of the pair among the task's is that of the entry of this name.
use Rattle.std.proofs.Common.{◌∙◌, ap, subst, ◌≡◌}
use Rattle.std.specs.Prelude.{reverse}
use Rattle.book.specs.Book.{BookValue}
use Rattle.book.specs.Steps.Deciding.{is_named}
use Rattle.book.specs.Steps.Ledger.{newest_place, AreRising, index_of, places_in}
use Rattle.book.proofs.Ledgered.{place-told}
use Rattle.book.proofs.book.taken.place_of.Goals as goal

pub returns-clause-value : goal.returns-clause-value
returns-clause-value c =
    place-told c.book.inside.first.items c.book.inside.entries.items c.book.inside.ledger c.book.invariant c.args.name c.find_place.result
    (subst (λ ps. AreRising ps → c.find_place.result ≡ index_of c.args.name.incarnation c.args.name.number ps) (c.places_of-places.ensures ∙ ap (λ rows. places_in rows c.args.name.task) c.as_slice.ensures.value) c.find_place.ensures)
    ∙ ap (λ (b : BookValue). newest_place (is_named c.args.name) (reverse b.entries)) c.book.view_is
