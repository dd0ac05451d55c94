-- The ledger tells where the newest entry of each resource stands.
use Rattle.std.proofs.Common.{◌<◌, ◌∙◌, ap, arith, length, None}
use Rattle.std.specs.Prelude.{reverse}
use Rattle.std.specs.List.{find}
use Rattle.book.specs.Book.{BookValue}
use Rattle.book.specs.Steps.Deciding.{is_of_resource}
use Rattle.book.proofs.Ledgered.{newest-long, newest_entry-told, get_or-defaults}
use Rattle.book.proofs.book.heard.newest_of.Goals as goal

pub index-requires : goal.index-requires
index-requires c =
    let long = newest-long c.book.inside.first.items c.book.inside.entries.items c.book.inside.ledger c.book.invariant in
    let same = ap (λ (b : BookValue). length b.first) c.book.view_is in
    omega (arith, long, same, c.requires, c.book.inside.ledger.newest.ok.0)

pub returns : goal.returns
returns c =
    let long = newest-long c.book.inside.first.items c.book.inside.entries.items c.book.inside.ledger c.book.invariant in
    let same = ap (λ (b : BookValue). length b.first) c.book.view_is in
    let within : c.args.resource < length c.book.inside.first.items = omega (arith, same, c.requires) in
    let index = c.index.ensures ∙ get_or-defaults c.book.inside.ledger.newest.items c.args.resource c.index.result.now None (omega (arith, within, long)) in
    rw (c.entry_at.ensures, c.as_slice.ensures.value, index)
    (newest_entry-told c.book.inside.first.items c.book.inside.entries.items c.book.inside.ledger c.book.invariant c.args.resource within ∙ ap (λ (b : BookValue). find (is_of_resource c.args.resource) (reverse b.entries)) c.book.view_is)
