-- The ledger has a present incarnation for each resource.
use Rattle.std.proofs.Common.{◌<◌, ◌∙◌, ap, arith, length}
use Rattle.std.specs.Prelude.{reverse}
use Rattle.book.specs.Book.{BookValue}
use Rattle.book.specs.Fits.{present_in}
use Rattle.book.proofs.Ledgered.{present-long, present-told, get_or-defaults}
use Rattle.book.proofs.book.numbered.present_in.Goals as goal

pub index-requires : goal.index-requires
index-requires c =
    let long = present-long c.book.inside.first.items c.book.inside.entries.items c.book.inside.ledger c.book.invariant in
    let same = ap (λ (b : BookValue). length b.first) c.book.view_is in
    omega (arith, long, same, c.book.inside.ledger.present.ok.0)

pub returns : goal.returns
returns c =
    let long = present-long c.book.inside.first.items c.book.inside.entries.items c.book.inside.ledger c.book.invariant in
    let same = ap (λ (b : BookValue). length b.first) c.book.view_is in
    let within : c.args.resource < length c.book.inside.first.items = omega (arith, same) in
    c.index.ensures
    ∙ get_or-defaults c.book.inside.ledger.present.items c.args.resource c.index.result.now 0 (omega (arith, within, long))
    ∙ present-told c.book.inside.first.items c.book.inside.entries.items c.book.inside.ledger c.book.invariant c.args.resource within
    ∙ ap (λ (b : BookValue). present_in b.first (reverse b.entries) c.args.resource) c.book.view_is
