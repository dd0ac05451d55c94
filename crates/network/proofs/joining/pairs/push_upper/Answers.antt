use Rattle.std.proofs.Common.{◌≡◌, ◌-◌, Some, slice_get, sym, ◌∙◌, arith}
use Rattle.std.proofs.lemmas.Bool.{false≢true}
use Rattle.network.specs.Steps.Listed.{element_seen}
use Rattle.network.proofs.Joined.LinkedPairs.{upper_pair, no_upper_pair}
use Rattle.network.proofs.joining.pairs.push_upper.Goals as goal

pub returns-in_ok-push : goal.returns-in_ok-push
returns-in_ok-push c =
    let es = c.args.elements.now in
    let one = c.args.element - 1 in
    let e = element_seen c.at.result in
    let some' = c.if-element-eq0.false in
    let at : slice_get es one ≡ Some e = c.at.ensures in
    rw c.in_ok-push.ensures.items (upper_pair es c.args.at c.args.element one e c.args.pairs.now.items (omega (arith, some')) at (c.is_under.ensures.0 c.if-is_under.true))

pub returns-else-is_under : goal.returns-else-is_under
returns-else-is_under c =
    let es = c.args.elements.now in
    let one = c.args.element - 1 in
    let e = element_seen c.at.result in
    let some' = c.if-element-eq0.false in
    let at : slice_get es one ≡ Some e = c.at.ensures in
    no_upper_pair es c.args.at c.args.element one e c.args.pairs.now.items (omega (arith, some')) at (λ under. false≢true (sym c.if-is_under.false ∙ c.is_under.ensures.1 under))
