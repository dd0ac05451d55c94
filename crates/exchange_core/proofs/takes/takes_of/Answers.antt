use Rattle.std.proofs.Common.{◌≡◌, length, Some, slice_get, arith, ap, ◌∙◌, sym}
use Rattle.std.proofs.lemmas.Option.{slice_get-get_or}
use Rattle.exchange_core.specs.HeldMessages.{message_known}
use Rattle.exchange_core.proofs.CodeTakes.{kinds_of_producer, takes-more, takes-all}
use Rattle.exchange_core.proofs.takes.takes_of.Goals as goal

pub loop-k-preserved : goal.loop-k-preserved
loop-k-preserved c =
    let code = c.args.code.now in
    let k = c.loop-k.k in
    let many = ap length c.producers-producers.ensures in
    let kinds : slice_get code.expected k ≡ Some c.expected.result.now = kinds_of_producer code k c.programs-programs.ensures.sound (omega (arith, many)) ∙ ap Some (sym c.expected.ensures) in
    rw (c.in_ok-push.ensures.items, c.loop-k.invariant, c.in_ok-take.ensures)
    (sym (takes-more (message_known c.args.table.now) code.producers code.expected k _ c.expected.result.now (sym (ap (λ ps. slice_get ps k) c.producers-producers.ensures) ∙ slice_get-get_or c.producers-producers.result.now k _ (omega arith)) kinds))

pub returns-clause-value : goal.returns-clause-value
returns-clause-value c =
    let many = ap length c.producers-producers.ensures in
    c.loop-k.invariant ∙ takes-all (message_known c.args.table.now) c.args.code.now.producers c.args.code.now.expected c.loop-k.k (omega (arith, many))
