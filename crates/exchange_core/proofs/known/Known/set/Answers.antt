use Rattle.std.proofs.Common.{length, arith, ap, ◌∙◌, refl, Some}
use Rattle.std.proofs.lemmas.List.{length-map}
use Rattle.exchange_core.specs.HeldMessages.{with_known}
use Rattle.exchange_core.proofs.Tables.{rows-set}
use Rattle.exchange_core.proofs.known.Known.set.Goals as goal

pub returns : goal.returns
returns c =
    rows-set (λ row. row.items) c.self.inside.rows.items c.args.task.resource c.args.task.task c.index_mut-row.result.now _ (Some c.args.last) (omega (arith, simp length-map at (ap length c.self.view_is))) c.index_mut-row.ensures.value refl
    ∙ ap (λ t. with_known t c.args.task (Some c.args.last)) c.self.view_is
