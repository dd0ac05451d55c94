-- A search in numbers that rise decides.
use Rattle.std.proofs.Common.{◌↔◌, IsTrue, Contains, sym, subst}
use Rattle.node_reports.proofs.Telling.{found_if_among}
use Rattle.node_reports.proofs.collector.told.is_among.Goals as goal

pub returns : goal.returns
returns c =
    subst (λ b. IsTrue b ↔ Contains c.args.tickets.now c.args.ticket) (sym c.is_ok.ensures.value)
    (found_if_among c.args.tickets.now c.args.ticket c.binary_search.result c.binary_search.ensures.position c.requires)
