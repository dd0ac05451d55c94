-- A sort by ticket changes the order alone.
use Rattle.std.proofs.Common.{rules, List, sym, subst}
use Rattle.std.specs.List.Sorted.{IsNonDecreasingBy}
use Rattle.std.proofs.lemmas.List.Sorted.{IsNonDecreasingBy-from_sort_by_key, answers_always}
use Rattle.node_reports.specs.declared.node_fault.NodeFault.{NodeFault}
use Rattle.node_reports.specs.Reports.{AreByTicket}
use Rattle.node_reports.proofs.Faults.{stable_order}
use Rattle.node_reports.proofs.node_faults.NodeFaults.of.Goals as goal

pub first_of_each-requires : goal.first_of_each-requires
first_of_each-requires c =
    subst (IsNonDecreasingBy (λ (f : NodeFault). f.ticket)) (sym c.as_slice.ensures.value)
    (IsNonDecreasingBy-from_sort_by_key (λ (f : NodeFault). f.ticket) _ c.in_ok-sort_by_key.ensures.sorted (λ a r q k. search rules))

pub returns : goal.returns
returns c =
    stable_order _ _ _ c.in_ok-sort_by_key.ensures.permutation (c.in_ok-sort_by_key.ensures.stable (λ (f : NodeFault). f.ticket) (answers_always _ _ _ (λ q a r p k. search rules))) (subst (λ (xs : List NodeFault). AreByTicket xs c.in_ok-first_of_each.field-0.items) c.as_slice.ensures.value c.in_ok-first_of_each.ensures)
