use Rattle.std.proofs.Common.{ap, sym, ◌∙◌}
use Rattle.name_faults.specs.declared.bind_fault.BindFault.{BindFault}
use Rattle.name_faults.proofs.FaultsFound.{not_bound, bound_from_none, first_fault, named_kind}
use Rattle.name_faults.proofs.NamedNetworks.{all_named}
use Rattle.name_faults.proofs.bind_fault.BindFault.first.Goals as goal

pub returns-in-Some-clause-only : goal.returns-in-Some-clause-only
returns-in-Some-clause-only c = λ all.
    let first = rw (c.networks.ensures.networks, c.in-Some.is) at c.first_finding.ensures in
    not_bound c.args.declarations.now c.args.graph.now.networks c.in-Some.finding first.0 all

pub returns-in-Some-clause-first : goal.returns-in-Some-clause-first
returns-in-Some-clause-first c =
    let first = rw (c.networks.ensures.networks, c.in-Some.is) at c.first_finding.ensures in
    let is = first_fault c.args.declarations.now c.args.graph.now.networks c.in-Some.finding first in
    let same = rw c.first_line.ensures at c.fault_at.ensures in
    (c.in-Some.finding, same, is.0, is.1)

pub returns-in-Some-clause-kind : goal.returns-in-Some-clause-kind
returns-in-Some-clause-kind c = λ is.
    let first = rw (c.networks.ensures.networks, c.in-Some.is) at c.first_finding.ensures in
    let kind = ap (λ (fault : BindFault). fault.kind) c.fault_at.ensures in
    absurd (named_kind c.args.declarations.now c.args.graph.now.networks c.in-Some.finding first.0 (sym kind ∙ is))

pub returns-in-None-clause-bound : goal.returns-in-None-clause-bound
returns-in-None-clause-bound c = λ none.
    let first = rw (c.networks.ensures.networks, c.in-None.is) at c.first_finding.ensures in
    bound_from_none c.args.declarations.now c.args.graph.now.networks first

pub returns-in-None-clause-named : goal.returns-in-None-clause-named
returns-in-None-clause-named c = λ none.
    let first = rw (c.networks.ensures.networks, c.in-None.is) at c.first_finding.ensures in
    all_named c.args.declarations.now c.args.graph.now.networks (bound_from_none c.args.declarations.now c.args.graph.now.networks first)
