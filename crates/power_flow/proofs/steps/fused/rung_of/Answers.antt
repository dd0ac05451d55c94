use Rattle.std.proofs.Common.{◌≡◌, ap, ◌∙◌}
use Rattle.power_flow.specs.Steps.Fused.{contacts_in, singles}
use Rattle.power_flow.proofs.Networks.Fusing.{rung_is}
use Rattle.power_flow.proofs.steps.fused.rung_of.Goals as goal

pub returns-in_ok-new-in-Some-2 : goal.returns-in_ok-new-in-Some-2
returns-in_ok-new-in-Some-2 c =
    let row = c.in-Some-rail_row.row in
    let between = c.in-Some-split_last.between.now in
    let contacts = c.in_ok-new-in-Some-2.field-0 in
    let found : contacts_in row c.in-Some-2.contacts.items ≡ singles between = rw c.in-Some-2.is at c.in_ok-contacts.ensures in
    rung_is c.args.steps.now c.in-Some.behind.now between c.in-Some.first.now c.in-Some-split_last.last.now row c.in-Some-coil_link.link.0 c.in-Some-coil_link.link.1 contacts
    c.in-Some.ensures.cases.0 c.in-Some-split_last.ensures.cases.0 c.in-Some-rail_row.ensures c.in-Some-coil_link.ensures c.if-link-row.false
    (ap (contacts_in row) c.in_ok-new-in-Some-2.ensures ∙ found)
