use Rattle.std.proofs.Common.{◌≢◌, Vec, map, take}
use Rattle.std.specs.Global.{Global}
use Rattle.std.specs.List.{flat_map}
use Rattle.lists.proofs.Results.{kept_fault}
use Rattle.plant_grammar.specs.declared.grammar.tree.Use.{Use}
use Rattle.plant_grammar.specs.Lawful.{uses_of}
use Rattle.plant.specs.declared.sources.source_fault.SourceFault.TheVariants.{Memory}
use Rattle.plant.specs.Steps.Drafts.{drafted, AreDraftsApart, IsTypeKnown, IsUseResolved}
use Rattle.plant.specs.Steps.FedUses.{FedUseValue, AreUsesFed}
use Rattle.plant.specs.Steps.SourceFaults.{TellsOfUse, TellsOfUses}
use Rattle.plant.proofs.FedUses.{resources_resolved}
use Rattle.plant.proofs.FirstFailing.{part_fails}
use Rattle.plant.proofs.Members.{part_of}
use Rattle.plant.proofs.Zips.{zip_more_right}
use Rattle.plant.proofs.sources.feeds.fed_resources.Goals as goal

pub fed_resource-requires : goal.fed_resource-requires
fed_resource-requires c = part_of (IsTypeKnown c.args.types.now) uses_of c.args.resources.now c.loop-resource.resource-index c.resource-item.result c.loop-resource-test.true c.resource-item.is c.requires

pub loop-resource-preserved : goal.loop-resource-preserved
loop-resource-preserved c =
    zip_more_right (AreUsesFed (drafted c.args.drafts.now) c.args.types.now) (λ (f : Vec FedUseValue Global). f.items) c.args.resources.now c.loop-resource.resource-index c.loop-resource.fed.items c.push.new.self.items c.resource-item.result c.in_ok-fed_resource.field-0
    c.loop-resource-test.true c.resource-item.is c.loop-resource.invariant c.in_ok-fed_resource.ensures.ok c.in_ok-push.ensures.items

pub returns-in_err-fed_resource-clause-why : goal.returns-in_err-fed_resource-clause-why
returns-in_err-fed_resource-clause-why c =
    let plant = drafted c.args.drafts.now in
    let types = c.args.types.now in
    let resources = c.args.resources.now in
    let i = c.loop-resource.resource-index in
    let e = c.in_err-fed_resource.field-0.0 in
    kept_fault e (λ e. e ≢ Memory → AreDraftsApart c.args.drafts.now → TellsOfUses plant types (flat_map uses_of resources) e) c.from_residual.result c.from_residual.ensures.1
    (λ other apart. part_fails (IsUseResolved plant types) (λ (u : Use). TellsOfUse plant types u e) uses_of resources i c.resource-item.result c.loop-resource-test.true c.resource-item.is
    (resources_resolved plant types (take i resources) (map (λ (f : Vec FedUseValue Global). f.items) c.loop-resource.fed.items) c.loop-resource.invariant) (c.in_err-fed_resource.ensures.why other apart))
