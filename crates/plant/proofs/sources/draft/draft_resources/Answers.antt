use Rattle.plant.proofs.Members.{part_of}
use Rattle.plant_grammar.specs.Lawful.{uses_of}
use Rattle.plant.specs.Steps.Drafts.{programs_in, IsResourceDraft, IsTypeKnown}
use Rattle.plant.proofs.Zips.{zip_more}
use Rattle.plant.proofs.sources.draft.draft_resources.Goals as goal

pub draft_resource-requires : goal.draft_resource-requires
draft_resource-requires c = part_of (IsTypeKnown c.args.types.now) uses_of c.args.resources.now c.loop-resource.resource-index c.resource-item.result c.loop-resource-test.true c.resource-item.is c.requires

pub loop-resource-preserved : goal.loop-resource-preserved
loop-resource-preserved c =
    zip_more (IsResourceDraft (programs_in c.args.types.now)) c.args.resources.now c.loop-resource.resource-index c.loop-resource.drafts.items c.push.new.self.items c.resource-item.result c.in_ok-draft_resource.field-0
    c.loop-resource-test.true c.resource-item.is c.loop-resource.invariant c.in_ok-draft_resource.ensures c.in_ok-push.ensures.items
