use Rattle.std.proofs.Common.{take}
use Rattle.std.specs.List.{AllZip}
use Rattle.plant.specs.Steps.Drafts.{programs_in, IsResourceDraft}
use Rattle.plant.proofs.sources.draft.draft_resources.Given as goal

abbrev pub invariant-loop-resource : goal.invariant-loop-resource
invariant-loop-resource l = AllZip (IsResourceDraft (programs_in l.types)) (take l.resource-index l.resources) l.drafts.items
