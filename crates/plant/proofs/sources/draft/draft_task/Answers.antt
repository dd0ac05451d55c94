use Rattle.plant.proofs.sources.draft.draft_task.Goals as goal
use Rattle.plant.proofs.Zips.{all_filter}
use Rattle.plant.specs.Steps.Drafts.{IsTypeKnown}
use Rattle.plant_grammar.specs.Lawful.{uses_of}
use Rattle.plant_grammar.specs.Names.{is_named}
use Rattle.plant_grammar.specs.declared.grammar.tree.Use.{Use}

pub draft_programs-requires : goal.draft_programs-requires
draft_programs-requires c =
    rw (c.as_slice.ensures.value, c.in_ok-runs.ensures) (all_filter (IsTypeKnown c.args.types.now) (λ (u : Use). is_named u.task c.args.task.now.name) (uses_of c.args.resource.now) c.requires)
