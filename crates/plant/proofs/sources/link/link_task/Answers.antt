use Rattle.plant_grammar.specs.declared.grammar.tree.Use.{Use}
use Rattle.plant_grammar.specs.Names.{is_named}
use Rattle.plant.specs.Steps.Drafts.{IsOnceBound}
use Rattle.plant.specs.Steps.FedUses.{runs_in_fed}
use Rattle.plant.proofs.FedUses.{runs_in_fed-fed_in}
use Rattle.plant.proofs.Zips.{all_filter}
use Rattle.plant.proofs.sources.link.link_task.Goals as goal

pub link_runs-requires-clause-once : goal.link_runs-requires-clause-once
link_runs-requires-clause-once c =
    let fed = c.args.fed.now in
    let t = c.args.task.now in
    rw (c.as_slice.ensures.value, c.in_ok-runs.ensures, runs_in_fed-fed_in fed t) (all_filter IsOnceBound (λ (u : Use). is_named u.task t.name) (runs_in_fed fed) c.requires.once)

pub link_runs-requires-clause-fed : goal.link_runs-requires-clause-fed
link_runs-requires-clause-fed c = rw (c.as_slice.ensures.value, c.in_ok-runs.ensures) c.requires.fed
