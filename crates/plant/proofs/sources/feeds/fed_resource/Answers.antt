use Rattle.plant.proofs.sources.feeds.fed_resource.Goals as goal

pub fed_uses-requires : goal.fed_uses-requires
fed_uses-requires c = rw (c.as_slice.ensures.value, c.in_ok-runs.ensures) c.requires

pub returns-clause-ok : goal.returns-clause-ok
returns-clause-ok c = rw (c.as_slice.ensures.value, c.in_ok-runs.ensures) at c.fed_uses.ensures.ok

pub returns-clause-why : goal.returns-clause-why
returns-clause-why c = rw (c.as_slice.ensures.value, c.in_ok-runs.ensures) at c.fed_uses.ensures.why
