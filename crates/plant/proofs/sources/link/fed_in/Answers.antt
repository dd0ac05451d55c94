use Rattle.plant.specs.Steps.Drafts.{seen}
use Rattle.plant.proofs.FedUses.{fed_more}
use Rattle.plant.proofs.sources.link.fed_in.Goals as goal

pub loop-run-preserved : goal.loop-run-preserved
loop-run-preserved c =
    fed_more c.args.task.now c.args.fed.now c.loop-run.run-index c.run-item.result (seen c.loop-run.runs.items) (seen c.push_fed.new.runs.items) c.loop-run-test.true c.run-item.is c.loop-run.invariant c.in_ok-push_fed.ensures
