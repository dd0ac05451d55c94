use Rattle.plant_grammar.specs.declared.grammar.tree.Use.{Use}
use Rattle.plant_grammar.specs.Names.{is_named}
use Rattle.plant.specs.Steps.Drafts.{seen}
use Rattle.plant.proofs.Drafting.{runs_more}
use Rattle.plant.proofs.sources.draft.runs_in.Goals as goal

pub loop-item-preserved : goal.loop-item-preserved
loop-item-preserved c =
    rw (← c.deref-item-items.ensures.value) (runs_more (λ (u : Use). is_named u.task c.args.task.now.name) c.deref-item-items.result.now c.loop-item.item-index c.item-item.result
    (seen c.loop-item.runs.items) (seen c.push_run.new.runs.items) c.loop-item-test.true c.item-item.is (rw c.deref-item-items.ensures.value c.loop-item.invariant) c.in_ok-push_run.ensures)
