use Rattle.std.proofs.Common.{IsTrue}
use Rattle.plant_grammar.specs.Names.{is_named}
use Rattle.plant.proofs.Drafting.{run_pushed}
use Rattle.plant.proofs.sources.draft.push_run.Goals as goal

pub returns-in_ok-push-in-Use : goal.returns-in_ok-push-in-Use
returns-in_ok-push-in-Use c =
    let named : IsTrue (is_named c.in-Use.run'.task c.args.task.now) = cc in
    run_pushed c.args.runs.now.items c.push.new.self.items _ c.args.item.now c.args.task.now c.in_ok-push-in-Use.ensures.items c.in-Use.is named
