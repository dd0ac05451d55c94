use Rattle.std.proofs.Common.{◌<◌, map}
use Rattle.std.specs.Borrow.{Bor}
use Rattle.plant_grammar.specs.declared.grammar.tree.TaskLine.{TaskLine}
use Rattle.plant.proofs.Zips.{ref_at, all_at}
use Rattle.plant.proofs.sources.link.declared_tasks.Goals as goal

pub new-requires : goal.new-requires
new-requires c =
    let lines = c.args.lines.now in
    let i = c.loop-line.line-index in
    let line = c.line-item.result in
    all_at (λ (t : TaskLine). 0 < t.interval) (map (λ (t : Bor TaskLine). t.now) lines) c.requires i line.now (ref_at lines i line c.loop-line-test.true c.line-item.is)
