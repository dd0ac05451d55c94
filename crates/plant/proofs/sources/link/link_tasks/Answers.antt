use Rattle.std.proofs.Common.{◌<◌, ap, length, refl, arith}
use Rattle.std.specs.Global.{Global}
use Rattle.std.specs.declared.sync.Arc.{Arc}
use Rattle.std.proofs.lemmas.List.{length_push}
use Rattle.std.proofs.lemmas.Option.{slice_get_read}
use Rattle.task_codes.specs.declared.task_code.TaskCode.{TaskCode}
use Rattle.plant.specs.Steps.Drafts.{seen, drafted, IsCodeLinked}
use Rattle.plant.specs.Steps.FedUses.{fed_in, runs_in_fed}
use Rattle.plant.proofs.Zips.{ref_at, triples_more}
use Rattle.plant.proofs.sources.link.link_tasks.Goals as goal

pub bounds-tasks-i : goal.bounds-tasks-i
bounds-tasks-i c = let same = c.requires.many in omega arith

pub link_task-requires-clause-fed : goal.link_task-requires-clause-fed
link_task-requires-clause-fed c =
    let tasks = c.args.tasks.now in
    let drafts = c.args.task_drafts.now in
    let i = c.loop-i.i in
    let task = c.index-tasks-i.result in
    let draft = c.index-task_drafts-i.result in
    let same = c.requires.many in
    let here : i < length tasks = omega arith in
    c.requires.fed i task.now draft (ref_at tasks i task here c.index-tasks-i.is) (slice_get_read drafts (length drafts) i draft refl c.loop-i-test.true c.index-task_drafts-i.is)

pub loop-i-preserved : goal.loop-i-preserved
loop-i-preserved c =
    let tasks = c.args.tasks.now in
    let drafts = c.args.task_drafts.now in
    let fed = c.args.fed.now in
    let i = c.loop-i.i in
    let task = c.index-tasks-i.result in
    let draft = c.index-task_drafts-i.result in
    let same = c.requires.many in
    let here : i < length tasks = omega arith in
    let grown = ap length c.in_ok-push.ensures.items in
    let longer = length_push c.loop-i.codes.items c.in_ok-code.code in
    record {
      many = omega arith;
      each = triples_more (λ t d e. IsCodeLinked (drafted c.args.drafts.now) (runs_in_fed (fed_in t fed)) d e) (λ (e : Arc TaskCode Global). e.value) (seen tasks) drafts c.loop-i.codes.items c.push.new.self.items i task.now draft
          c.in_ok-code.code c.loop-i.invariant.many (ref_at tasks i task here c.index-tasks-i.is) (slice_get_read drafts (length drafts) i draft refl c.loop-i-test.true c.index-task_drafts-i.is)
          c.loop-i.invariant.each c.in_ok-code.ensures c.in_ok-push.ensures.items;
    }

pub returns-clause-many : goal.returns-clause-many
returns-clause-many c =
    let same = c.requires.many in
    let end = c.loop-i.auto.i-end in
    omega arith
