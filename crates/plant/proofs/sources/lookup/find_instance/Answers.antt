use Rattle.std.proofs.Common.{◌<◌, length, refl, arith}
use Rattle.std.proofs.lemmas.Option.{slice_get_within, slice_get_read}
use Rattle.plant.proofs.FoundTasks.{instances_more}
use Rattle.plant.proofs.sources.lookup.find_instance.Goals as goal

pub returns-in-Some : goal.returns-in-Some
returns-in-Some c =
    let codes = c.args.tasks.now in
    let code = c.index-tasks-k.result in
    record { code = code; program = c.in-Some.ensures.0; code_is = slice_get_read codes (length codes) c.loop-k.k code refl c.loop-k-test.true c.index-tasks-k.is; program_is = rw c.programs.ensures.list at c.in-Some.ensures.1 }

pub loop-k-preserved : goal.loop-k-preserved
loop-k-preserved c = instances_more c.args.tasks.now c.args.name.now c.loop-k.k c.index-tasks-k.result c.index-tasks-k.is (rw c.programs.ensures.list at c.in_default.ensures) c.loop-k.invariant

pub returns : goal.returns
returns c = λ k j at.
    let within = slice_get_within c.args.tasks.now k at.code at.code_is in
    let less : k < c.loop-k.k = omega arith in
    c.loop-k.invariant k j less at
