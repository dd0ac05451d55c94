use Rattle.std.proofs.Common.{◌≡◌, ◌+◌, [], ◌∷◌, ◌++◌, length, refl, subst, arith, length-append}
use Rattle.lists.proofs.Results.{kept_fault}
use Rattle.world.specs.Simulated.{from_one}
use Rattle.tested_schedules.specs.TestedLines.{EndsTestedLines}
use Rattle.tested_schedules.specs.Steps.Lines.{HasDoneNext}
use Rattle.tested_schedules.specs.Steps.Testing.{state_of}
use Rattle.tested_schedules.proofs.LinesEnding.{read_answered, read_ends, read_few, read_first, read_next, read_no_more, read_nothing, read_stops}
use Rattle.tested_schedules.proofs.lines_tested.test_in_turns.Goals as goal

pub returns-in_default-clause-fault : goal.returns-in_default-clause-fault
returns-in_default-clause-fault g c = read_nothing c.args.plant.value c.args.max_number (g.L.LineSource.left c.args.source.now) c.args.line.now.items (g.W.Write.contents c.args.out.now)

pub loop-before-init : goal.loop-before-init
loop-before-init g c = (
  [],
  refl,
  c.in-Ok.ensures.known,
  read_first (from_one c.args.plant.value c.args.max_number) (state_of c.in-Ok.testing) (g.L.LineSource.left c.args.source.now) (g.W.Write.contents c.args.out.now) c.in-Ok.ensures.world c.in-Ok.ensures.none.0 c.in-Ok.ensures.none.1,
)

pub returns-in_err-do_next-clause-fault : goal.returns-in_err-do_next-clause-fault
returns-in_err-do_next-clause-fault g c =
    let given = g.L.LineSource.left c.args.source.now in
    let left = g.L.LineSource.left c.loop-before.source in
    let later = g.L.LineSource.left c.do_next.new.source in
    let last = c.do_next.new.line.items in
    let old = g.W.Write.contents c.args.out.now in
    let now = g.W.Write.contents c.loop-before.out in
    let next = g.W.Write.contents c.do_next.new.out in
    let so_far = c.loop-before.invariant in
    let fault = c.in_err-do_next.field-0.0 in
    let number : c.loop-before.before + 1 ≡ length so_far.0 + 1 = omega (arith, so_far.1) in
    kept_fault fault (EndsTestedLines c.args.plant.value c.args.max_number given later last old next) c.from_residual.result c.from_residual.ensures.1
    (read_stops c.args.plant.value c.args.max_number so_far.0 (state_of c.loop-before.testing) (state_of c.do_next.new.self) (c.loop-before.before + 1) given left later last old now next fault so_far.3 number c.in_err-do_next.ensures.fault)

pub returns-then-not-branch-clause-ok : goal.returns-then-not-branch-clause-ok
returns-then-not-branch-clause-ok g c =
    let t = state_of c.loop-before.testing in
    let new = state_of c.do_next.new.self in
    let given = g.L.LineSource.left c.args.source.now in
    let left = g.L.LineSource.left c.loop-before.source in
    let later = g.L.LineSource.left c.do_next.new.source in
    let old = g.W.Write.contents c.args.out.now in
    let now = g.W.Write.contents c.loop-before.out in
    let next = g.W.Write.contents c.do_next.new.out in
    let so_far = c.loop-before.invariant in
    read_ends c.args.plant.value c.args.max_number so_far.0 t new given left later old now next so_far.3 (subst (HasDoneNext t new left later now next) c.if-not-branch.true c.in_ok-do_next.ensures.ok) c.ended.result c.ended.ensures.world c.ended.ensures.events
    c.ended.ensures.unmet

pub loop-before-preserved : goal.loop-before-preserved
loop-before-preserved g c =
    let t = state_of c.loop-before.testing in
    let new = state_of c.do_next.new.self in
    let given = g.L.LineSource.left c.args.source.now in
    let left = g.L.LineSource.left c.loop-before.source in
    let later = g.L.LineSource.left c.do_next.new.source in
    let old = g.W.Write.contents c.args.out.now in
    let now = g.W.Write.contents c.loop-before.out in
    let next = g.W.Write.contents c.do_next.new.out in
    let so_far = c.loop-before.invariant in
    let gone = subst (HasDoneNext t new left later now next) c.if-not-branch.false c.in_ok-do_next.ensures.ok in (
      so_far.0 ++ gone.line ∷ [],
      omega (arith, so_far.1, length-append so_far.0 (gone.line ∷ [])),
      c.in_ok-do_next.ensures.known,
      read_next (from_one c.args.plant.value c.args.max_number) so_far.0 t new given left later old now next so_far.3 gone,
    )

pub returns-clause-fault : goal.returns-clause-fault
returns-clause-fault g c =
    let so_far = c.loop-before.invariant in
    read_no_more c.args.plant.value c.args.max_number so_far.0 (state_of c.loop-before.testing) (g.L.LineSource.left c.args.source.now) (g.L.LineSource.left c.loop-before.source) c.loop-before.line.items (g.W.Write.contents c.args.out.now) (g.W.Write.contents c.loop-before.out) so_far.3

pub do_next-requires-clause-ready : goal.do_next-requires-clause-ready
do_next-requires-clause-ready g c =
    let so_far = c.loop-before.invariant in
    c.requires.turns (g.L.LineSource.left c.loop-before.source) (g.W.Write.contents c.loop-before.out)
    (read_answered c.args.plant.value c.args.max_number so_far.0 (state_of c.loop-before.testing) (g.L.LineSource.left c.args.source.now) (g.L.LineSource.left c.loop-before.source) (g.W.Write.contents c.args.out.now) (g.W.Write.contents c.loop-before.out) so_far.3)

pub do_next-requires-clause-few : goal.do_next-requires-clause-few
do_next-requires-clause-few g c = let so_far = c.loop-before.invariant in omega (arith, so_far.1, so_far.3.stands.so.few, read_few so_far.0, c.loop-before-test.true)

pub do_next-requires-clause-known : goal.do_next-requires-clause-known
do_next-requires-clause-known g c = c.loop-before.invariant.2
