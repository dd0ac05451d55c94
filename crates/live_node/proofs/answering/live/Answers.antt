use Rattle.std.proofs.Common.{Bool, [], ◌++◌, subst, arith}
use Rattle.lists.proofs.Results.{kept_fault}
use Rattle.live_node.specs.NodeAnswers.{a_keeper_gives}
use Rattle.live_node.specs.Stops.{StopsNode}
use Rattle.live_node.specs.Steps.Together.{HasAnsweredTogether}
use Rattle.live_node.proofs.Standing.{stands_first, stands_within}
use Rattle.live_node.proofs.Stopping.{stops_at_start}
use Rattle.live_node.proofs.Together.{ended_behind, stands_both, stops_behind, stops_endlessly}
use Rattle.text_lines.proofs.Sending.{on_err}
use Rattle.live_node.specs.Keeping.{KeepsAllButOne, KeepsCore}
use Rattle.live_node.proofs.Outliving.{same_failure}
use Rattle.live_node.proofs.answering.live.Goals as goal

pub loop-init : goal.loop-init
loop-init g c =
    let first = c.args.node.now.state in
    let stands = stands_first (a_keeper_gives g.K.Keeper.last g.K.Keeper.raise_gives) first c.args.begun.now (g.L.LineSource.left c.args.source.now) (g.N.Notes.noted c.args.node.now.notes) (g.W.Write.contents c.args.out.now) (g.W.Write.contents c.hand_on.new.out) c.in_ok-hand_on.ensures.whole in
    ([], stands, c.requires.kept, omega (arith, c.requires.fresh), (λ keeps. keeps), c.requires.synced)

pub answer_together-requires-clause-ready : goal.answer_together-requires-clause-ready
answer_together-requires-clause-ready g c κs within = λ left b.
    let so_far = c.loop.invariant in
    c.requires.turns left (g.W.Write.contents c.loop.out)
    (stands_within (a_keeper_gives g.K.Keeper.last g.K.Keeper.raise_gives) c.args.node.now.state c.loop.node.state c.args.begun.now so_far.0 (g.L.LineSource.left c.args.source.now) (g.L.LineSource.left c.loop.source) left (g.N.Notes.noted c.args.node.now.notes) (g.N.Notes.noted c.loop.node.notes) (g.W.Write.contents c.args.out.now) (g.W.Write.contents c.loop.out) so_far.1 b)

pub returns-in_err-hand_on-clause-stopped : goal.returns-in_err-hand_on-clause-stopped
returns-in_err-hand_on-clause-stopped g c =
    let raising = a_keeper_gives g.K.Keeper.last g.K.Keeper.raise_gives in
    let given = g.L.LineSource.left c.args.source.now in
    let noted = g.N.Notes.noted c.args.node.now.notes in
    let synced = g.N.Notes.synced c.args.node.now.notes in
    let stop = c.in_err-hand_on.field-0.0 in
    let unwritten = c.in_err-hand_on.ensures.part in
    let from = g.W.Write.contents c.args.out.now in
    let to = g.W.Write.contents c.hand_on.new.out in
    kept_fault stop (StopsNode raising c.args.node.now.state c.args.begun.now given given noted noted synced from to) c.from_residual.result c.from_residual.ensures.1
    (stops_at_start raising c.args.node.now.state c.args.begun.now given noted synced from to stop unwritten.0 c.requires.synced unwritten.1)

pub returns-then-not-branch-clause-ok : goal.returns-then-not-branch-clause-ok
returns-then-not-branch-clause-ok g c =
    let raising = a_keeper_gives g.K.Keeper.last g.K.Keeper.raise_gives in
    let first = c.args.node.now.state in
    let mid = c.loop.node.state in
    let last = c.answer_together.new.node.state in
    let given = g.L.LineSource.left c.args.source.now in
    let now = g.L.LineSource.left c.loop.source in
    let left = g.L.LineSource.left c.answer_together.new.source in
    let noted_old = g.N.Notes.noted c.args.node.now.notes in
    let noted_mid = g.N.Notes.noted c.loop.node.notes in
    let noted_new = g.N.Notes.noted c.answer_together.new.node.notes in
    let from = g.W.Write.contents c.args.out.now in
    let written = g.W.Write.contents c.loop.out in
    let to = g.W.Write.contents c.answer_together.new.out in
    let so_far = c.loop.invariant in
    let ended = subst (HasAnsweredTogether raising mid last now left noted_mid noted_new written to) c.if-not-branch.true c.in_ok-answer_together.ensures.answered in
    ended_behind raising first mid last c.args.begun.now so_far.0 given now left noted_old noted_mid noted_new from written to so_far.1 ended

pub loop-preserved : goal.loop-preserved
loop-preserved g c =
    let raising = a_keeper_gives g.K.Keeper.last g.K.Keeper.raise_gives in
    let first = c.args.node.now.state in
    let mid = c.loop.node.state in
    let last = c.answer_together.new.node.state in
    let given = g.L.LineSource.left c.args.source.now in
    let now = g.L.LineSource.left c.loop.source in
    let left = g.L.LineSource.left c.answer_together.new.source in
    let noted_old = g.N.Notes.noted c.args.node.now.notes in
    let noted_mid = g.N.Notes.noted c.loop.node.notes in
    let noted_new = g.N.Notes.noted c.answer_together.new.node.notes in
    let from = g.W.Write.contents c.args.out.now in
    let written = g.W.Write.contents c.loop.out in
    let to = g.W.Write.contents c.answer_together.new.out in
    let so_far = c.loop.invariant in
    let more = subst (HasAnsweredTogether raising mid last now left noted_mid noted_new written to) c.if-not-branch.false c.in_ok-answer_together.ensures.answered in (
      so_far.0 ++ more.0,
      stands_both raising first mid last c.args.begun.now so_far.0 more.0 given now left noted_old noted_mid noted_new from written to so_far.1 more.1,
      c.in_ok-answer_together.ensures.kept,
      omega (arith, so_far.3, c.in_ok-answer_together.ensures.few),
      (λ keeps. c.in_ok-answer_together.ensures.keeps tt (so_far.4 keeps)),
      c.in_ok-answer_together.ensures.synced,
    )

pub returns-in_err-answer_together-clause-stopped : goal.returns-in_err-answer_together-clause-stopped
returns-in_err-answer_together-clause-stopped g c =
    let raising = a_keeper_gives g.K.Keeper.last g.K.Keeper.raise_gives in
    let first = c.args.node.now.state in
    let mid = c.loop.node.state in
    let last = c.answer_together.new.node.state in
    let given = g.L.LineSource.left c.args.source.now in
    let now = g.L.LineSource.left c.loop.source in
    let left = g.L.LineSource.left c.answer_together.new.source in
    let noted_old = g.N.Notes.noted c.args.node.now.notes in
    let noted_mid = g.N.Notes.noted c.loop.node.notes in
    let noted_new = g.N.Notes.noted c.answer_together.new.node.notes in
    let from = g.W.Write.contents c.args.out.now in
    let written = g.W.Write.contents c.loop.out in
    let to = g.W.Write.contents c.answer_together.new.out in
    let so_far = c.loop.invariant in
    let synced = g.N.Notes.synced c.answer_together.new.node.notes in
    let stop = c.in_err-answer_together.field-0.0 in
    kept_fault stop (StopsNode raising first c.args.begun.now given left noted_old noted_new synced from to) c.from_residual-in_err-answer_together.result c.from_residual-in_err-answer_together.ensures.1
    (stops_behind raising first mid c.args.begun.now so_far.0 given now left noted_old noted_mid noted_new synced from written to stop so_far.1 c.in_err-answer_together.ensures.stopped)

pub returns-clause-stopped : goal.returns-clause-stopped
returns-clause-stopped g c =
    let raising = a_keeper_gives g.K.Keeper.last g.K.Keeper.raise_gives in
    let so_far = c.loop.invariant in
    stops_endlessly raising c.args.node.now.state c.loop.node.state c.args.begun.now so_far.0 (g.L.LineSource.left c.args.source.now) (g.L.LineSource.left c.loop.source) (g.N.Notes.noted c.args.node.now.notes) (g.N.Notes.noted c.loop.node.notes) (g.N.Notes.synced c.loop.node.notes)
    (g.W.Write.contents c.args.out.now) (g.W.Write.contents c.loop.out) so_far.1 so_far.5

pub returns-then-not-branch-clause-keeps : goal.returns-then-not-branch-clause-keeps
returns-then-not-branch-clause-keeps g c = λ done keeps. c.in_ok-answer_together.ensures.keeps tt (c.loop.invariant.4 keeps)

pub returns-in_err-answer_together-clause-keeps : goal.returns-in_err-answer_together-clause-keeps
returns-in_err-answer_together-clause-keeps g c = λ unfailed keeps.
    c.in_err-answer_together.ensures.keeps (same_failure Bool c.in_err-answer_together.field-0.0 c.from_residual-in_err-answer_together.result c.from_residual-in_err-answer_together.ensures.1 unfailed) (c.loop.invariant.4 keeps)

pub returns-in_err-answer_together-clause-rest : goal.returns-in_err-answer_together-clause-rest
returns-in_err-answer_together-clause-rest g c =
    let old = KeepsCore (g.K.Keeper.kept_gives c.args.node.now.keeper) c.args.node.now.state.core in
    let new = KeepsAllButOne (g.K.Keeper.kept_gives c.answer_together.new.node.keeper) c.answer_together.new.node.state.core in
    on_err {P = old → new} _ (λ keeps. c.in_err-answer_together.ensures.rest (c.loop.invariant.4 keeps))
