-- What is written at the start, and then turns, one after the other.
use Rattle.std.proofs.Common.{true, refl, subst, arith}
use Rattle.lists.proofs.Results.{kept_fault}
use Rattle.live_node.specs.NodeAnswers.{a_keeper_gives}
use Rattle.live_node.specs.Keeping.{KeepsAllButOne, KeepsCore}
use Rattle.text_lines.proofs.Sending.{on_err}
use Rattle.node_loop.specs.declared.loop_stop.LoopStop.TheVariants.{Clock}
use Rattle.node_loop.specs.Loops.{setting_of, condition_of, StopsLoop}
use Rattle.node_loop.specs.Steps.Following.{HasTurned}
use Rattle.node_loop.proofs.Turning.{ends_behind, follows_both, follows_none, same_both}
use Rattle.node_loop.proofs.Telling.{runs_ended, stops_at_start, stops_going, stops_idle, stops_told}
use Rattle.node_loop.proofs.looping.run_loop.Goals as goal

pub loop-init : goal.loop-init
loop-init g c =
    let raising = a_keeper_gives g.K.Keeper.last g.K.Keeper.raise_gives in
    let first = c.args.node.now in
    let given = g.S.TurnSource.given c.args.source.now in
    let started = g.S.TurnSource.given c.start.new.self in
    let noted = g.N.Notes.noted first.node.notes in
    let behind = g.W.Write.contents c.hand_on.new.out in
    (behind, c.in_ok-hand_on.ensures.whole, follows_none raising c.args.ending first given started noted behind c.start.ensures, c.requires.kept, omega (arith, c.requires.fresh), (λ keeps. keeps), c.requires.synced)

pub returns-then-not-branch-clause-ok : goal.returns-then-not-branch-clause-ok
returns-then-not-branch-clause-ok g c =
    let raising = a_keeper_gives g.K.Keeper.last g.K.Keeper.raise_gives in
    let first = c.args.node.now in
    let mid = c.loop.node in
    let last = c.turn_together.new.node in
    let given = g.S.TurnSource.given c.args.source.now in
    let now = g.S.TurnSource.given c.loop.source in
    let left = g.S.TurnSource.given c.turn_together.new.source in
    let noted_old = g.N.Notes.noted first.node.notes in
    let noted_mid = g.N.Notes.noted mid.node.notes in
    let noted_new = g.N.Notes.noted last.node.notes in
    let from = g.W.Write.contents c.args.out.now in
    let written = g.W.Write.contents c.loop.out in
    let to = g.W.Write.contents c.turn_together.new.out in
    let so_far = c.loop.invariant in
    let next = subst (HasTurned raising c.args.ending mid last now left noted_mid noted_new written to) c.if-not-branch.true c.in_ok-turn_together.ensures.turned in
    runs_ended raising c.args.ending c.args.begun.now first last given left noted_old noted_new from so_far.0 to so_far.1
    (ends_behind raising c.args.ending first mid last given now left noted_old noted_mid noted_new so_far.0 written to so_far.2 next)

pub loop-preserved : goal.loop-preserved
loop-preserved g c =
    let raising = a_keeper_gives g.K.Keeper.last g.K.Keeper.raise_gives in
    let first = c.args.node.now in
    let mid = c.loop.node in
    let last = c.turn_together.new.node in
    let given = g.S.TurnSource.given c.args.source.now in
    let now = g.S.TurnSource.given c.loop.source in
    let left = g.S.TurnSource.given c.turn_together.new.source in
    let noted_old = g.N.Notes.noted first.node.notes in
    let noted_mid = g.N.Notes.noted mid.node.notes in
    let noted_new = g.N.Notes.noted last.node.notes in
    let written = g.W.Write.contents c.loop.out in
    let to = g.W.Write.contents c.turn_together.new.out in
    let so_far = c.loop.invariant in
    let next = subst (HasTurned raising c.args.ending mid last now left noted_mid noted_new written to) c.if-not-branch.false c.in_ok-turn_together.ensures.turned in (
      so_far.0,
      so_far.1,
      follows_both raising c.args.ending first mid last true given now left noted_old noted_mid noted_new so_far.0 written to so_far.2 next,
      c.in_ok-turn_together.ensures.kept,
      omega (arith, so_far.4, c.in_ok-turn_together.ensures.few),
      (λ keeps. c.in_ok-turn_together.ensures.keeps (so_far.5 keeps)),
      c.in_ok-turn_together.ensures.synced,
    )

pub returns-in_err-hand_on-clause-stopped : goal.returns-in_err-hand_on-clause-stopped
returns-in_err-hand_on-clause-stopped g c =
    let raising = a_keeper_gives g.K.Keeper.last g.K.Keeper.raise_gives in
    let first = c.args.node.now in
    let given = g.S.TurnSource.given c.args.source.now in
    let noted = g.N.Notes.noted first.node.notes in
    let synced = g.N.Notes.synced first.node.notes in
    let from = g.W.Write.contents c.args.out.now in
    let to = g.W.Write.contents c.hand_on.new.out in
    let stop = c.in_err-hand_on.field-0.0 in
    kept_fault stop (λ s. StopsLoop raising (setting_of first) c.args.ending c.args.begun.now (condition_of first noted) given given noted synced from to s) c.from_residual.result c.from_residual.ensures.1
    (stops_at_start raising c.args.ending c.args.begun.now first given noted synced from to stop c.requires.synced c.in_err-hand_on.ensures.part)

pub returns-in_err-start-clause-stopped : goal.returns-in_err-start-clause-stopped
returns-in_err-start-clause-stopped g c =
    let raising = a_keeper_gives g.K.Keeper.last g.K.Keeper.raise_gives in
    let first = c.args.node.now in
    let given = g.S.TurnSource.given c.args.source.now in
    let started = g.S.TurnSource.given c.start.new.self in
    let noted = g.N.Notes.noted first.node.notes in
    let synced = g.N.Notes.synced first.node.notes in
    let from = g.W.Write.contents c.args.out.now in
    let behind = g.W.Write.contents c.hand_on.new.out in
    kept_fault Clock (λ s. StopsLoop raising (setting_of first) c.args.ending c.args.begun.now (condition_of first noted) given started noted synced from behind s) c.from_residual-in_err-start.result c.from_residual-in_err-start.ensures.1
    (stops_going raising c.args.ending c.args.begun.now first given started noted noted synced from behind behind Clock c.in_ok-hand_on.ensures.whole
    (stops_idle raising c.args.ending first given started noted synced behind c.start.ensures c.requires.synced))

pub returns-in_err-turn_together-clause-stopped : goal.returns-in_err-turn_together-clause-stopped
returns-in_err-turn_together-clause-stopped g c =
    let raising = a_keeper_gives g.K.Keeper.last g.K.Keeper.raise_gives in
    let first = c.args.node.now in
    let mid = c.loop.node in
    let last = c.turn_together.new.node in
    let given = g.S.TurnSource.given c.args.source.now in
    let now = g.S.TurnSource.given c.loop.source in
    let left = g.S.TurnSource.given c.turn_together.new.source in
    let noted_old = g.N.Notes.noted first.node.notes in
    let noted_mid = g.N.Notes.noted mid.node.notes in
    let noted_new = g.N.Notes.noted last.node.notes in
    let synced = g.N.Notes.synced last.node.notes in
    let from = g.W.Write.contents c.args.out.now in
    let written = g.W.Write.contents c.loop.out in
    let to = g.W.Write.contents c.turn_together.new.out in
    let so_far = c.loop.invariant in
    let stop = c.in_err-turn_together.field-0.0 in
    kept_fault stop (λ s. StopsLoop raising (setting_of first) c.args.ending c.args.begun.now (condition_of first noted_old) given left noted_new synced from to s) c.from_residual-in_err-turn_together.result c.from_residual-in_err-turn_together.ensures.1
    (stops_going raising c.args.ending c.args.begun.now first given left noted_old noted_new synced from so_far.0 to stop so_far.1
    (stops_told raising c.args.ending first mid given now left noted_old noted_mid noted_new synced so_far.0 written to stop so_far.2 c.in_err-turn_together.ensures.stopped))

pub returns-clause-stopped : goal.returns-clause-stopped
returns-clause-stopped g c =
    let raising = a_keeper_gives g.K.Keeper.last g.K.Keeper.raise_gives in
    let first = c.args.node.now in
    let last = c.loop.node in
    let given = g.S.TurnSource.given c.args.source.now in
    let left = g.S.TurnSource.given c.loop.source in
    let noted_old = g.N.Notes.noted first.node.notes in
    let noted_new = g.N.Notes.noted last.node.notes in
    let synced = g.N.Notes.synced last.node.notes in
    let from = g.W.Write.contents c.args.out.now in
    let to = g.W.Write.contents c.loop.out in
    let so_far = c.loop.invariant in
    stops_going raising c.args.ending c.args.begun.now first given left noted_old noted_new synced from so_far.0 to Clock so_far.1
    (stops_told raising c.args.ending first last given left left noted_old noted_new noted_new synced so_far.0 to to Clock so_far.2
    (stops_idle raising c.args.ending last left left noted_new synced to refl so_far.6))

pub returns-then-not-branch-clause-setting : goal.returns-then-not-branch-clause-setting
returns-then-not-branch-clause-setting g c =
    let raising = a_keeper_gives g.K.Keeper.last g.K.Keeper.raise_gives in
    let first = c.args.node.now in
    let mid = c.loop.node in
    let last = c.turn_together.new.node in
    let now = g.S.TurnSource.given c.loop.source in
    let left = g.S.TurnSource.given c.turn_together.new.source in
    let noted_mid = g.N.Notes.noted mid.node.notes in
    let noted_new = g.N.Notes.noted last.node.notes in
    let written = g.W.Write.contents c.loop.out in
    let to = g.W.Write.contents c.turn_together.new.out in
    let next = subst (HasTurned raising c.args.ending mid last now left noted_mid noted_new written to) c.if-not-branch.true c.in_ok-turn_together.ensures.turned in
    same_both first mid last c.loop.invariant.2.same next.follows.same

pub returns-then-not-branch-clause-keeps : goal.returns-then-not-branch-clause-keeps
returns-then-not-branch-clause-keeps g c = λ keeps. c.in_ok-turn_together.ensures.keeps (c.loop.invariant.5 keeps)

pub returns-in_err-turn_together-clause-rest : goal.returns-in_err-turn_together-clause-rest
returns-in_err-turn_together-clause-rest g c =
    let old = KeepsCore (g.K.Keeper.kept_gives c.args.node.now.node.keeper) c.args.node.now.node.state.core in
    let new = KeepsAllButOne (g.K.Keeper.kept_gives c.turn_together.new.node.node.keeper) c.turn_together.new.node.node.state.core in
    on_err {P = old → new} _ (λ keeps. c.in_err-turn_together.ensures.rest (c.loop.invariant.5 keeps))
