-- Turns were made one after the other; their answers wait.
use Rattle.std.proofs.Common.{Some, true, refl, subst, arith}
use Rattle.std.specs.Prelude.{string_bytes}
use Rattle.lists.proofs.Results.{kept_fault}
use Rattle.live_node.specs.NodeAnswers.{a_keeper_gives}
use Rattle.live_node.specs.Keeping.{KeepsAllButOne, KeepsCore}
use Rattle.live_node.specs.Steps.Growing.{grows_refl, grows_trans}
use Rattle.text_lines.proofs.Sending.{on_err}
use Rattle.node_loop.specs.Steps.Following.{is_going_on, HasTurned, StopsMaking}
use Rattle.node_loop.proofs.Turning.{follows_both, follows_none, stops_behind, turned_behind_both}
use Rattle.node_loop.proofs.looping.make_together.Goals as goal

pub loop-init : goal.loop-init
loop-init g c =
    let raising = a_keeper_gives g.K.Keeper.last g.K.Keeper.raise_gives in
    let given = g.S.TurnSource.given c.args.source.now in
    let noted = g.N.Notes.noted c.args.node.now.node.notes in (
      follows_none raising c.args.ending c.args.node.now given given noted (Some (string_bytes c.args.room.now.waiting)) refl,
      c.requires.kept,
      omega arith,
      λ keeps. keeps,
      grows_refl (g.N.Notes.synced c.args.node.now.node.notes),
    )

pub returns-then-not-may_follow-clause-turned : goal.returns-then-not-may_follow-clause-turned
returns-then-not-may_follow-clause-turned g c =
    let raising = a_keeper_gives g.K.Keeper.last g.K.Keeper.raise_gives in
    let old = c.args.node.now in
    let mid = c.loop.node in
    let new = c.turn.new.node in
    turned_behind_both raising c.args.ending old mid new (is_going_on c.in_ok-turned.turned) (g.S.TurnSource.given c.args.source.now) (g.S.TurnSource.given c.loop.source) (g.S.TurnSource.given c.turn.new.source)
    (g.N.Notes.noted old.node.notes) (g.N.Notes.noted mid.node.notes) (g.N.Notes.noted new.node.notes) (Some (string_bytes c.args.room.now.waiting)) (Some (string_bytes c.loop.room.waiting)) (Some (string_bytes c.turn.new.room.waiting))
    c.loop.invariant.0 c.in_ok-turned.ensures.turned

pub returns-clause-turned : goal.returns-clause-turned
returns-clause-turned g c = c.loop.invariant.0

pub loop-preserved : goal.loop-preserved
loop-preserved g c =
    let raising = a_keeper_gives g.K.Keeper.last g.K.Keeper.raise_gives in
    let old = c.args.node.now in
    let mid = c.loop.node in
    let new = c.turn.new.node in
    let given = g.S.TurnSource.given c.args.source.now in
    let now = g.S.TurnSource.given c.loop.source in
    let left = g.S.TurnSource.given c.turn.new.source in
    let noted_old = g.N.Notes.noted old.node.notes in
    let noted_mid = g.N.Notes.noted mid.node.notes in
    let noted_new = g.N.Notes.noted new.node.notes in
    let from = Some (string_bytes c.args.room.now.waiting) in
    let written = Some (string_bytes c.loop.room.waiting) in
    let to = Some (string_bytes c.turn.new.room.waiting) in
    let so_far = c.loop.invariant in
    let next = subst (HasTurned raising c.args.ending mid new now left noted_mid noted_new written to) (c.may_follow.ensures c.if-not-may_follow.false) c.in_ok-turned.ensures.turned in (
      follows_both raising c.args.ending old mid new true given now left noted_old noted_mid noted_new from written to so_far.0 next,
      c.in_ok-turned.ensures.kept,
      omega (arith, so_far.2, c.in_ok-turned.ensures.few),
      λ keeps. c.in_ok-turned.ensures.keeps (so_far.3 keeps),
      grows_trans (g.N.Notes.synced old.node.notes) (g.N.Notes.synced mid.node.notes) (g.N.Notes.synced new.node.notes) so_far.4 c.turn.ensures.stays,
    )

pub returns-in_err-turned-clause-stopped : goal.returns-in_err-turned-clause-stopped
returns-in_err-turned-clause-stopped g c =
    let raising = a_keeper_gives g.K.Keeper.last g.K.Keeper.raise_gives in
    let old = c.args.node.now in
    let mid = c.loop.node in
    let new = c.turn.new.node in
    let given = g.S.TurnSource.given c.args.source.now in
    let now = g.S.TurnSource.given c.loop.source in
    let left = g.S.TurnSource.given c.turn.new.source in
    let noted_old = g.N.Notes.noted old.node.notes in
    let noted_mid = g.N.Notes.noted mid.node.notes in
    let noted_new = g.N.Notes.noted new.node.notes in
    let from = Some (string_bytes c.args.room.now.waiting) in
    let written = Some (string_bytes c.loop.room.waiting) in
    let to = Some (string_bytes c.turn.new.room.waiting) in
    let stop = c.in_err-turned.field-0.0 in
    kept_fault stop (λ s. StopsMaking raising c.args.ending old given left noted_old noted_new from to s) c.from_residual.result c.from_residual.ensures.1
    (stops_behind raising c.args.ending old mid given now left noted_old noted_mid noted_new from written to stop c.loop.invariant.0 c.in_err-turned.ensures.stopped)

pub returns-then-not-may_follow-clause-stays : goal.returns-then-not-may_follow-clause-stays
returns-then-not-may_follow-clause-stays g c =
    grows_trans (g.N.Notes.synced c.args.node.now.node.notes) (g.N.Notes.synced c.loop.node.node.notes) (g.N.Notes.synced c.turn.new.node.node.notes) c.loop.invariant.4 c.turn.ensures.stays

pub returns-in_err-turned-clause-stays : goal.returns-in_err-turned-clause-stays
returns-in_err-turned-clause-stays g c =
    grows_trans (g.N.Notes.synced c.args.node.now.node.notes) (g.N.Notes.synced c.loop.node.node.notes) (g.N.Notes.synced c.turn.new.node.node.notes) c.loop.invariant.4 c.turn.ensures.stays

pub returns-then-not-may_follow-clause-keeps : goal.returns-then-not-may_follow-clause-keeps
returns-then-not-may_follow-clause-keeps g c = λ keeps. c.in_ok-turned.ensures.keeps (c.loop.invariant.3 keeps)

pub returns-clause-keeps : goal.returns-clause-keeps
returns-clause-keeps g c = c.loop.invariant.3

pub returns-in_err-turned-clause-rest : goal.returns-in_err-turned-clause-rest
returns-in_err-turned-clause-rest g c =
    let old = KeepsCore (g.K.Keeper.kept_gives c.args.node.now.node.keeper) c.args.node.now.node.state.core in
    let new = KeepsAllButOne (g.K.Keeper.kept_gives c.turn.new.node.node.keeper) c.turn.new.node.node.state.core in
    on_err {P = old → new} _ (λ keeps. c.in_err-turned.ensures.rest (c.loop.invariant.3 keeps))
