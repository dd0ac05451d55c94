-- Turns were made, and then told; or not.
use Rattle.std.specs.Prelude.{string_bytes}
use Rattle.std.proofs.Common.{Some, OnOk, IfErr, sym, subst}
use Rattle.lists.proofs.Results.{kept_fault}
use Rattle.live_node.specs.Keeping.{KeepsAllButOne, KeepsCore}
use Rattle.live_node.specs.NodeAnswers.{a_keeper_gives}
use Rattle.live_node.specs.NodeValue.{NodeValue}
use Rattle.live_node.specs.Steps.Growing.{all_synced, grows_trans}
use Rattle.node_loop.specs.Stops.{LeavesUntold}
use Rattle.node_loop.specs.Steps.Following.{is_going_on, HandsOn, HasTurned, Stops, StopsMaking}
use Rattle.node_loop.proofs.Telling.{same_condition, stop_after, told_turns, untold_turns}
use Rattle.node_loop.proofs.looping.turn_together.Goals as goal

pub returns-in_ok-tell-in-Ok-clause-turned : goal.returns-in_ok-tell-in-Ok-clause-turned
returns-in_ok-tell-in-Ok-clause-turned g c =
    let going = is_going_on c.in-Ok.turned in
    let raising = a_keeper_gives g.K.Keeper.last g.K.Keeper.raise_gives in
    let old = c.args.node.now in
    let made = c.make_together.new.node in
    let new = c.tell.new.node in
    let given = g.S.TurnSource.given c.args.source.now in
    let left = g.S.TurnSource.given c.make_together.new.source in
    let waited = g.S.TurnSource.given c.wait_behind.new.source in
    let noted_old = g.N.Notes.noted old.node.notes in
    let noted_made = g.N.Notes.noted made.node.notes in
    let noted_new = g.N.Notes.noted new.node.notes in
    let from = g.W.Write.contents c.args.out.now in
    let to = g.W.Write.contents c.tell.new.out in
    let waiting = string_bytes c.make_together.new.room.waiting in
    let told = subst (λ t. HandsOn t from to) c.as_str.ensures.value c.in_ok-tell-in-Ok.ensures.told in
    let turned = subst (λ w. HasTurned raising c.args.ending old made given left noted_old noted_made (Some w) (Some waiting) going) c.clear.ensures.bytes c.in-Ok.ensures.turned in
    let same = same_condition made new noted_made noted_new c.tell.ensures.state c.tell.ensures.field c.tell.ensures.cycle c.tell.ensures.noted in
    subst (HasTurned raising c.args.ending old new given waited noted_old noted_new from to) (sym c.goes_on.ensures)
    (told_turns raising c.args.ending old made new going given left waited noted_old noted_made noted_new from to waiting c.wait_behind.ensures same c.tell.ensures.setting turned told)

pub returns-in_err-tell-in-Ok-clause-stopped : goal.returns-in_err-tell-in-Ok-clause-stopped
returns-in_err-tell-in-Ok-clause-stopped g c =
    let going = is_going_on c.in-Ok.turned in
    let raising = a_keeper_gives g.K.Keeper.last g.K.Keeper.raise_gives in
    let old = c.args.node.now in
    let made = c.make_together.new.node in
    let new = c.tell.new.node in
    let given = g.S.TurnSource.given c.args.source.now in
    let left = g.S.TurnSource.given c.make_together.new.source in
    let noted_old = g.N.Notes.noted old.node.notes in
    let noted_made = g.N.Notes.noted made.node.notes in
    let noted_new = g.N.Notes.noted new.node.notes in
    let synced = g.N.Notes.synced new.node.notes in
    let from = g.W.Write.contents c.args.out.now in
    let to = g.W.Write.contents c.tell.new.out in
    let waiting = string_bytes c.make_together.new.room.waiting in
    let stop = c.in_err-tell-in-Ok.field-0.0 in
    let leaves = subst (λ t. LeavesUntold stop t noted_new synced from to) c.as_str.ensures.value c.in_err-tell-in-Ok.ensures.untold in
    let untold = subst (λ n. LeavesUntold stop waiting n synced from to) c.tell.ensures.noted leaves in
    let grown = grows_trans (g.N.Notes.synced old.node.notes) (g.N.Notes.synced made.node.notes) synced c.make_together.ensures.stays c.tell.ensures.stays in
    let turned = subst (λ w. HasTurned raising c.args.ending old made given left noted_old noted_made (Some w) (Some waiting) going) c.clear.ensures.bytes c.in-Ok.ensures.turned in
    let stopped = untold_turns raising c.args.ending old made going given left noted_old noted_made synced from to waiting stop turned (all_synced (g.N.Notes.synced old.node.notes) noted_old synced c.requires.synced grown) untold in
    kept_fault stop (Stops raising c.args.ending old given left noted_old noted_new synced from to) c.from_residual.result c.from_residual.ensures.1
    (subst (λ n. Stops raising c.args.ending old given left noted_old n synced from to stop) (sym c.tell.ensures.noted) stopped)

pub returns-in-Err-clause-stopped : goal.returns-in-Err-clause-stopped
returns-in-Err-clause-stopped g c =
    let raising = a_keeper_gives g.K.Keeper.last g.K.Keeper.raise_gives in
    let old = c.args.node.now in
    let made = c.make_together.new.node in
    let new = c.tell-told.new.node in
    let given = g.S.TurnSource.given c.args.source.now in
    let left = g.S.TurnSource.given c.make_together.new.source in
    let noted_old = g.N.Notes.noted old.node.notes in
    let noted_made = g.N.Notes.noted made.node.notes in
    let noted_new = g.N.Notes.noted new.node.notes in
    let synced = g.N.Notes.synced new.node.notes in
    let from = g.W.Write.contents c.args.out.now in
    let to = g.W.Write.contents c.tell-told.new.out in
    let waiting = string_bytes c.make_together.new.room.waiting in
    let grown = grows_trans (g.N.Notes.synced old.node.notes) (g.N.Notes.synced made.node.notes) synced c.make_together.ensures.stays c.tell-told.ensures.stays in
    let making = subst (λ w. StopsMaking raising c.args.ending old given left noted_old noted_made (Some w) (Some waiting) c.in-Err.stop) c.clear.ensures.bytes c.in-Err.ensures.stopped in
    let stopped =
    stop_after c.tell-told.result raising c.args.ending old given left noted_old noted_made noted_new synced from to waiting c.in-Err.stop making (all_synced (g.N.Notes.synced old.node.notes) noted_old synced c.requires.synced grown) c.tell-told.ensures.noted
    (subst (λ t. OnOk c.tell-told.result (HandsOn t from to)) c.as_str-in-Err.ensures.value c.tell-told.ensures.told) c.tell-told.ensures.synced
    (subst (λ t. IfErr c.tell-told.result (λ why. LeavesUntold why t noted_new synced from to)) c.as_str-in-Err.ensures.value c.tell-told.ensures.untold) in
    subst (Stops raising c.args.ending old given left noted_old noted_new synced from to) (sym c.first_cause.ensures) stopped

pub returns-in_ok-tell-in-Ok-clause-keeps : goal.returns-in_ok-tell-in-Ok-clause-keeps
returns-in_ok-tell-in-Ok-clause-keeps g c = λ keeps.
    let kept = c.in-Ok.ensures.keeps keeps in
    subst (λ k. KeepsCore (g.K.Keeper.kept_gives k) c.tell.new.node.node.state.core) (sym c.tell.ensures.keeper)
    (subst (λ (s : NodeValue). KeepsCore (g.K.Keeper.kept_gives c.make_together.new.node.node.keeper) s.core) (sym c.tell.ensures.state) kept)

pub returns-in-Err-clause-rest : goal.returns-in-Err-clause-rest
returns-in-Err-clause-rest g c = λ keeps.
    let rest = c.in-Err.ensures.rest keeps in
    subst (λ k. KeepsAllButOne (g.K.Keeper.kept_gives k) c.tell-told.new.node.node.state.core) (sym c.tell-told.ensures.keeper)
    (subst (λ (s : NodeValue). KeepsAllButOne (g.K.Keeper.kept_gives c.make_together.new.node.node.keeper) s.core) (sym c.tell-told.ensures.state) rest)
