-- Lines were done, and then told; or not.
use Rattle.std.specs.Prelude.{string_bytes}
use Rattle.std.proofs.Common.{Bool, Err, IfErr, OnOk, sym, subst}
use Rattle.lists.proofs.Results.{kept_fault}
use Rattle.std.specs.Io.KnownBytes.{Appends}
use Rattle.live_node.specs.Keeping.{HasNotFailed, KeepsAllButOne, KeepsCore}
use Rattle.live_node.specs.declared.live_stop.LiveStop.{LiveStop}
use Rattle.live_node.specs.NodeValue.{NodeValue}
use Rattle.live_node.specs.NodeAnswers.{a_keeper_gives}
use Rattle.live_node.specs.Stops.{LeavesUntold}
use Rattle.live_node.specs.Steps.Together.{HasAnsweredTogether, StopsAtThem}
use Rattle.live_node.specs.Steps.Growing.{all_synced, grows_trans}
use Rattle.live_node.proofs.Together.{stop_after, told_done, unfailed_before, untold_done}
use Rattle.live_node.proofs.answering.answer_together.Goals as goal

pub returns-in_ok-tell-in-Ok-clause-answered : goal.returns-in_ok-tell-in-Ok-clause-answered
returns-in_ok-tell-in-Ok-clause-answered g c =
    let raising = a_keeper_gives g.K.Keeper.last g.K.Keeper.raise_gives in
    let old = c.args.node.now.state in
    let done = c.do_those_at_hand.new.node.state in
    let given = g.L.LineSource.left c.args.source.now in
    let left = g.L.LineSource.left c.do_those_at_hand.new.source in
    let noted_old = g.N.Notes.noted c.args.node.now.notes in
    let noted_new = g.N.Notes.noted c.do_those_at_hand.new.node.notes in
    let from = g.W.Write.contents c.args.out.now in
    let to = g.W.Write.contents c.tell.new.out in
    let waiting = string_bytes c.do_those_at_hand.new.room.waiting in
    let told = subst (Appends from to) c.as_str.ensures.value c.in_ok-tell-in-Ok.ensures.told in
    let answered = told_done raising old done given left noted_old noted_new from to waiting c.in-Ok.more c.in-Ok.ensures.done told in
    subst (λ s. HasAnsweredTogether raising old s given left noted_old (g.N.Notes.noted c.tell.new.node.notes) from to c.in-Ok.more) (sym c.tell.ensures.state)
    (subst (λ n. HasAnsweredTogether raising old done given left noted_old n from to c.in-Ok.more) (sym c.tell.ensures.noted) answered)

pub returns-in_err-tell-in-Ok-clause-stopped : goal.returns-in_err-tell-in-Ok-clause-stopped
returns-in_err-tell-in-Ok-clause-stopped g c =
    let raising = a_keeper_gives g.K.Keeper.last g.K.Keeper.raise_gives in
    let old = c.args.node.now.state in
    let done = c.do_those_at_hand.new.node.state in
    let given = g.L.LineSource.left c.args.source.now in
    let left = g.L.LineSource.left c.do_those_at_hand.new.source in
    let noted_old = g.N.Notes.noted c.args.node.now.notes in
    let noted_new = g.N.Notes.noted c.do_those_at_hand.new.node.notes in
    let noted_now = g.N.Notes.noted c.tell.new.node.notes in
    let synced = g.N.Notes.synced c.tell.new.node.notes in
    let from = g.W.Write.contents c.args.out.now in
    let to = g.W.Write.contents c.tell.new.out in
    let waiting = string_bytes c.do_those_at_hand.new.room.waiting in
    let stop = c.in_err-tell-in-Ok.field-0.0 in
    let leaves = subst (λ t. LeavesUntold stop t noted_now synced from to) c.as_str.ensures.value c.in_err-tell-in-Ok.ensures.untold in
    let untold = subst (λ n. LeavesUntold stop waiting n synced from to) c.tell.ensures.noted leaves in
    let grown = grows_trans (g.N.Notes.synced c.args.node.now.notes) (g.N.Notes.synced c.do_those_at_hand.new.node.notes) synced c.do_those_at_hand.ensures.stays c.tell.ensures.stays in
    let stopped = untold_done raising old done given left noted_old noted_new synced from to waiting c.in-Ok.more stop c.in-Ok.ensures.done (all_synced (g.N.Notes.synced c.args.node.now.notes) noted_old synced c.requires.synced grown) untold in
    kept_fault stop (StopsAtThem raising old given left noted_old noted_now synced from to) c.from_residual.result c.from_residual.ensures.1
    (subst (λ n. StopsAtThem raising old given left noted_old n synced from to stop) (sym c.tell.ensures.noted) stopped)

pub returns-in-Err-clause-stopped : goal.returns-in-Err-clause-stopped
returns-in-Err-clause-stopped g c =
    let raising = a_keeper_gives g.K.Keeper.last g.K.Keeper.raise_gives in
    let given = g.L.LineSource.left c.args.source.now in
    let left = g.L.LineSource.left c.do_those_at_hand.new.source in
    let noted_old = g.N.Notes.noted c.args.node.now.notes in
    let noted_new = g.N.Notes.noted c.do_those_at_hand.new.node.notes in
    let noted_now = g.N.Notes.noted c.tell-told.new.node.notes in
    let synced = g.N.Notes.synced c.tell-told.new.node.notes in
    let from = g.W.Write.contents c.args.out.now in
    let to = g.W.Write.contents c.tell-told.new.out in
    let waiting = string_bytes c.do_those_at_hand.new.room.waiting in
    let grown = grows_trans (g.N.Notes.synced c.args.node.now.notes) (g.N.Notes.synced c.do_those_at_hand.new.node.notes) synced c.do_those_at_hand.ensures.stays c.tell-told.ensures.stays in
    let stopped =
    stop_after c.tell-told.result raising c.args.node.now.state given left noted_old noted_new noted_now synced from to waiting c.in-Err.stop c.in-Err.ensures.stopped (all_synced (g.N.Notes.synced c.args.node.now.notes) noted_old synced c.requires.synced grown) c.tell-told.ensures.noted
    (subst (λ t. OnOk c.tell-told.result (Appends from to t)) c.as_str-in-Err.ensures.value c.tell-told.ensures.told) c.tell-told.ensures.synced
    (subst (λ t. IfErr c.tell-told.result (λ why. LeavesUntold why t noted_now synced from to)) c.as_str-in-Err.ensures.value c.tell-told.ensures.untold) in
    subst (StopsAtThem raising c.args.node.now.state given left noted_old noted_now synced from to) (sym c.first_cause.ensures) stopped

pub returns-in-Err-clause-keeps : goal.returns-in-Err-clause-keeps
returns-in-Err-clause-keeps g c = λ unfailed keeps.
    let before = unfailed_before Bool c.in-Err.stop c.tell-told.result (subst (λ (s : LiveStop). HasNotFailed {T = Bool} (Err s)) c.first_cause.ensures unfailed) in
    let kept = c.in-Err.ensures.keeps before keeps in
    subst (λ k. KeepsCore (g.K.Keeper.kept_gives k) c.tell-told.new.node.state.core) (sym c.tell-told.ensures.keeper)
    (subst (λ (s : NodeValue). KeepsCore (g.K.Keeper.kept_gives c.do_those_at_hand.new.node.keeper) s.core) (sym c.tell-told.ensures.state) kept)

pub returns-in-Err-clause-rest : goal.returns-in-Err-clause-rest
returns-in-Err-clause-rest g c = λ keeps.
    let rest = c.in-Err.ensures.rest keeps in
    subst (λ k. KeepsAllButOne (g.K.Keeper.kept_gives k) c.tell-told.new.node.state.core) (sym c.tell-told.ensures.keeper)
    (subst (λ (s : NodeValue). KeepsAllButOne (g.K.Keeper.kept_gives c.do_those_at_hand.new.node.keeper) s.core) (sym c.tell-told.ensures.state) rest)
