-- Lines were done one after the other; their answers wait.
use Rattle.std.specs.Prelude.{string_bytes}
use Rattle.std.proofs.Common.{Bool, [], ◌∷◌, ◌++◌, Some, sym, subst, arith}
use Rattle.lists.proofs.Results.{kept_fault}
use Rattle.text_lines.proofs.Sending.{on_err}
use Rattle.live_node.specs.Keeping.{KeepsAllButOne, KeepsCore}
use Rattle.live_node.specs.NodeAnswers.{a_keeper_gives}
use Rattle.live_node.specs.Steps.Answering.{HasAnsweredNext}
use Rattle.live_node.specs.Steps.Together.{Stands, StopsBehindDone}
use Rattle.live_node.proofs.Outliving.{same_failure}
use Rattle.live_node.proofs.Standing.{stands_first, stands_next}
use Rattle.live_node.specs.Steps.Growing.{grows_refl, grows_trans}
use Rattle.live_node.proofs.answering.do_those_at_hand.Goals as goal

pub loop-init : goal.loop-init
loop-init g c =
    let raising = a_keeper_gives g.K.Keeper.last g.K.Keeper.raise_gives in
    let given = g.L.LineSource.left c.args.source.now in
    let noted = g.N.Notes.noted c.args.node.now.notes in (
      [],
      stands_first raising c.args.node.now.state [] given noted (Some []) (Some (string_bytes c.args.room.now.waiting)) c.requires.none,
      c.requires.kept,
      omega arith,
      λ keeps. keeps,
      grows_refl (g.N.Notes.synced c.args.node.now.notes),
      c.requires.ready,
    )

pub do_next-requires-clause-ready : goal.do_next-requires-clause-ready
do_next-requires-clause-ready g c κs within = c.loop.invariant.6

pub returns-then-not-branch-clause-done : goal.returns-then-not-branch-clause-done
returns-then-not-branch-clause-done g c =
    let raising = a_keeper_gives g.K.Keeper.last g.K.Keeper.raise_gives in
    let first = c.args.node.now.state in
    let mid = c.loop.node.state in
    let last = c.do_next.new.node.state in
    let given = g.L.LineSource.left c.args.source.now in
    let now = g.L.LineSource.left c.loop.source in
    let left = g.L.LineSource.left c.do_next.new.source in
    let noted_old = g.N.Notes.noted c.args.node.now.notes in
    let noted_mid = g.N.Notes.noted c.loop.node.notes in
    let noted_new = g.N.Notes.noted c.do_next.new.node.notes in
    let waited = Some (string_bytes c.loop.room.waiting) in
    let waiting = Some (string_bytes c.do_next.new.room.waiting) in
    let so_far = c.loop.invariant in
    let next = subst (HasAnsweredNext raising mid last now left noted_mid noted_new waited waiting) c.if-not-branch.true c.in_ok-do_next.ensures.done in
    record { lines = so_far.0; mid = mid; now = now; noted = noted_mid; written = waited; stands = so_far.1; last = next }

pub returns-then-not-goes_on-clause-done : goal.returns-then-not-goes_on-clause-done
returns-then-not-goes_on-clause-done g c =
    let raising = a_keeper_gives g.K.Keeper.last g.K.Keeper.raise_gives in
    let first = c.args.node.now.state in
    let mid = c.loop.node.state in
    let last = c.do_next.new.node.state in
    let given = g.L.LineSource.left c.args.source.now in
    let now = g.L.LineSource.left c.loop.source in
    let left = g.L.LineSource.left c.do_next.new.source in
    let noted_old = g.N.Notes.noted c.args.node.now.notes in
    let noted_mid = g.N.Notes.noted c.loop.node.notes in
    let noted_new = g.N.Notes.noted c.do_next.new.node.notes in
    let waited = Some (string_bytes c.loop.room.waiting) in
    let waiting = Some (string_bytes c.do_next.new.room.waiting) in
    let so_far = c.loop.invariant in
    let next = subst (HasAnsweredNext raising mid last now left noted_mid noted_new waited waiting) c.if-not-branch.false c.in_ok-do_next.ensures.done in
    (so_far.0 ++ next.line ∷ [], stands_next raising first mid last [] so_far.0 given now left noted_old noted_mid noted_new (Some []) waited waiting so_far.1 next)

pub returns-clause-done : goal.returns-clause-done
returns-clause-done g c = (c.loop.invariant.0, c.loop.invariant.1)

pub loop-preserved : goal.loop-preserved
loop-preserved g c =
    let raising = a_keeper_gives g.K.Keeper.last g.K.Keeper.raise_gives in
    let first = c.args.node.now.state in
    let mid = c.loop.node.state in
    let last = c.do_next.new.node.state in
    let given = g.L.LineSource.left c.args.source.now in
    let now = g.L.LineSource.left c.loop.source in
    let left = g.L.LineSource.left c.do_next.new.source in
    let noted_old = g.N.Notes.noted c.args.node.now.notes in
    let noted_mid = g.N.Notes.noted c.loop.node.notes in
    let noted_new = g.N.Notes.noted c.do_next.new.node.notes in
    let waited = Some (string_bytes c.loop.room.waiting) in
    let waiting = Some (string_bytes c.do_next.new.room.waiting) in
    let so_far = c.loop.invariant in
    let next = subst (HasAnsweredNext raising mid last now left noted_mid noted_new waited waiting) c.if-not-branch.false c.in_ok-do_next.ensures.done in (
      so_far.0 ++ next.line ∷ [],
      stands_next raising first mid last [] so_far.0 given now left noted_old noted_mid noted_new (Some []) waited waiting so_far.1 next,
      c.in_ok-do_next.ensures.kept,
      omega (arith, so_far.3, c.in_ok-do_next.ensures.few),
      λ keeps. c.in_ok-do_next.ensures.keeps tt (so_far.4 keeps),
      grows_trans (g.N.Notes.synced c.args.node.now.notes) (g.N.Notes.synced c.loop.node.notes) (g.N.Notes.synced c.do_next.new.node.notes) so_far.5 c.in_ok-do_next.ensures.stays,
      λ later. c.requires.at_hand c.do_next.new.source later (g.W.Write.contents c.args.out.now) (c.goes_on.ensures c.if-not-goes_on.false),
    )

pub returns-in_err-do_next-clause-stopped : goal.returns-in_err-do_next-clause-stopped
returns-in_err-do_next-clause-stopped g c =
    let raising = a_keeper_gives g.K.Keeper.last g.K.Keeper.raise_gives in
    let first = c.args.node.now.state in
    let mid = c.loop.node.state in
    let last = c.do_next.new.node.state in
    let given = g.L.LineSource.left c.args.source.now in
    let now = g.L.LineSource.left c.loop.source in
    let left = g.L.LineSource.left c.do_next.new.source in
    let noted_old = g.N.Notes.noted c.args.node.now.notes in
    let noted_mid = g.N.Notes.noted c.loop.node.notes in
    let noted_new = g.N.Notes.noted c.do_next.new.node.notes in
    let waited = Some (string_bytes c.loop.room.waiting) in
    let waiting = Some (string_bytes c.do_next.new.room.waiting) in
    let so_far = c.loop.invariant in
    let stop = c.in_err-do_next.field-0.0 in
    let behind = string_bytes c.do_next.new.room.waiting in
    kept_fault stop (StopsBehindDone raising first given left noted_old noted_new behind) c.from_residual.result c.from_residual.ensures.1
    (record {
      lines = so_far.0;
      last = mid;
      now = now;
      noted = noted_mid;
      stands = subst (λ w. Stands raising first mid [] so_far.0 given now noted_old noted_mid (Some []) (Some w)) (sym c.in_err-do_next.ensures.waits) so_far.1;
      stops = c.in_err-do_next.ensures.stopped;
    })

pub returns-then-not-branch-clause-stays : goal.returns-then-not-branch-clause-stays
returns-then-not-branch-clause-stays g c =
    grows_trans (g.N.Notes.synced c.args.node.now.notes) (g.N.Notes.synced c.loop.node.notes) (g.N.Notes.synced c.do_next.new.node.notes) c.loop.invariant.5 c.in_ok-do_next.ensures.stays

pub returns-then-not-goes_on-clause-stays : goal.returns-then-not-goes_on-clause-stays
returns-then-not-goes_on-clause-stays g c =
    grows_trans (g.N.Notes.synced c.args.node.now.notes) (g.N.Notes.synced c.loop.node.notes) (g.N.Notes.synced c.do_next.new.node.notes) c.loop.invariant.5 c.in_ok-do_next.ensures.stays

pub returns-in_err-do_next-clause-stays : goal.returns-in_err-do_next-clause-stays
returns-in_err-do_next-clause-stays g c =
    grows_trans (g.N.Notes.synced c.args.node.now.notes) (g.N.Notes.synced c.loop.node.notes) (g.N.Notes.synced c.do_next.new.node.notes) c.loop.invariant.5 c.in_err-do_next.ensures.stays

pub returns-then-not-branch-clause-keeps : goal.returns-then-not-branch-clause-keeps
returns-then-not-branch-clause-keeps g c = λ done keeps. c.in_ok-do_next.ensures.keeps tt (c.loop.invariant.4 keeps)

pub returns-then-not-goes_on-clause-keeps : goal.returns-then-not-goes_on-clause-keeps
returns-then-not-goes_on-clause-keeps g c = λ done keeps. c.in_ok-do_next.ensures.keeps tt (c.loop.invariant.4 keeps)

pub returns-clause-keeps : goal.returns-clause-keeps
returns-clause-keeps g c = λ done. c.loop.invariant.4

pub returns-in_err-do_next-clause-keeps : goal.returns-in_err-do_next-clause-keeps
returns-in_err-do_next-clause-keeps g c = λ unfailed keeps.
    c.in_err-do_next.ensures.keeps (same_failure Bool c.in_err-do_next.field-0.0 c.from_residual.result c.from_residual.ensures.1 unfailed) (c.loop.invariant.4 keeps)

pub returns-in_err-do_next-clause-rest : goal.returns-in_err-do_next-clause-rest
returns-in_err-do_next-clause-rest g c =
    let old = KeepsCore (g.K.Keeper.kept_gives c.args.node.now.keeper) c.args.node.now.state.core in
    let new = KeepsAllButOne (g.K.Keeper.kept_gives c.do_next.new.node.keeper) c.do_next.new.node.state.core in
    on_err {P = old → new} _ (λ keeps. c.in_err-do_next.ensures.rest (c.loop.invariant.4 keeps))
