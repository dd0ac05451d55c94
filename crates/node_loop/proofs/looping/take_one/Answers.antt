use Rattle.std.proofs.Common.{◌≡◌, ◌≢◌, ◌++◌, [], Some, subst, sym}
use Rattle.std.specs.Prelude.{string_bytes}
use Rattle.lists.proofs.Results.{kept_fault}
use Rattle.live_node.specs.declared.live_stop.LiveStop.TheVariants.{Node}
use Rattle.live_node.specs.declared.node_stop.NodeStop.TheVariants.{Memory}
use Rattle.live_node.specs.NodeAnswers.{a_keeper_gives}
use Rattle.node_loop.specs.declared.loop_stop.LoopStop.TheVariants.{Live}
use Rattle.node_loop.specs.Given.{Takes}
use Rattle.node_loop.specs.Steps.Following.{goes_on, StopsMaking}
use Rattle.node_loop.proofs.Turning.{follows_one, stops_unmade}
use Rattle.node_loop.proofs.Unmade.{unheld_made}
use Rattle.node_loop.proofs.looping.take_one.Goals as goal

pub returns-in_err-push_answer-clause-stopped : goal.returns-in_err-push_answer-clause-stopped
returns-in_err-push_answer-clause-stopped g c =
    let raising = a_keeper_gives g.K.Keeper.last g.K.Keeper.raise_gives in
    let old = c.args.node.now in
    let given = g.S.TurnSource.given c.args.source.now in
    let left = g.S.TurnSource.given c.take.new.self in
    let noted_old = g.N.Notes.noted old.node.notes in
    let noted_new = g.N.Notes.noted c.push_answer.new.node.node.notes in
    let from = Some (string_bytes c.args.room.now.waiting) in
    let stop = c.in_err-push_answer.field-0.0 in
    kept_fault stop (λ s. StopsMaking raising c.args.ending old given left noted_old noted_new from from s) c.from_residual.result c.from_residual.ensures.1
    (stops_unmade raising c.args.ending old (Takes c.args.origin c.in-Some.told) given left noted_old noted_new from stop c.in_err-push_answer.ensures.stopped tt c.in-Some.ensures)

pub returns-in_err-hold-clause-stopped : goal.returns-in_err-hold-clause-stopped
returns-in_err-hold-clause-stopped g c =
    let raising = a_keeper_gives g.K.Keeper.last g.K.Keeper.raise_gives in
    let old = c.args.node.now in
    let new = c.push_answer.new.node in
    let turn = Takes c.args.origin c.in-Some.told in
    let given = g.S.TurnSource.given c.args.source.now in
    let left = g.S.TurnSource.given c.take.new.self in
    let noted_old = g.N.Notes.noted old.node.notes in
    let noted_new = g.N.Notes.noted new.node.notes in
    let from = Some (string_bytes c.args.room.now.waiting) in
    let text = string_bytes c.push_answer.new.answer in
    let stop = Live (Node Memory) in
    let some : text ≢ [] = subst (λ t. t ≢ []) c.as_str.ensures.value c.in_err-hold.ensures.some in
    let unmade = unheld_made raising old new turn noted_old noted_new text c.in_ok-push_answer.ensures.made some in
    kept_fault stop (λ s. StopsMaking raising c.args.ending old given left noted_old noted_new from (Some (string_bytes c.hold.new.waiting)) s) c.from_residual-in_err-hold.result c.from_residual-in_err-hold.ensures.1
    (subst (λ w. StopsMaking raising c.args.ending old given left noted_old noted_new from (Some w) stop) (sym c.in_err-hold.ensures.same)
    (stops_unmade raising c.args.ending old turn given left noted_old noted_new from stop unmade tt c.in-Some.ensures))

pub returns-clause-taken : goal.returns-clause-taken
returns-clause-taken g c =
    let raising = a_keeper_gives g.K.Keeper.last g.K.Keeper.raise_gives in
    let old = c.args.node.now in
    let new = c.push_answer.new.node in
    let text = string_bytes c.push_answer.new.answer in
    let waited = string_bytes c.args.room.now.waiting in
    let waiting = string_bytes c.hold.new.waiting in
    let held = subst (λ t. waiting ≡ waited ++ t) c.as_str.ensures.value c.in_ok-hold.ensures.held in
    follows_one raising c.args.ending old new (Takes c.args.origin c.in-Some.told) (goes_on c.taken_of.result) (g.S.TurnSource.given c.args.source.now) (g.S.TurnSource.given c.take.new.self) (g.N.Notes.noted old.node.notes) (g.N.Notes.noted new.node.notes) (Some waited) (Some waiting) text
    c.in_ok-push_answer.ensures.made tt c.taken_of.ensures c.in-Some.ensures held
