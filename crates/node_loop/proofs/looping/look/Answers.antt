use Rattle.std.proofs.Common.{◌≡◌, ◌≢◌, ◌++◌, ◌<◌, [], Some, arith, refl, subst, sym, true}
use Rattle.std.specs.Prelude.{string_bytes}
use Rattle.lists.proofs.Results.{kept_fault}
use Rattle.live_node.specs.declared.live_stop.LiveStop.TheVariants.{Node}
use Rattle.live_node.specs.declared.node_stop.NodeStop.TheVariants.{Memory}
use Rattle.live_node.specs.NodeAnswers.{a_keeper_gives}
use Rattle.node_loop.specs.declared.loop_stop.LoopStop.TheVariants.{Live}
use Rattle.node_loop.specs.Given.{Reads}
use Rattle.node_loop.specs.Turns.{moment_of}
use Rattle.node_loop.specs.Steps.Following.{StopsMaking}
use Rattle.node_loop.proofs.Turning.{follows_one, stops_unmade}
use Rattle.node_loop.proofs.Unmade.{unheld_made}
use Rattle.node_loop.proofs.looping.look.Goals as goal

pub returns-in_err-evaluated-clause-stopped : goal.returns-in_err-evaluated-clause-stopped
returns-in_err-evaluated-clause-stopped g c =
    let raising = a_keeper_gives g.K.Keeper.last g.K.Keeper.raise_gives in
    let old = c.args.node.now in
    let given = g.S.TurnSource.given c.args.source.now in
    let left = g.S.TurnSource.given c.reading.new.self in
    let noted_old = g.N.Notes.noted old.node.notes in
    let noted_new = g.N.Notes.noted c.push_evaluation.new.node.node.notes in
    let from = Some (string_bytes c.args.room.now.waiting) in
    let stop = c.in_err-evaluated.field-0.0 in
    let before : c.in_ok-reading.reading < moment_of c.args.ending.until = omega (arith, c.if-reading-moment.false, c.moment.ensures) in
    kept_fault stop (λ s. StopsMaking raising c.args.ending old given left noted_old noted_new from from s) c.from_residual-in_err-evaluated.result c.from_residual-in_err-evaluated.ensures.1
    (stops_unmade raising c.args.ending old (Reads c.in_ok-reading.reading) given left noted_old noted_new from stop c.in_err-evaluated.ensures.stopped before c.in_ok-reading.ensures.ok)

pub returns-in_err-hold-clause-stopped : goal.returns-in_err-hold-clause-stopped
returns-in_err-hold-clause-stopped g c =
    let raising = a_keeper_gives g.K.Keeper.last g.K.Keeper.raise_gives in
    let old = c.args.node.now in
    let new = c.push_evaluation.new.node in
    let turn = Reads c.in_ok-reading.reading in
    let given = g.S.TurnSource.given c.args.source.now in
    let left = g.S.TurnSource.given c.reading.new.self in
    let noted_old = g.N.Notes.noted old.node.notes in
    let noted_new = g.N.Notes.noted new.node.notes in
    let from = Some (string_bytes c.args.room.now.waiting) in
    let text = string_bytes c.push_evaluation.new.answer in
    let stop = Live (Node Memory) in
    let before : c.in_ok-reading.reading < moment_of c.args.ending.until = omega (arith, c.if-reading-moment.false, c.moment.ensures) in
    let some : text ≢ [] = subst (λ t. t ≢ []) c.as_str.ensures.value c.in_err-hold.ensures.some in
    let unmade = unheld_made raising old new turn noted_old noted_new text c.in_ok-evaluated.ensures.made some in
    kept_fault stop (λ s. StopsMaking raising c.args.ending old given left noted_old noted_new from (Some (string_bytes c.hold.new.waiting)) s) c.from_residual-in_err-hold.result c.from_residual-in_err-hold.ensures.1
    (subst (λ w. StopsMaking raising c.args.ending old given left noted_old noted_new from (Some w) stop) (sym c.in_err-hold.ensures.same)
    (stops_unmade raising c.args.ending old turn given left noted_old noted_new from stop unmade before c.in_ok-reading.ensures.ok))

pub returns-then-evaluated-clause-looked : goal.returns-then-evaluated-clause-looked
returns-then-evaluated-clause-looked g c =
    let raising = a_keeper_gives g.K.Keeper.last g.K.Keeper.raise_gives in
    let old = c.args.node.now in
    let new = c.push_evaluation.new.node in
    let text = string_bytes c.push_evaluation.new.answer in
    let waited = string_bytes c.args.room.now.waiting in
    let waiting = string_bytes c.hold.new.waiting in
    let before : c.in_ok-reading.reading < moment_of c.args.ending.until = omega (arith, c.if-reading-moment.false, c.moment.ensures) in
    let held = subst (λ t. waiting ≡ waited ++ t) c.as_str.ensures.value c.in_ok-hold.ensures.held in
    follows_one raising c.args.ending old new (Reads c.in_ok-reading.reading) true (g.S.TurnSource.given c.args.source.now) (g.S.TurnSource.given c.reading.new.self) (g.N.Notes.noted old.node.notes) (g.N.Notes.noted new.node.notes) (Some waited) (Some waiting) text
    c.in_ok-evaluated.ensures.made before refl c.in_ok-reading.ensures.ok held

pub returns-else-evaluated-clause-looked : goal.returns-else-evaluated-clause-looked
returns-else-evaluated-clause-looked g c =
    let raising = a_keeper_gives g.K.Keeper.last g.K.Keeper.raise_gives in
    let old = c.args.node.now in
    let new = c.push_evaluation.new.node in
    let text = string_bytes c.push_evaluation.new.answer in
    let waited = string_bytes c.args.room.now.waiting in
    let waiting = string_bytes c.hold.new.waiting in
    let before : c.in_ok-reading.reading < moment_of c.args.ending.until = omega (arith, c.if-reading-moment.false, c.moment.ensures) in
    let held = subst (λ t. waiting ≡ waited ++ t) c.as_str.ensures.value c.in_ok-hold.ensures.held in
    follows_one raising c.args.ending old new (Reads c.in_ok-reading.reading) true (g.S.TurnSource.given c.args.source.now) (g.S.TurnSource.given c.reading.new.self) (g.N.Notes.noted old.node.notes) (g.N.Notes.noted new.node.notes) (Some waited) (Some waiting) text
    c.in_ok-evaluated.ensures.made before refl c.in_ok-reading.ensures.ok held
