use Rattle.std.proofs.Common.{Some, sym, ◌∙◌, subst}
use Rattle.std.specs.Prelude.{not, string_bytes}
use Rattle.lists.proofs.Results.{kept_fault}
use Rattle.live_node.specs.NodeAnswers.{a_keeper_gives}
use Rattle.live_node.specs.Keeping.{KeepsAllButOne, KeepsCore}
use Rattle.live_node.specs.Steps.Growing.{grows_trans}
use Rattle.text_lines.proofs.Sending.{on_err}
use Rattle.node_loop.specs.Steps.Following.{is_going_on, Follows, HasTurned, StopsMaking}
use Rattle.node_loop.proofs.Turning.{turned_both, stops_behind}
use Rattle.node_loop.proofs.looping.turn.Goals as goal

pub returns-then-is_over-clause-turned : goal.returns-then-is_over-clause-turned
returns-then-is_over-clause-turned g c =
    let raising = a_keeper_gives g.K.Keeper.last g.K.Keeper.raise_gives in
    let old = c.args.node.now in
    let new = c.look.new.node in
    let given = g.S.TurnSource.given c.args.source.now in
    let left = g.S.TurnSource.given c.look.new.source in
    let noted_old = g.N.Notes.noted old.node.notes in
    let noted_new = g.N.Notes.noted new.node.notes in
    let from = Some (string_bytes c.args.room.now.waiting) in
    let to = Some (string_bytes c.look.new.room.waiting) in
    subst (λ over. HasTurned raising c.args.ending old new given left noted_old noted_new from to (not over)) (sym c.is_over.ensures ∙ c.if-is_over.true) c.in_ok-looked.ensures.looked

pub returns-clause-turned : goal.returns-clause-turned
returns-clause-turned g c =
    let raising = a_keeper_gives g.K.Keeper.last g.K.Keeper.raise_gives in
    let old = c.args.node.now in
    let mid = c.look.new.node in
    let new = c.take_both.new.node in
    let given = g.S.TurnSource.given c.args.source.now in
    let now = g.S.TurnSource.given c.look.new.source in
    let left = g.S.TurnSource.given c.take_both.new.source in
    let noted_old = g.N.Notes.noted old.node.notes in
    let noted_mid = g.N.Notes.noted mid.node.notes in
    let noted_new = g.N.Notes.noted new.node.notes in
    let from = Some (string_bytes c.args.room.now.waiting) in
    let written = Some (string_bytes c.look.new.room.waiting) in
    let to = Some (string_bytes c.take_both.new.room.waiting) in
    let looked = subst (λ over. HasTurned raising c.args.ending old mid given now noted_old noted_mid from written (not over)) (sym c.is_over.ensures ∙ c.if-is_over.false) c.in_ok-looked.ensures.looked in
    let took = subst (λ going. Follows raising c.args.ending mid new going now left noted_mid noted_new written to) (sym c.turned_of.ensures) c.in_ok-took.ensures.taken in
    turned_both raising c.args.ending old mid new (is_going_on c.turned_of.result) given now left noted_old noted_mid noted_new from written to looked took

pub returns-in_err-took-clause-stopped : goal.returns-in_err-took-clause-stopped
returns-in_err-took-clause-stopped g c =
    let raising = a_keeper_gives g.K.Keeper.last g.K.Keeper.raise_gives in
    let old = c.args.node.now in
    let mid = c.look.new.node in
    let new = c.take_both.new.node in
    let given = g.S.TurnSource.given c.args.source.now in
    let now = g.S.TurnSource.given c.look.new.source in
    let left = g.S.TurnSource.given c.take_both.new.source in
    let noted_old = g.N.Notes.noted old.node.notes in
    let noted_mid = g.N.Notes.noted mid.node.notes in
    let noted_new = g.N.Notes.noted new.node.notes in
    let from = Some (string_bytes c.args.room.now.waiting) in
    let written = Some (string_bytes c.look.new.room.waiting) in
    let to = Some (string_bytes c.take_both.new.room.waiting) in
    let stop = c.in_err-took.field-0.0 in
    let looked = subst (λ over. HasTurned raising c.args.ending old mid given now noted_old noted_mid from written (not over)) (sym c.is_over.ensures ∙ c.if-is_over.false) c.in_ok-looked.ensures.looked in
    kept_fault stop (λ s. StopsMaking raising c.args.ending old given left noted_old noted_new from to s) c.from_residual-in_err-took.result c.from_residual-in_err-took.ensures.1
    (stops_behind raising c.args.ending old mid given now left noted_old noted_mid noted_new from written to stop looked c.in_err-took.ensures.stopped)

pub returns-clause-stays : goal.returns-clause-stays
returns-clause-stays g c =
    grows_trans (g.N.Notes.synced c.args.node.now.node.notes) (g.N.Notes.synced c.look.new.node.node.notes) (g.N.Notes.synced c.take_both.new.node.node.notes) c.look.ensures.stays c.take_both.ensures.stays

pub returns-in_err-took-clause-stays : goal.returns-in_err-took-clause-stays
returns-in_err-took-clause-stays g c =
    grows_trans (g.N.Notes.synced c.args.node.now.node.notes) (g.N.Notes.synced c.look.new.node.node.notes) (g.N.Notes.synced c.take_both.new.node.node.notes) c.look.ensures.stays c.take_both.ensures.stays

pub returns-clause-keeps : goal.returns-clause-keeps
returns-clause-keeps g c = λ keeps. c.in_ok-took.ensures.keeps (c.in_ok-looked.ensures.keeps keeps)

pub returns-in_err-took-clause-rest : goal.returns-in_err-took-clause-rest
returns-in_err-took-clause-rest g c =
    let old = KeepsCore (g.K.Keeper.kept_gives c.args.node.now.node.keeper) c.args.node.now.node.state.core in
    let new = KeepsAllButOne (g.K.Keeper.kept_gives c.take_both.new.node.node.keeper) c.take_both.new.node.node.state.core in
    on_err {P = old → new} _ (λ keeps. c.in_err-took.ensures.rest (c.in_ok-looked.ensures.keeps keeps))
