use Rattle.std.proofs.Common.{Some, sym, ◌∙◌, subst}
use Rattle.std.specs.Prelude.{string_bytes}
use Rattle.lists.proofs.Results.{kept_fault}
use Rattle.live_node.specs.NodeAnswers.{a_keeper_gives}
use Rattle.live_node.specs.Keeping.{KeepsAllButOne, KeepsCore}
use Rattle.live_node.specs.Steps.Growing.{grows_trans}
use Rattle.text_lines.proofs.Sending.{on_err}
use Rattle.node_loop.specs.Steps.Following.{Follows, StopsMaking}
use Rattle.node_loop.proofs.Turning.{follows_both, stops_behind}
use Rattle.node_loop.proofs.looping.take_both.Goals as goal

pub returns-then-not-goes_on-clause-taken : goal.returns-then-not-goes_on-clause-taken
returns-then-not-goes_on-clause-taken g c =
    let raising = a_keeper_gives g.K.Keeper.last g.K.Keeper.raise_gives in
    let old = c.args.node.now in
    let new = c.take_one.new.node in
    let given = g.S.TurnSource.given c.args.source.now in
    let left = g.S.TurnSource.given c.take_one.new.source in
    let noted_old = g.N.Notes.noted old.node.notes in
    let noted_new = g.N.Notes.noted new.node.notes in
    let from = Some (string_bytes c.args.room.now.waiting) in
    let to = Some (string_bytes c.take_one.new.room.waiting) in
    subst (λ going. Follows raising c.args.ending old new going given left noted_old noted_new from to) (sym c.goes_on.ensures ∙ c.if-not-goes_on.true) c.in_ok-first.ensures.taken

pub returns-clause-taken : goal.returns-clause-taken
returns-clause-taken g c =
    let raising = a_keeper_gives g.K.Keeper.last g.K.Keeper.raise_gives in
    let old = c.args.node.now in
    let mid = c.take_one.new.node in
    let new = c.take_one-2.new.node in
    let given = g.S.TurnSource.given c.args.source.now in
    let now = g.S.TurnSource.given c.take_one.new.source in
    let left = g.S.TurnSource.given c.take_one-2.new.source in
    let noted_old = g.N.Notes.noted old.node.notes in
    let noted_mid = g.N.Notes.noted mid.node.notes in
    let noted_new = g.N.Notes.noted new.node.notes in
    let from = Some (string_bytes c.args.room.now.waiting) in
    let written = Some (string_bytes c.take_one.new.room.waiting) in
    let to = Some (string_bytes c.take_one-2.new.room.waiting) in
    let first = subst (λ going. Follows raising c.args.ending old mid going given now noted_old noted_mid from written) (sym c.goes_on.ensures ∙ c.if-not-goes_on.false) c.in_ok-first.ensures.taken in
    let second = subst (λ going. Follows raising c.args.ending mid new going now left noted_mid noted_new written to) (sym c.and.ensures) c.in_ok-second.ensures.taken in
    follows_both raising c.args.ending old mid new _ given now left noted_old noted_mid noted_new from written to first second

pub returns-in_err-second-clause-stopped : goal.returns-in_err-second-clause-stopped
returns-in_err-second-clause-stopped g c =
    let raising = a_keeper_gives g.K.Keeper.last g.K.Keeper.raise_gives in
    let old = c.args.node.now in
    let mid = c.take_one.new.node in
    let new = c.take_one-2.new.node in
    let given = g.S.TurnSource.given c.args.source.now in
    let now = g.S.TurnSource.given c.take_one.new.source in
    let left = g.S.TurnSource.given c.take_one-2.new.source in
    let noted_old = g.N.Notes.noted old.node.notes in
    let noted_mid = g.N.Notes.noted mid.node.notes in
    let noted_new = g.N.Notes.noted new.node.notes in
    let from = Some (string_bytes c.args.room.now.waiting) in
    let written = Some (string_bytes c.take_one.new.room.waiting) in
    let to = Some (string_bytes c.take_one-2.new.room.waiting) in
    let stop = c.in_err-second.field-0.0 in
    let first = subst (λ going. Follows raising c.args.ending old mid going given now noted_old noted_mid from written) (sym c.goes_on.ensures ∙ c.if-not-goes_on.false) c.in_ok-first.ensures.taken in
    kept_fault stop (λ s. StopsMaking raising c.args.ending old given left noted_old noted_new from to s) c.from_residual-in_err-second.result c.from_residual-in_err-second.ensures.1
    (stops_behind raising c.args.ending old mid given now left noted_old noted_mid noted_new from written to stop first c.in_err-second.ensures.stopped)

pub returns-clause-keeps : goal.returns-clause-keeps
returns-clause-keeps g c = λ keeps. c.in_ok-second.ensures.keeps (c.in_ok-first.ensures.keeps keeps)

pub returns-in_err-second-clause-rest : goal.returns-in_err-second-clause-rest
returns-in_err-second-clause-rest g c =
    let old = KeepsCore (g.K.Keeper.kept_gives c.args.node.now.node.keeper) c.args.node.now.node.state.core in
    let new = KeepsAllButOne (g.K.Keeper.kept_gives c.take_one-2.new.node.node.keeper) c.take_one-2.new.node.node.state.core in
    on_err {P = old → new} _ (λ keeps. c.in_err-second.ensures.rest (c.in_ok-first.ensures.keeps keeps))

pub returns-clause-stays : goal.returns-clause-stays
returns-clause-stays g c =
    grows_trans (g.N.Notes.synced c.args.node.now.node.notes) (g.N.Notes.synced c.take_one.new.node.node.notes) (g.N.Notes.synced c.take_one-2.new.node.node.notes) c.take_one.ensures.stays c.take_one-2.ensures.stays

pub returns-in_err-second-clause-stays : goal.returns-in_err-second-clause-stays
returns-in_err-second-clause-stays g c =
    grows_trans (g.N.Notes.synced c.args.node.now.node.notes) (g.N.Notes.synced c.take_one.new.node.node.notes) (g.N.Notes.synced c.take_one-2.new.node.node.notes) c.take_one.ensures.stays c.take_one-2.ensures.stays
