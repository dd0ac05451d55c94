-- A raise leaves what is told, and a restart makes nothing.
use Rattle.std.proofs.Common.{arith, ◌∙◌, ap, sym, subst}
use Rattle.node_reports.specs.Stations.{StationValue}
use Rattle.node.specs.Steps.Keeping.{Keeps}
use Rattle.node.proofs.Kept.{keeps_raised, keeps_restarted}
use Rattle.node.proofs.threads.restarting.restart_station.Goals as goal

pub returns-in_default-clause-keeps : goal.returns-in_default-clause-keeps
returns-in_default-clause-keeps g c = λ noted kept.
    let before = g.K.Keeper.kept_gives c.args.keeper.now in
    let now = g.K.Keeper.kept_gives c.raise.new.self in
    let last = g.K.Keeper.last c.args.keeper.now in
    let next = g.K.Keeper.last c.raise.new.self in
    let plant = c.args.station.core.plant in
    let raised = c.in_default.ensures.raised in
    keeps_raised last next before now plant noted c.make_room.new.self.journal (omega (arith, raised)) c.raise.ensures.keeps
    (subst (λ (s : StationValue). Keeps last before plant noted s.journal) (sym c.make_room.ensures) kept)

pub returns-in-Ok-restart-clause-keeps : goal.returns-in-Ok-restart-clause-keeps
returns-in-Ok-restart-clause-keeps g c = λ noted kept.
    let before = g.K.Keeper.kept_gives c.args.keeper.now in
    let now = g.K.Keeper.kept_gives c.raise.new.self in
    let last = g.K.Keeper.last c.args.keeper.now in
    let next = g.K.Keeper.last c.raise.new.self in
    let plant = c.args.station.core.plant in
    let above = c.in-Ok.ensures.raised.0 in
    let is = c.in-Ok.ensures.raised.1 in
    subst (Keeps next now plant noted) (sym c.in-Ok-restart.ensures.ok.noted)
    (keeps_restarted last next before now plant noted c.make_room.new.self.journal c.args.ticket c.in-Ok.incarnation (omega (arith, above, is)) is c.raise.ensures.keeps
    (subst (λ (s : StationValue). Keeps last before plant noted s.journal) (sym c.make_room.ensures) kept))

pub returns-in-Err-clause-keeps : goal.returns-in-Err-clause-keeps
returns-in-Err-clause-keeps g c = λ noted kept.
    let before = g.K.Keeper.kept_gives c.args.keeper.now in
    let now = g.K.Keeper.kept_gives c.raise.new.self in
    let last = g.K.Keeper.last c.args.keeper.now in
    let next = g.K.Keeper.last c.raise.new.self in
    let plant = c.args.station.core.plant in
    let above = c.in-Ok.ensures.raised.0 in
    let is = c.in-Ok.ensures.raised.1 in
    subst (Keeps next now plant noted) (sym (c.into_journal.ensures.same ∙ ap (λ (s : StationValue). s.journal) c.in-Err.ensures.err))
    (keeps_raised last next before now plant noted c.make_room.new.self.journal (omega (arith, above, is)) c.raise.ensures.keeps
    (subst (λ (s : StationValue). Keeps last before plant noted s.journal) (sym c.make_room.ensures) kept))
