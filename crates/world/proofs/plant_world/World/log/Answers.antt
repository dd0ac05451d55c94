-- The log of a world is consistent, and fits entry by entry: its invariant has the run and the number of first incarnations.
use Rattle.std.proofs.Common.{reverse, subst}
use Rattle.task_codes.specs.CodeValue.{lists_of}
use Rattle.world.specs.History.{Setting}
use Rattle.world.specs.World.{WorldValue}
use Rattle.book.specs.Fits.{AllFit}
use Rattle.world.specs.Consistent.{IsConsistent}
use Rattle.world.specs.Theorem.{IsDataConsistent}
use Rattle.world.proofs.Consistency.Places.{run-consistent}
use Rattle.world.proofs.Consistency.Entered.{run-fits}
use Rattle.world.proofs.Consistency.Makings.{consistency-theorem}
use Rattle.world.proofs.plant_world.World.log.Goals as goal

pub returns-clause-consistent : goal.returns-clause-consistent
returns-clause-consistent c =
    let s : Setting = record { plant = c.self.inside.plant.value; first = c.self.inside.first.items; opening = lists_of c.self.inside.opening.items; max_number = c.self.inside.max_number } in
    subst (λ (w : WorldValue). IsConsistent w.setting.plant (reverse w.log)) c.self.view_is
    (run-consistent c.takes_never_fall.ensures s c.self.inside.events.items c.self.inside.log.items c.self.invariant.logged)

pub returns-clause-fit : goal.returns-clause-fit
returns-clause-fit c =
    let s : Setting = record { plant = c.self.inside.plant.value; first = c.self.inside.first.items; opening = lists_of c.self.inside.opening.items; max_number = c.self.inside.max_number } in
    subst (λ (w : WorldValue). AllFit w.setting.first (reverse w.log)) c.self.view_is
    (run-fits s c.self.inside.events.items c.self.inside.log.items c.self.invariant.firsts c.self.invariant.logged)

pub returns-clause-data : goal.returns-clause-data
returns-clause-data c =
    let s : Setting = record { plant = c.self.inside.plant.value; first = c.self.inside.first.items; opening = lists_of c.self.inside.opening.items; max_number = c.self.inside.max_number } in
    subst (λ (w : WorldValue). IsDataConsistent w.setting w.events w.log) c.self.view_is
    (consistency-theorem c.takes_never_fall.ensures s c.self.inside.events.items c.self.inside.log.items c.self.invariant.logged)
