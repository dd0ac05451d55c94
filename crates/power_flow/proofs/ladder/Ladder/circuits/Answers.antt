use Rattle.std.proofs.Common.{refl, subst}
use Rattle.power_flow.specs.LadderValue.{LadderValue}
use Rattle.power_flow.specs.Steps.LadderCircuits.{AreCircuitsOf}
use Rattle.power_flow.proofs.ladder.Ladder.circuits.Goals as goal

pub returns : goal.returns
returns c =
    let inside = c.self.inside in
    let Are : LadderValue → Type 0 = λ l. AreCircuitsOf l c.as_slice.result.now in
    subst Are c.self.view_is (rw c.as_slice.ensures.value (record {
      rails = inside.rails.items;
      rows = inside.rows;
      networks = refl;
      made = c.self.invariant.0;
      room = c.self.invariant.1;
      wide = c.self.invariant.3;
    }))
