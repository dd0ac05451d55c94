use Rattle.network.proofs.Spots.{finds_rail}
use Rattle.network.proofs.places.rails.Rails.has.Goals as goal

pub returns : goal.returns
returns c = rw (← c.self.view_is) (finds_rail c.self.inside.places.now c.self.inside.index c.self.invariant c.args.place c.find.result c.find.ensures c.is_some.result c.is_some.ensures)
