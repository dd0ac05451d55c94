use Rattle.ladder_gates.proofs.coil_stores.store_placed.Goals as goal

pub returns-in-Some : goal.returns-in-Some
returns-in-Some c = rw c.in-Some.is c.store_at.ensures
