use Rattle.std.proofs.Common.{◌≡◌, take}
use Rattle.text_commands.specs.Stores.{stored_places}
use Rattle.text_commands.proofs.stored.ladder_places.Given as goal

abbrev pub invariant-loop-network : goal.invariant-loop-network
invariant-loop-network l = l.places.items ≡ stored_places l.ladder.declarations (take l.network l.ladder.networks)
