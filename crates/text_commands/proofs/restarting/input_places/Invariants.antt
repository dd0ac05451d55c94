use Rattle.std.proofs.Common.{◌≡◌}
use Rattle.text_commands.specs.Restarts.{unstored_to}
use Rattle.text_commands.specs.Stores.{stored_places}
use Rattle.text_commands.proofs.restarting.input_places.Given as goal

abbrev pub invariant-loop-place : goal.invariant-loop-place
invariant-loop-place l = l.places.items ≡ unstored_to (stored_places l.ladder.declarations l.ladder.networks) l.place
