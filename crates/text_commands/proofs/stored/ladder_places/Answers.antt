use Rattle.text_commands.proofs.Storing.{places_all, places_more}
use Rattle.text_commands.proofs.stored.ladder_places.Goals as goal

pub returns-in_default : goal.returns-in_default
returns-in_default c = places_all c.args.ladder.now.declarations c.args.ladder.now.networks c.loop-network.network _ c.in_default.ensures c.loop-network.invariant

pub loop-network-preserved : goal.loop-network-preserved
loop-network-preserved c =
    places_more c.args.ladder.now.declarations c.args.ladder.now.networks c.loop-network.network c.in-Some.ensures.0 _ _ _ c.in-Some.ensures.1 c.in-Some.ensures.2 c.loop-network.invariant (rw c.declarations.ensures.list at c.in_ok-push_elements.ensures)
