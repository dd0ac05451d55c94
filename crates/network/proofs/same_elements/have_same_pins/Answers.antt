use Rattle.lists.proofs.Alike.{equal_as_told}
use Rattle.network.proofs.same_elements.have_same_pins.Goals as goal

pub returns : goal.returns
returns c = equal_as_told _ _ _ c.are_same.ensures (λ x y told answer. rw (← answer.shows.0, ← answer.shows.1) answer.says.met)
