-- The world opens as the journals did.
use Rattle.run_texts.proofs.Replaying.{openings_suit}
use Rattle.run_texts.proofs.replay.replay.Goals as goal

pub is_replayed-requires-clause-opening : goal.is_replayed-requires-clause-opening
is_replayed-requires-clause-opening c =
    rw (c.deref-2.ensures.value, c.in_ok-opening.ensures) (openings_suit c.args.plant.value 4294967295 c.args.journals.now c.requires.journals)
