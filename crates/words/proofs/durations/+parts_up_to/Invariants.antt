use Rattle.words.proofs.durations.+parts_up_to.Given as goal

abbrev pub decreases-parts_up_to : goal.decreases-parts_up_to
decreases-parts_up_to l = l.parts
