use Rattle.words.proofs.durations.+is_parts.Given as goal

abbrev pub decreases-is_parts : goal.decreases-is_parts
decreases-is_parts l = l.most
