use Rattle.std.proofs.Common.{◌≡◌, ℕ, ◌<◌, false, get_or}
use Rattle.words.specs.Chars.{same_word}
use Rattle.world.proofs.ScheduleWords.{no_resource}
use Rattle.world.proofs.names.resource_named.Given as goal

abbrev pub invariant-loop-k : goal.invariant-loop-k
invariant-loop-k l = (j : ℕ) → j < l.k → same_word l.name (get_or l.plant.resources j no_resource).name ≡ false
