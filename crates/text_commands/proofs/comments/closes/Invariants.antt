use Rattle.std.proofs.Common.{◌≡◌, length}
use Rattle.text_commands.specs.Comments.{closes}
use Rattle.text_commands.proofs.comments.closes.Given as goal

abbrev pub invariant-loop-rest : goal.invariant-loop-rest
invariant-loop-rest l = closes l.rest ≡ closes l.fn.behind

abbrev pub decreases-loop-rest : goal.decreases-loop-rest
decreases-loop-rest l = length l.rest
