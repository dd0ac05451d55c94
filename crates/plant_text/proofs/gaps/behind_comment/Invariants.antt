use Rattle.std.proofs.Common.{◌≡◌, length}
use Rattle.plant_text.specs.Steps.Gaps.{behind_comment}
use Rattle.plant_text.proofs.gaps.behind_comment.Given as goal

abbrev pub invariant-chars : goal.invariant-chars
invariant-chars l = behind_comment l.rest ≡ behind_comment l.text

abbrev pub decreases-chars : goal.decreases-chars
decreases-chars l = length l.rest
