use Rattle.std.proofs.Common.{sym, ◌∙◌}
use Rattle.plant_text.proofs.FoundGaps.{no_comment_end}
use Rattle.plant_text.proofs.gaps.behind_comment.Goals as goal

pub returns : goal.returns
returns c = sym (no_comment_end c.chars.rest.now c.in_default.len_below) ∙ c.chars.invariant
