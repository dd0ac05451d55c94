use Rattle.std.proofs.Common.{sym, ◌∙◌}
use Rattle.ladder_text.proofs.Words.NearWords.{found_near}
use Rattle.ladder_text.proofs.names.names_above.overlap_near.Goals as goal

pub returns-then-is_free_before : goal.returns-then-is_free_before
returns-then-is_free_before c = sym (found_near c.args.span.now c.args.above.now c.args.near c.requires c.if-near-above.true (sym c.overlap.ensures ∙ c.if-overlap.true) (c.is_free_before.ensures c.if-is_free_before.true))
