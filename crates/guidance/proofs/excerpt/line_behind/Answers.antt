use Rattle.std.proofs.lemmas.Iterator.Splits.{YieldsList-from_lines}
use Rattle.std.proofs.lemmas.Iterator.Consumers.{nth_from_yields_List}
use Rattle.guidance.proofs.excerpt.line_behind.Goals as goal

pub returns : goal.returns
returns c = nth_from_yields_List _ _ c.args.before c.nth.ensures.ran (YieldsList-from_lines c.args.text.now (cc))
