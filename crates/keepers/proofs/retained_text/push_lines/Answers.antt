-- One more line.
use Rattle.std.proofs.Common.{rules}
use Rattle.keepers.proofs.ReadTexts.{lines_none, lines_more, lines_all}
use Rattle.keepers.proofs.retained_text.push_lines.Goals as goal

pub loop-k-init : goal.loop-k-init
loop-k-init c = search (rules, lines_none)

pub loop-k-preserved : goal.loop-k-preserved
loop-k-preserved c = search (rules, lines_more)

pub returns : goal.returns
returns c = search (rules, lines_all)
