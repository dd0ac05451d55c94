use Rattle.std.proofs.Common.{◌≡◌, take}
use Rattle.text_commands.specs.Chart.{name_width}
use Rattle.text_commands.proofs.chart.name_width.Given as goal

abbrev pub invariant-loop-place : goal.invariant-loop-place
invariant-loop-place l = l.most ≡ name_width (take l.place l.declarations)
