use Rattle.std.proofs.Common.{◌≡◌, string_bytes}
use Rattle.text_commands.specs.Chart.{chart_lines}
use Rattle.text_commands.specs.Steps.Testing.{slots_of}
use Rattle.text_commands.proofs.chart.chart_text.Given as goal

abbrev pub invariant-loop-place : goal.invariant-loop-place
invariant-loop-place l = string_bytes l.text ≡ chart_lines l.declarations (slots_of l.states) l.place
