use Rattle.std.proofs.Common.{◌≡◌, take, string_bytes}
use Rattle.std.specs.List.{flat_map}
use Rattle.text_commands.specs.Lines.{line_of}
use Rattle.text_commands.specs.Steps.Testing.{slots_of}
use Rattle.text_commands.proofs.chart.rows_text.Given as goal

abbrev pub invariant-loop-state : goal.invariant-loop-state
invariant-loop-state l = string_bytes l.text ≡ flat_map (line_of l.declarations) (slots_of (take l.state-index l.states))
