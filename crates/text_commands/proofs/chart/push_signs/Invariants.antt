use Rattle.std.proofs.Common.{◌≡◌, ◌++◌, None, take, string_bytes}
use Rattle.text_commands.specs.Chart.{signs_of, values_at}
use Rattle.text_commands.specs.Steps.Testing.{last_of, slots_of}
use Rattle.text_commands.proofs.chart.push_signs.Given as goal

abbrev pub invariant-loop-state : goal.invariant-loop-state
invariant-loop-state l = record {
  text : string_bytes l.line ≡ string_bytes l.initial.line ++ signs_of None (values_at l.place (slots_of (take l.state-index l.states)));
  last : l.before ≡ last_of None (values_at l.place (slots_of (take l.state-index l.states)));
}
