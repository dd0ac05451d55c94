use Rattle.std.proofs.Common.{◌≡◌, take}
use Rattle.text_commands.specs.Chart.{values_at}
use Rattle.text_commands.specs.Steps.Testing.{slots_of}
use Rattle.text_commands.proofs.tracks.values_at.Given as goal

abbrev pub invariant-loop-state : goal.invariant-loop-state
invariant-loop-state l = l.values.items ≡ values_at l.place (slots_of (take l.state-index l.states))
