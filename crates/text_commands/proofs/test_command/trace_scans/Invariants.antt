use Rattle.std.proofs.Common.{◌≡◌, length}
use Rattle.power_flow.specs.LadderValue.{Fits}
use Rattle.text_commands.specs.Trace.{IsTrace}
use Rattle.text_commands.specs.Steps.Testing.{slots_of}
use Rattle.text_commands.proofs.test_command.trace_scans.Given as goal

abbrev pub invariant-loop-k : goal.invariant-loop-k
invariant-loop-k l = record {
  fits : Fits l.ladder l.state;
  trace : IsTrace l.ladder.declarations l.ladder.networks l.dt l.given (slots_of l.states.items) l.state.slots l.state.memories;
  long : length l.states.items ≡ l.k;
}
