use Rattle.std.proofs.Common.{◌≡◌, length, string_bytes}
use Rattle.power_flow.specs.LadderValue.{Fits}
use Rattle.text_commands.specs.Shown.{IsShown}
use Rattle.text_commands.specs.Steps.Testing.{slots_of}
use Rattle.text_commands.proofs.shown_scans.trace_drawings.Given as goal

abbrev pub invariant-loop-k : goal.invariant-loop-k
invariant-loop-k l = record {
  fits : Fits l.ladder l.state;
  shown : IsShown l.drawing l.color l.ladder.declarations l.ladder.networks l.dt l.given (slots_of l.states.items) l.state.slots l.state.memories (string_bytes l.text);
  long : length l.states.items ≡ l.k;
}
