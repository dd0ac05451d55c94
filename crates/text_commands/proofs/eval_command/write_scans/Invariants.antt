use Rattle.std.proofs.Common.{◌≡◌, List, length}
use Rattle.std.specs.List.{flat_map}
use Rattle.std.specs.Io.KnownBytes.{Appends}
use Rattle.scan_steps.specs.declared.slot.Slot.{Slot}
use Rattle.power_flow.specs.LadderValue.{Fits}
use Rattle.text_commands.specs.Lines.{line_of}
use Rattle.text_commands.specs.Trace.{IsTrace}
use Rattle.text_commands.specs.TestText.{IsOutcome}
use Rattle.text_commands.proofs.eval_command.write_scans.Given as goal

abbrev pub invariant-loop-k : goal.invariant-loop-k
invariant-loop-k g l = record {
  fits : Fits l.ladder l.state;
  states : List (List Slot);
  trace : IsTrace l.ladder.declarations l.ladder.networks l.dt l.given states l.state.slots l.state.memories;
  long : length states ≡ l.k;
  outcome : IsOutcome l.ladder.declarations l.expected states l.found;
  appended : Appends (g.W.Write.contents l.initial.writer) (g.W.Write.contents l.writer) (flat_map (line_of l.ladder.declarations) states);
}
