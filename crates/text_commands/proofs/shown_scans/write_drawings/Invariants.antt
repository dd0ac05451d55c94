use Rattle.std.proofs.Common.{◌≡◌, ℕ, List, length}
use Rattle.std.specs.Io.KnownBytes.{Appends}
use Rattle.scan_steps.specs.declared.slot.Slot.{Slot}
use Rattle.power_flow.specs.LadderValue.{Fits}
use Rattle.text_commands.specs.Shown.{IsShown}
use Rattle.text_commands.specs.TestText.{IsOutcome}
use Rattle.text_commands.proofs.shown_scans.write_drawings.Given as goal

abbrev pub invariant-loop-k : goal.invariant-loop-k
invariant-loop-k g l = record {
  fits : Fits l.ladder l.state;
  states : List (List Slot);
  text : List ℕ;
  shown : IsShown l.drawing l.color l.ladder.declarations l.ladder.networks l.dt l.given states l.state.slots l.state.memories text;
  long : length states ≡ l.k;
  outcome : IsOutcome l.ladder.declarations l.expected states l.found;
  appended : Appends (g.W.Write.contents l.initial.writer) (g.W.Write.contents l.writer) text;
}
