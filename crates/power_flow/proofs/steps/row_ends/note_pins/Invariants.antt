use Rattle.std.proofs.Common.{◌≡◌, ℕ, length}
use Rattle.network.specs.Links.{Diagram}
use Rattle.power_flow.specs.Steps.RowEnds.{AreEndsTo, AreEndsWithin}
use Rattle.power_flow.proofs.steps.row_ends.note_pins.Given as goal

abbrev pub invariant-loop-pin : goal.invariant-loop-pin
invariant-loop-pin l = record {
  ends : (d : Diagram) (k : ℕ) → AreEndsTo d l.top k l.fn.ends → AreEndsWithin d l.top k l.drawn l.pin-index l.ends;
  long : length l.ends ≡ length l.fn.ends;
}
