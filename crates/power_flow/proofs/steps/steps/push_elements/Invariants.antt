use Rattle.std.proofs.Common.{◌≡◌, length, take}
use Rattle.network.specs.GraphValue.{diagram}
use Rattle.power_flow.specs.Steps.RowEnds.{AreEndsTo, AreStepsTo}
use Rattle.power_flow.specs.Waiting.{coils_of, boxes_of}
use Rattle.power_flow.proofs.steps.steps.push_elements.Given as goal

abbrev pub invariant-loop-k : goal.invariant-loop-k
invariant-loop-k l = record {
  steps : AreStepsTo l.declarations (diagram l.rails l.elements) l.top l.k l.steps.items;
  ends : AreEndsTo (diagram l.rails l.elements) l.top l.k l.ends;
  long : length l.ends ≡ length l.fn.ends;
  coils : l.numbers.coils ≡ length (coils_of (take l.k l.elements));
  boxes : l.numbers.boxes ≡ length (boxes_of (take l.k l.elements));
}
