use Rattle.std.proofs.Common.{◌≡◌, length, take}
use Rattle.network.specs.GraphValue.{diagram}
use Rattle.scan_steps.specs.Steps.Passing.{pass_of}
use Rattle.power_flow.specs.Steps.RowEnds.{AreEndsTo}
use Rattle.power_flow.specs.Steps.Comings.{AreReadTo}
use Rattle.power_flow.specs.Waiting.{coils_of, boxes_of}
use Rattle.power_flow.proofs.showing.comings.read_elements.Given as goal

abbrev pub invariant-loop-k : goal.invariant-loop-k
invariant-loop-k l = record {
  read : AreReadTo l.declarations (diagram l.rails l.elements) l.top l.boxes l.slots l.dt l.k l.steps.items l.comings.items
      (pass_of l.fn.rows l.fn.memories l.fn.links l.fn.results) (pass_of l.rows l.memories l.links l.results);
  ends : AreEndsTo (diagram l.rails l.elements) l.top l.k l.ends;
  long : length l.ends ≡ length l.fn.ends;
  coils : l.numbers.coils ≡ length (coils_of (take l.k l.elements));
  boxes : l.numbers.boxes ≡ length (boxes_of (take l.k l.elements));
  rows_long : length l.rows ≡ length l.fn.rows;
  memories_long : length l.memories ≡ length l.fn.memories;
  links_long : length l.links ≡ length l.fn.links;
  results_long : length l.results ≡ length l.fn.results;
}
