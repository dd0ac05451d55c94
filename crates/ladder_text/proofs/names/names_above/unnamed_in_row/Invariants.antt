use Rattle.std.proofs.Common.{◌≡◌, take, is_some}
use Rattle.std.specs.List.{list_any}
use Rattle.ladder_text.specs.Places.{layout_of}
use Rattle.ladder_text.specs.Faults.{name_missing}
use Rattle.ladder_text.specs.FirstFault.{IsSpanAt}
use Rattle.ladder_text.specs.Steps.Search.{IsFirstColumnOf}
use Rattle.ladder_text.proofs.names.names_above.unnamed_in_row.Given as goal

abbrev pub invariant-loop-thing : goal.invariant-loop-thing
invariant-loop-thing l = record {
  any : is_some l.first ≡ list_any (name_missing (layout_of l.worded) l.row) (take l.thing-index l.thing-items);
  first : IsFirstColumnOf (IsSpanAt (take l.thing-index l.thing-items) (name_missing (layout_of l.worded) l.row)) l.first;
}
