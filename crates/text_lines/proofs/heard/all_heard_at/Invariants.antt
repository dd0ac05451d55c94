-- What was heard of the first resources was read.
use Rattle.std.proofs.Common.{◌≡◌, length}
use Rattle.std.specs.List.{AllByRecursion}
use Rattle.text_lines.specs.MessageLines.{IsSmall}
use Rattle.text_lines.specs.Steps.Reading.{heard_item, IsHeardOf}
use Rattle.text_lines.proofs.Lists.{AreFirst}
use Rattle.text_lines.proofs.heard.all_heard_at.Given as goal

abbrev pub invariant-loop-resource : goal.invariant-loop-resource
invariant-loop-resource l = record {
  many : length l.heard.items ≡ l.resource;
  small : AllByRecursion IsSmall l.heard.items;
  first : AreFirst heard_item IsHeardOf l.plant.resources l.text l.resource l.heard.items l.rest;
}
