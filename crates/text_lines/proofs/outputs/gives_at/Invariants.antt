-- The values of the first outputs were read.
use Rattle.std.proofs.Common.{◌≡◌, map, take}
use Rattle.std.specs.List.{AllByRecursion}
use Rattle.declared_names.specs.Kinds.{kind_of}
use Rattle.task_codes.specs.CodeValue.{image_kinds}
use Rattle.text_lines.specs.Lists.{give_text}
use Rattle.text_lines.specs.ReadParts.{IsInRange}
use Rattle.text_lines.specs.Steps.Reading.{IsGivenOf}
use Rattle.text_lines.proofs.Lists.{AreFirst}
use Rattle.text_lines.proofs.outputs.gives_at.Given as goal

abbrev pub invariant-loop-output : goal.invariant-loop-output
invariant-loop-output l = record {
  kinds : map kind_of l.values.items ≡ take l.output (image_kinds l.code);
  in_range : AllByRecursion IsInRange l.values.items;
  first : AreFirst (give_text l.code) IsGivenOf l.code.outputs l.text l.output l.values.items l.rest;
}
