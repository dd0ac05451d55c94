-- What was heard of the first resources stands behind the line.
use Rattle.std.proofs.Common.{◌≡◌, ◌++◌, take, string_bytes}
use Rattle.std.specs.List.{flat_map, zip}
use Rattle.text_lines.specs.MessageLines.{heard_text}
use Rattle.text_lines.proofs.heard.push_all_heard.Given as goal

abbrev pub invariant-loop-resource : goal.invariant-loop-resource
invariant-loop-resource l = string_bytes l.line ≡ string_bytes l.fn.line ++ flat_map heard_text (take l.resource (zip l.plant.resources l.heard))
