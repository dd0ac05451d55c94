use Rattle.std.proofs.Common.{◌≡◌, ◌++◌, take, string_bytes}
use Rattle.std.specs.List.{flat_map}
use Rattle.cycle.specs.FieldTexts.{input_text}
use Rattle.cycle.proofs.texts.push_inputs.Given as goal

abbrev pub invariant-loop-input : goal.invariant-loop-input
invariant-loop-input l = string_bytes l.line ≡ string_bytes l.fn.line ++ flat_map input_text (take l.input-index l.listed)
