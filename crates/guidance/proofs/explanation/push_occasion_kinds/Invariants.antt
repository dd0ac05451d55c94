use Rattle.std.proofs.Common.{◌≡◌, ◌++◌, take, string_bytes}
use Rattle.std.specs.List.{flat_map}
use Rattle.guidance.specs.Explaining.{remark_lines}
use Rattle.guidance.proofs.explanation.push_occasion_kinds.Given as goal

abbrev pub invariant-loop-occasion : goal.invariant-loop-occasion
invariant-loop-occasion l = string_bytes l.text ≡ string_bytes l.initial.text ++ flat_map remark_lines (take l.occasion-index l.occasions)
