use Rattle.std.proofs.Common.{◌≡◌, ◌++◌, map, take, string_bytes}
use Rattle.std.specs.List.{join_with_byte}
use Rattle.text_lines.specs.Lists.{take_text}
use Rattle.text_lines.proofs.takes.push_takes.Given as goal

abbrev pub invariant-loop-i : goal.invariant-loop-i
invariant-loop-i l = string_bytes l.line ≡ string_bytes l.initial.line ++ join_with_byte 32 (map (take_text l.plant) (take l.i l.takes))
