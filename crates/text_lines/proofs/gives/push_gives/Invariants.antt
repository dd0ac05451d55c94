use Rattle.std.proofs.Common.{◌≡◌, ◌++◌, map, take, string_bytes}
use Rattle.std.specs.List.{join_with_byte, zip}
use Rattle.text_lines.specs.Lists.{give_text}
use Rattle.text_lines.proofs.gives.push_gives.Given as goal

abbrev pub invariant-loop-i : goal.invariant-loop-i
invariant-loop-i l = string_bytes l.line ≡ string_bytes l.initial.line ++ join_with_byte 32 (map (give_text l.code) (take l.i (zip l.code.outputs l.values)))
