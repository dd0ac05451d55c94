use Rattle.std.proofs.Common.{◌≡◌, take, string_bytes}
use Rattle.std.specs.List.{join_with_byte}
use Rattle.text_commands.specs.Lines.{items_of}
use Rattle.text_commands.proofs.line.state_line.Given as goal

abbrev pub invariant-loop-place : goal.invariant-loop-place
invariant-loop-place l = string_bytes l.line ≡ join_with_byte 32 (items_of (take l.place l.declarations) l.state.slots)
