-- The lines so far stand behind the text.
use Rattle.std.proofs.Common.{◌≡◌, ◌++◌, take, string_bytes}
use Rattle.std.specs.List.{flat_map, zip}
use Rattle.keepers.specs.KeptRetained.{line_text}
use Rattle.keepers.proofs.retained_text.push_lines.Given as goal

abbrev pub invariant-loop-k : goal.invariant-loop-k
invariant-loop-k l = string_bytes l.text ≡ string_bytes l.fn.text ++ flat_map (line_text l.code) (take l.k (zip l.variables l.values))
