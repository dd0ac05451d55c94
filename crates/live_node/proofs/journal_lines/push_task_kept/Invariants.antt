-- The values so far stand behind the text.
use Rattle.std.proofs.Common.{◌≡◌, ◌++◌, take, string_bytes}
use Rattle.std.specs.List.{flat_map, zip}
use Rattle.live_node.specs.NodeJournal.{kept_text}
use Rattle.live_node.proofs.journal_lines.push_task_kept.Given as goal

abbrev pub invariant-loop-k : goal.invariant-loop-k
invariant-loop-k l = string_bytes l.text ≡ string_bytes l.fn.text ++ flat_map (kept_text l.code) (take l.k (zip l.variables l.values))
