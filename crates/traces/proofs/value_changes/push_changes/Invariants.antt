use Rattle.std.proofs.Common.{◌≡◌, ◌++◌, string_bytes}
use Rattle.traces.specs.ValueChanges.{change_lines}
use Rattle.traces.proofs.value_changes.push_changes.Given as goal

abbrev pub invariant-loop-number : goal.invariant-loop-number
invariant-loop-number l = string_bytes l.text ≡ string_bytes l.initial.text ++ change_lines l.moment l.tracks l.number
