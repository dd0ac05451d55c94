use Rattle.std.proofs.Common.{◌≡◌, ◌++◌, string_bytes}
use Rattle.traces.specs.ValueChanges.{declared_lines}
use Rattle.traces.proofs.value_changes.push_declarations.Given as goal

abbrev pub invariant-loop-number : goal.invariant-loop-number
invariant-loop-number l = string_bytes l.text ≡ string_bytes l.initial.text ++ declared_lines l.tracks l.number
