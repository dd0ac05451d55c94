use Rattle.std.proofs.Common.{◌≡◌, ◌++◌, string_bytes}
use Rattle.traces.specs.Diagram.{rows_of}
use Rattle.traces.proofs.diagram.push_rows.Given as goal

abbrev pub invariant-loop-row : goal.invariant-loop-row
invariant-loop-row l = string_bytes l.text ≡ string_bytes l.initial.text ++ rows_of l.scale l.tracks l.row
