use Rattle.std.proofs.Common.{◌≡◌, ◌++◌, string_bytes}
use Rattle.traces.specs.Diagram.{marks}
use Rattle.traces.specs.Times.{time_of}
use Rattle.traces.proofs.diagram.push_marks.Given as goal

abbrev pub invariant-loop-moment : goal.invariant-loop-moment
invariant-loop-moment l = string_bytes l.text ≡ string_bytes l.initial.text ++ marks l.scale l.bottom (time_of l.times) l.moment
