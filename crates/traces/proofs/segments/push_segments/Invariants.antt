use Rattle.std.proofs.Common.{◌≡◌, ◌+◌, ◌++◌, drop}
use Rattle.traces.specs.Segments.{segments_from}
use Rattle.traces.proofs.segments.push_segments.Given as goal

abbrev pub invariant-loop-next : goal.invariant-loop-next
invariant-loop-next l = record {
  made : l.segments.items ++ segments_from l.from l.value l.to (drop l.next-index l.rest) ≡ l.initial.segments.items ++ segments_from 0 l.fn.first 1 l.rest;
  to : l.to ≡ l.next-index + 1;
}
