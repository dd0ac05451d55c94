use Rattle.std.proofs.Common.{ℕ, ◌-◌, ◌≤◌, ◌<◌, length}
use Rattle.declared_names.specs.declared.declarations.Kind.{Kind}
use Rattle.plant.specs.Steps.Drafts.{IsPlacedAt}
use Rattle.plant.proofs.sources.lookup.output_position.Given as goal

abbrev pub invariant-halving : goal.invariant-halving
invariant-halving l = record {
  within : l.high ≤ length l.outputs;
  behind : (k : ℕ) (kind : Kind) → IsPlacedAt l.outputs l.program l.place k kind → l.low ≤ k;
  front : (k : ℕ) (kind : Kind) → IsPlacedAt l.outputs l.program l.place k kind → k < l.high;
}

abbrev pub decreases-halving : goal.decreases-halving
decreases-halving l = l.high - l.low
