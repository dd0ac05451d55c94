use Rattle.std.proofs.Common.{ℕ, ◌<◌, ◌≤◌}
use Rattle.ladder_text.specs.Steps.Pairs.{span_at, ArePairs}
use Rattle.ladder_text.proofs.names.pairs.are_paired.Given as goal

abbrev pub invariant-loop-index : goal.invariant-loop-index
invariant-loop-index l = record {
  pairs : ArePairs l.words l.symbols l.index;
  words_end : (k : ℕ) → k < l.index → (span_at l.words k).end ≤ l.from;
  symbols_end : (k : ℕ) → k < l.index → (span_at l.symbols k).end ≤ l.from;
}
