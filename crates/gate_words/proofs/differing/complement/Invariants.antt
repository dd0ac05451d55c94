use Rattle.std.proofs.Common.{◌≡◌, ◌+◌, ℕ, Bool, length}
use Rattle.gate_words.specs.Words.{word_value}
use Rattle.gate_words.specs.Steps.Bits.{bit_at, low_value, weight}
use Rattle.gate_words.proofs.differing.complement.Given as goal

abbrev pub invariant-loop-signal : goal.invariant-loop-signal
invariant-loop-signal l = record {
  long : length l.new.items ≡ l.signal-index;
  value : (v : ℕ → Bool) → word_value v l.new.items + low_value (bit_at v l.word) l.signal-index + 1 ≡ weight l.signal-index;
}
