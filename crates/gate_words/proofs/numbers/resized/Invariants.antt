use Rattle.std.proofs.Common.{◌≡◌, ℕ, Bool, length}
use Rattle.gates.specs.Gates.{Agrees}
use Rattle.gate_words.specs.Words.{word_value}
use Rattle.gate_words.specs.Steps.Bits.{bit_at, low_value}
use Rattle.gate_words.proofs.numbers.resized.Given as goal

abbrev pub invariant-loop-place : goal.invariant-loop-place
invariant-loop-place l = record {
  long : length l.new.items ≡ l.place;
  same : (v : ℕ → Bool) → Agrees v l.gates → word_value v l.new.items ≡ low_value (bit_at v l.word) l.place;
}
