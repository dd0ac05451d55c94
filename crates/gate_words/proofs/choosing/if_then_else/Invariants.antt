use Rattle.std.proofs.Common.{◌≡◌, cond, length}
use Rattle.gates.specs.Signals.{signal_value}
use Rattle.gates.specs.Gates.{IsBuilt}
use Rattle.gate_words.specs.Words.{word_value}
use Rattle.gate_words.specs.Steps.Bits.{bit_at, low_value}
use Rattle.gate_words.proofs.choosing.if_then_else.Given as goal

abbrev pub invariant-loop-place : goal.invariant-loop-place
invariant-loop-place l = record {
  long : length l.word.items ≡ l.place;
  built : IsBuilt l.fn.gates l.gates
      (λ v. word_value v l.word.items
      ≡ cond (signal_value v l.condition) (low_value (bit_at v l.first) l.place) (low_value (bit_at v l.second) l.place));
}
