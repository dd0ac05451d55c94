use Rattle.std.proofs.Common.{◌≡◌, ◌+◌, cond, length}
use Rattle.gates.specs.Signals.{signal_value}
use Rattle.gates.specs.Gates.{IsBuilt}
use Rattle.gate_words.specs.Words.{word_value}
use Rattle.gate_words.specs.Steps.Bits.{bit_at, low_value, weight}
use Rattle.gate_words.proofs.adding.sum.Given as goal

abbrev pub invariant-loop-place : goal.invariant-loop-place
invariant-loop-place l = record {
  long : length l.word.items ≡ l.place;
  built : IsBuilt l.fn.gates l.gates
      (λ v. word_value v l.word.items + cond (signal_value v l.carry) (weight l.place) 0
      ≡ low_value (bit_at v l.left) l.place + low_value (bit_at v l.right) l.place);
}
