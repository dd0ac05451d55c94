use Rattle.std.proofs.Common.{◌≡◌, ◌+◌, ◌*◌, ℕ, Bool, length}
use Rattle.gates.specs.Gates.{Agrees}
use Rattle.gate_words.specs.Words.{word_value}
use Rattle.gate_words.specs.Steps.Bits.{weight}
use Rattle.gate_words.proofs.numbers.constant.Given as goal

abbrev pub invariant-loop-rest : goal.invariant-loop-rest
invariant-loop-rest l =
    (v : ℕ → Bool) → Agrees v l.gates → word_value v l.word.items + weight (length l.word.items) * l.rest ≡ l.number

abbrev pub decreases-loop-rest : goal.decreases-loop-rest
decreases-loop-rest l = l.rest
