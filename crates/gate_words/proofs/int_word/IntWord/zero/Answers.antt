use Rattle.std.proofs.Common.{ap}
use Rattle.std.specs.Int.{cast_signed, w16}
use Rattle.gate_words.proofs.Fixed.{all_off}
use Rattle.gate_words.proofs.int_word.IntWord.zero.Goals as goal

pub returns : goal.returns
returns c = λ v agrees. ap (cast_signed w16) (all_off v c.constant-off.result 16 (c.constant-off.ensures v agrees))
