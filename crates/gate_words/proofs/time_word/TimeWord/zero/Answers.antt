use Rattle.gate_words.proofs.Fixed.{all_off}
use Rattle.gate_words.proofs.time_word.TimeWord.zero.Goals as goal

pub returns : goal.returns
returns c = λ v agrees. all_off v c.constant-off.result 32 (c.constant-off.ensures v agrees)
