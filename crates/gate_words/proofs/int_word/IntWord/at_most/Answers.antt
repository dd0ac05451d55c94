use Rattle.std.proofs.Common.{◌∙◌}
use Rattle.gate_words.specs.Words.{word_value}
use Rattle.gate_words.specs.Values.{int_at}
use Rattle.gate_words.proofs.Fixed.{raised_at_most}
use Rattle.gate_words.proofs.int_word.IntWord.at_most.Goals as goal

pub returns : goal.returns
returns c = λ v agrees.
    let is = c.in_ok-is.ensures v agrees in (
      is.0,
      is.1 ∙ raised_at_most (int_at v c.args.self.now) (int_at v c.args.other.now) (word_value v c.raised-left.result)
          (word_value v c.raised-right.result) (c.raised-left.ensures.value v) (c.raised-right.ensures.value v),
    )
