use Rattle.std.proofs.Common.{ap, ◌∙◌}
use Rattle.gate_words.specs.Words.{word_value}
use Rattle.gate_words.proofs.time_word.TimeWord.of.Goals as goal

pub returns : goal.returns
returns c = λ v agrees fits.
    ap (word_value v) (c.copy_from_slice.ensures.after ∙ c.as_slice-first.ensures.value) ∙ c.in_ok-first.ensures.same v agrees fits
