use Rattle.std.proofs.Common.{cond, ap, ◌∙◌}
use Rattle.std.specs.Int.{cast_signed, w16}
use Rattle.gates.specs.Signals.{signal_value}
use Rattle.gate_words.specs.Words.{word_value}
use Rattle.gate_words.proofs.Fixed.{cond_under, chosen_lt, same_lt, word_lt}
use Rattle.gate_words.proofs.int_word.IntWord.chosen.Goals as goal

pub returns : goal.returns
returns c = λ v agrees.
    let on = signal_value v c.args.condition in
    let first = c.args.first.now in
    let second = c.args.second.now in
    let one = word_value v first.bits in
    let two = word_value v second.bits in
    let chosen = c.in_ok-word.ensures v agrees in
    let same = ap (word_value v) c.as_slice-bits.ensures.value ∙ chosen.1 in
    let fits = same_lt (word_value v c.as_slice-bits.result.now) (cond on one two) 65536 same
    (chosen_lt on one two 65536 (word_lt v first.bits 16 first.many) (word_lt v second.bits 16 second.many)) in (
      chosen.0,
      ap (cast_signed w16) (c.in_ok-new.ensures v agrees fits ∙ same) ∙ cond_under (cast_signed w16) on one two,
    )
