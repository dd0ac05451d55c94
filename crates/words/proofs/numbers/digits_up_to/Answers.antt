use Rattle.std.proofs.Common.{◌<◌, length, arith, ◌∙◌, sym}
use Rattle.words.proofs.NumbersBeyond.{digits_beyond}
use Rattle.words.proofs.numbers.digits_up_to.Goals as goal

pub returns-in_err-number-clause-value : goal.returns-in_err-number-clause-value
returns-in_err-number-clause-value c =
    let l = c.loop-digit in
    let inside : l.digit-index < length c.args.digits.now = omega arith in
    let above = digits_beyond c.args.digits.now l.digit-index l.number c.args.most _ inside (sym c.with_digit.ensures ∙ c.in_err-number.was) l.invariant.1 in
    c.from_residual.ensures ∙ sym above
