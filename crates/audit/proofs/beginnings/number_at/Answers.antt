-- The word is the number's text, where that and its end stand there.
use Rattle.std.proofs.Common.{arith, ℕ, Option, subst}
use Rattle.std.specs.Option.{option_map}
use Rattle.std.specs.Fmt.{decimal}
use Rattle.text_lines.specs.MessageLines.{IsSmall}
use Rattle.text_lines.specs.Steps.Reading.{IsRead}
use Rattle.text_lines.proofs.WordsRead.{none_decimal, word_read}
use Rattle.audit.proofs.beginnings.number_at.Goals as goal

pub returns-in-Some : goal.returns-in-Some
returns-in-Some c =
    subst (λ (o : Option ℕ). IsRead decimal IsSmall 32 c.args.text.now (option_map (λ x. (x, c.split_before_blank.result.1.now)) o)) c.in-Some.is
    (word_read decimal IsSmall 32 c.args.text.now c.split_before_blank.result.0.now c.split_before_blank.result.1.now c.number_of.result
    (λ n small. none_decimal 32 n (omega arith) small) c.split_before_blank.ensures c.number_of.ensures)

pub returns-in-None : goal.returns-in-None
returns-in-None c =
    subst (λ (o : Option ℕ). IsRead decimal IsSmall 32 c.args.text.now (option_map (λ x. (x, c.split_before_blank.result.1.now)) o)) c.in-None.is
    (word_read decimal IsSmall 32 c.args.text.now c.split_before_blank.result.0.now c.split_before_blank.result.1.now c.number_of.result
    (λ n small. none_decimal 32 n (omega arith) small) c.split_before_blank.ensures c.number_of.ensures)
