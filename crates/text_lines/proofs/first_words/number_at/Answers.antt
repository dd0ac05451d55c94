-- The word is the number's text, where that and its end stand there.
use Rattle.std.proofs.Common.{ℕ, Option, subst}
use Rattle.std.specs.Option.{option_map}
use Rattle.std.specs.Fmt.{decimal}
use Rattle.text_lines.specs.MessageLines.{IsSmall}
use Rattle.text_lines.specs.Steps.Reading.{IsRead}
use Rattle.text_lines.proofs.WordsRead.{none_decimal, word_read}
use Rattle.text_lines.proofs.first_words.number_at.Goals as goal

pub returns-in-Some-clause-read : goal.returns-in-Some-clause-read
returns-in-Some-clause-read c =
    subst (λ (o : Option ℕ). IsRead decimal IsSmall c.args.stop c.args.text.now (option_map (λ n. (n, c.split_before.result.1.now)) o)) c.in-Some.is
    (word_read decimal IsSmall c.args.stop c.args.text.now c.split_before.result.0.now c.split_before.result.1.now c.number_of.result
    (λ n small. none_decimal c.args.stop n c.requires small) c.split_before.ensures c.number_of.ensures)

pub returns-in-None-clause-read : goal.returns-in-None-clause-read
returns-in-None-clause-read c =
    subst (λ (o : Option ℕ). IsRead decimal IsSmall c.args.stop c.args.text.now (option_map (λ n. (n, c.split_before.result.1.now)) o)) c.in-None.is
    (word_read decimal IsSmall c.args.stop c.args.text.now c.split_before.result.0.now c.split_before.result.1.now c.number_of.result
    (λ n small. none_decimal c.args.stop n c.requires small) c.split_before.ensures c.number_of.ensures)
