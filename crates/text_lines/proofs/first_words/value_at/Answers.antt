-- The word is the value's text, where that and its end stand there.
use Rattle.std.proofs.Common.{Option, subst}
use Rattle.std.specs.Option.{option_map}
use Rattle.std_blocks.specs.declared.value.Value.{Value}
use Rattle.text_lines.specs.LineParts.{value_text}
use Rattle.text_lines.specs.Steps.Reading.{IsRead, IsOfKind}
use Rattle.text_lines.proofs.WordsRead.{none_value, word_read}
use Rattle.text_lines.proofs.first_words.value_at.Goals as goal

pub returns-in-Some-clause-read : goal.returns-in-Some-clause-read
returns-in-Some-clause-read c =
    subst (λ (o : Option Value). IsRead value_text (IsOfKind c.args.kind) 32 c.args.text.now (option_map (λ x. (x, c.split_before.result.1.now)) o)) c.in-Some.is
    (word_read value_text (IsOfKind c.args.kind) 32 c.args.text.now c.split_before.result.0.now c.split_before.result.1.now c.value_of.result
    (λ x so. none_value x so.1) c.split_before.ensures (λ x so is. c.value_of.ensures.value x so.0 so.1 is))

pub returns-in-None-clause-read : goal.returns-in-None-clause-read
returns-in-None-clause-read c =
    subst (λ (o : Option Value). IsRead value_text (IsOfKind c.args.kind) 32 c.args.text.now (option_map (λ x. (x, c.split_before.result.1.now)) o)) c.in-None.is
    (word_read value_text (IsOfKind c.args.kind) 32 c.args.text.now c.split_before.result.0.now c.split_before.result.1.now c.value_of.result
    (λ x so. none_value x so.1) c.split_before.ensures (λ x so is. c.value_of.ensures.value x so.0 so.1 is))
