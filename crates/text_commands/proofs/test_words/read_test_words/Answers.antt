use Rattle.lists.proofs.Results.{kept_fault}
use Rattle.text_commands.specs.Rows.{texts}
use Rattle.text_commands.specs.Steps.Testing.{RefusesTest}
use Rattle.text_commands.proofs.TestReading.{test_refused, word_added}
use Rattle.text_commands.proofs.test_words.read_test_words.Goals as goal

pub returns-in_err-add_word-clause-err : goal.returns-in_err-add_word-clause-err
returns-in_err-add_word-clause-err c =
    kept_fault c.in_err-add_word.field-0.0 (RefusesTest c.args.declarations.now (texts c.args.words.now)) _ c.from_residual.ensures.1
    (test_refused c.args.declarations.now c.args.words.now c.loop-number.number _ c.loop-number.rows.items c.loop-number.expected.items c.in_err-add_word.field-0.0 c.loop-number-test.true
    c.loop-number.invariant c.in_err-add_word.ensures.err)

pub loop-number-preserved : goal.loop-number-preserved
loop-number-preserved c =
    word_added c.args.declarations.now c.args.words.now c.loop-number.number _ c.loop-number.rows.items c.loop-number.expected.items _ _ c.loop-number-test.true c.loop-number.invariant c.in_ok-add_word.ensures.ok
