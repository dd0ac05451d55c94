use Rattle.std.proofs.Common.{string_bytes}
use Rattle.verifying.proofs.Wording.{words_done, words_step}
use Rattle.verifying.proofs.verdict_words.push_free_words.Goals as goal

pub loop-input-preserved : goal.loop-input-preserved
loop-input-preserved c =
    words_step c.args.declarations.now c.args.free.now c.args.rows.now c.loop-input.input 0 (string_bytes c.args.text.now) (string_bytes c.loop-input.text) (string_bytes c.push_name.new.text) (string_bytes c.push_free_digits.new.text)
    c.loop-input-test.true c.loop-input.invariant c.in_ok-push_name.ensures c.in_ok-push_free_digits.ensures

pub returns : goal.returns
returns c =
    words_done c.args.declarations.now c.args.free.now c.args.rows.now c.loop-input.input (string_bytes c.args.text.now) (string_bytes c.loop-input.text) c.loop-input-test.false c.loop-input.invariant
