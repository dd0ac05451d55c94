use Rattle.std.proofs.Common.{◌≡◌, [], ◌∷◌, ◌++◌, not, sym, ap, ◌∙◌}
use Rattle.std.specs.Prelude.{is_ok, reverse}
use Rattle.world.specs.Step.{history_at}
use Rattle.world.proofs.ScheduleReading.{err_and, no_word}
use Rattle.tested_schedules.specs.Expectations.{IsAnswer}
use Rattle.tested_schedules.proofs.Words.{more_answers, pushed, unexpected_at}
use Rattle.tested_schedules.proofs.answering.answer_words.Goals as goal

pub returns-in_err-answer-clause-fault : goal.returns-in_err-answer-clause-fault
returns-in_err-answer-clause-fault c =
    err_and c.from_residual.result (λ fault. fault ≡ c.in_err-answer.field-0.0) _ c.from_residual.ensures.1
    (λ f given is. unexpected_at c.args.world.now.setting.plant c.args.words.now c.loop-word.word-index no_word c.loop-word-test.true (c.in_err-answer.ensures.fault (sym given ∙ is)))

pub loop-word-preserved : goal.loop-word-preserved
loop-word-preserved c =
    let w = c.args.world.now in
    more_answers (IsAnswer w.setting (history_at w) (reverse w.log)) c.args.words.now c.loop-word.word-index no_word c.loop-word.answers.items c.push.new.self.items c.in_ok-answer.answer c.loop-word-test.true c.loop-word.invariant c.in_ok-answer.ensures.ok
    (pushed c.push.new.self.items c.loop-word.answers.items (c.loop-word.answers.items ++ c.in_ok-answer.answer ∷ []) (is_ok c.push.result) c.push.ensures.items (c.is_err.ensures.negation ∙ ap not c.if-is_err.false))
