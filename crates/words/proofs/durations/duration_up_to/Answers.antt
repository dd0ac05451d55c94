use Rattle.std.proofs.Common.{ℕ, sym, ap, ◌∙◌}
use Rattle.std.proofs.lemmas.Bool.{both_ways}
use Rattle.words.specs.Chars.{is_duration}
use Rattle.words.specs.Numbers.{limited}
use Rattle.words.proofs.DurationWords.{duration_is, duration_worth}
use Rattle.words.proofs.durations.duration_up_to.Goals as goal

pub returns-then-is_duration-clause-sum : goal.returns-then-is_duration-clause-sum
returns-then-is_duration-clause-sum c = λ ps d.
    c.milliseconds_up_to.ensures ∙ ap (λ (n : ℕ). limited c.args.most n) (duration_worth c.args.word.now ps d)

pub returns-else-is_duration-clause-sum : goal.returns-else-is_duration-clause-sum
returns-else-is_duration-clause-sum c = λ ps d.
    absurd (both_ways (is_duration c.args.word.now) (sym c.is_duration.ensures.value ∙ c.if-is_duration.false) (duration_is c.args.word.now ps d))
