use Rattle.std.proofs.Common.{sym, ◌∙◌, codes}
use Rattle.words.specs.Chars.{is_duration_behind, is_duration}
use Rattle.words.proofs.DurationParts.{none_or}
use Rattle.words.proofs.DurationWords.{duration_is}
use Rattle.words.proofs.durations.is_duration.Goals as goal

pub returns-else-is_duration_behind-clause-every : goal.returns-else-is_duration_behind-clause-every
unfolding is_duration
returns-else-is_duration_behind-clause-every c = λ ps d.
    let w = c.args.word.now in
    c.is_duration_behind-else-is_duration_behind.ensures
    ∙ none_or (is_duration_behind (codes "T#") 2 w) (is_duration_behind (codes "TIME#") 5 w) (sym c.is_duration_behind.ensures ∙ c.if-is_duration_behind.false) (duration_is w ps d)
