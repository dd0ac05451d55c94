use Rattle.std.proofs.Common.{inr, arith}
use Rattle.std.proofs.lemmas.Str.Pattern.{split_once_first}
use Rattle.text_commands.specs.Rows.{name_in, digits_in}
use Rattle.text_commands.specs.Series.{IsRefusedSeries, IsRefusedSetting}
use Rattle.text_commands.proofs.SettingWords.{refused_result}
use Rattle.text_commands.proofs.settings.next_setting.Goals as goal

pub returns-in-Some-clause-err : goal.returns-in-Some-clause-err
returns-in-Some-clause-err c =
    let parts = rw c.in-Some.is at (split_once_first 61 c.args.word.now c.split_once.result c.split_once.ensures.cases (omega arith)) in
    let named = rw (parts.1, parts.2) at c.next_series.ensures.err in
    refused_result (IsRefusedSeries c.args.declarations.now c.args.before.now (name_in c.args.word.now) (digits_in c.args.word.now)) (IsRefusedSetting c.args.declarations.now c.args.before.now c.args.word.now) c.args.number
    c.next_series.result (λ kind refused. inr (parts.0, refused)) named
