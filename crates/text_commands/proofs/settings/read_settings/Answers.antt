use Rattle.std.proofs.Common.{◌+◌, take, sym, subst}
use Rattle.lists.proofs.Results.{kept_fault}
use Rattle.text_commands.specs.Rows.{texts}
use Rattle.text_commands.specs.Series.{SpellSettings}
use Rattle.text_commands.specs.Steps.Testing.{RefusesSet}
use Rattle.text_commands.proofs.SettingWords.{set_refused, setting_more, settings_of_variables}
use Rattle.text_commands.proofs.settings.read_settings.Goals as goal

pub returns-in_err-setting-clause-err : goal.returns-in_err-setting-clause-err
returns-in_err-setting-clause-err c =
    let refused = rw c.deref.ensures.value at c.in_err-setting.ensures.err in
    kept_fault c.in_err-setting.field-0.0 (RefusesSet c.args.declarations.now (texts c.args.words.now)) _ c.from_residual.ensures.1
    (set_refused c.args.declarations.now c.args.words.now c.loop-number.number _ c.loop-number.settings.items c.in_err-setting.field-0.0 c.loop-number-test.true c.loop-number.invariant refused)

pub loop-number-preserved : goal.loop-number-preserved
loop-number-preserved c =
    let new = rw c.deref.ensures.value at c.in_ok-setting.ensures.ok in
    subst (SpellSettings c.args.declarations.now (take (c.loop-number.number + 1) (texts c.args.words.now))) (sym c.in_ok-push.ensures.items)
    (setting_more c.args.declarations.now c.args.words.now c.loop-number.number _ c.loop-number.settings.items _ c.loop-number-test.true c.loop-number.invariant new.0 new.1)

pub returns-clause-declared : goal.returns-clause-declared
returns-clause-declared c =
    settings_of_variables c.args.declarations.now (take c.loop-number.number (texts c.args.words.now)) c.loop-number.settings.items c.loop-number.invariant
