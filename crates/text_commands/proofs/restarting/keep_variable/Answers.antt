use Rattle.std.proofs.Common.{◌≡◌, true, Some, ◌∙◌, sym}
use Rattle.std.proofs.lemmas.Bool.{OnTrue_at}
use Rattle.scan_steps.specs.Slots.{variable_at}
use Rattle.text_commands.proofs.KeptVariables.{kept_kind}
use Rattle.text_commands.proofs.restarting.keep_variable.Goals as goal

pub returns-in-Some-clause-slots : goal.returns-in-Some-clause-slots
returns-in-Some-clause-slots c =
    let found : variable_at c.args.state.now.slots c.args.place ≡ Some c.in-Some.value = sym c.get.ensures ∙ c.in-Some.is in
    let kind = kept_kind c.requires.0 c.args.state.now.slots c.args.fresh.now.slots c.args.place c.in-Some.value c.requires.2 c.requires.1 found in
    let yes : c.set-set.result ≡ true = c.set-set.ensures.answer.1 kind in
    rw found (OnTrue_at yes c.set-set.ensures.changed)
