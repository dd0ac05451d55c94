use Rattle.std.proofs.Common.{ap, get_or, ◌∙◌, refl}
use Rattle.power_flow.specs.StateValue.{StateValue}
use Rattle.text_commands.specs.Steps.Setting.{fits_after}
use Rattle.text_commands.proofs.KeptVariables.{kept_more, off_all}
use Rattle.text_commands.proofs.restarting.restart.Goals as goal

pub keep_variable-requires : goal.keep_variable-requires
keep_variable-requires c =
    (c.args.ladder.now.declarations, c.loop-place.invariant.1 c.args.ladder.now.declarations c.in_ok-fresh.ensures.fits.slots, c.requires.slots)

pub loop-place-preserved : goal.loop-place-preserved
loop-place-preserved c = (
  kept_more c.args.kept.now c.loop-place.place-index (get_or c.args.kept.now c.loop-place.place-index 0) c.in_ok-fresh.fresh c.loop-place.fresh c.keep_variable.new.fresh c.args.state.now.slots c.loop-place-test.true refl c.loop-place.invariant.0
      c.keep_variable.ensures.slots,
  λ ds are. c.keep_variable.ensures.declared ds (c.loop-place.invariant.1 ds are),
)

pub returns-clause-memories : goal.returns-clause-memories
returns-clause-memories c =
    ap (λ (s : StateValue). s.memories) c.loop-place.invariant.0 ∙ off_all c.in_ok-fresh.fresh.memories _ c.in_ok-fresh.ensures.fits.memories c.in_ok-fresh.ensures.memories

pub returns-clause-fits : goal.returns-clause-fits
returns-clause-fits c = fits_after c.args.ladder.now c.in_ok-fresh.fresh c.loop-place.fresh _ c.in_ok-fresh.ensures.fits c.loop-place.invariant.0 c.loop-place.invariant.1
