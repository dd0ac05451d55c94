use Rattle.std.proofs.Common.{sym, ◌∙◌}
use Rattle.scan_gates.specs.Encoded.{slots_at}
use Rattle.ladder_systems.proofs.Opened.{held_done, held_next_of}
use Rattle.ladder_systems.proofs.opening.assign_held.Goals as goal

pub loop-setting-preserved : goal.loop-setting-preserved
loop-setting-preserved c = record {
  slots = λ v agrees.
      held_next_of c.args.held.now c.loop-setting.setting-index _ (slots_at v c.loop-setting.slots) (slots_at v c.assign.new.slots) c.loop-setting-test.true
      (c.in_ok-assign.ensures.slots v agrees)
      ∙ c.loop-setting.invariant.slots v agrees;
  of = λ ds holds of. c.in_ok-assign.ensures.of ds (holds c.loop-setting.setting-index _ c.loop-setting-test.true) (c.loop-setting.invariant.of ds holds of);
}

pub returns-clause-slots : goal.returns-clause-slots
returns-clause-slots c = λ v agrees.
    sym (held_done c.args.held.now c.loop-setting.setting-index (slots_at v c.loop-setting.slots) c.loop-setting-test.false) ∙ c.loop-setting.invariant.slots v agrees
