use Rattle.std.proofs.Common.{sym, ◌∙◌}
use Rattle.std.proofs.lemmas.List.{at_drop_all}
use Rattle.scan_gates.specs.Encoded.{slots_at}
use Rattle.text_commands.specs.Restarts.{restarted}
use Rattle.ladder_systems.proofs.Pushing.{kept_more}
use Rattle.ladder_systems.proofs.restarting.keep_variables.Goals as goal

pub loop-place-preserved : goal.loop-place-preserved
loop-place-preserved c = record {
  slots = λ v.
      kept_more c.args.kept.now c.loop-place.place-index _ (slots_at v c.loop-place.fresh) (slots_at v c.keep_variable.new.fresh) (slots_at v c.args.slots.now) c.loop-place-test.true
      (c.keep_variable.ensures.slots v)
      ∙ c.loop-place.invariant.slots v;
  of = λ ds slots first. c.keep_variable.ensures.of ds slots (c.loop-place.invariant.of ds slots first);
}

pub returns-clause-slots : goal.returns-clause-slots
returns-clause-slots c = λ v.
    sym (at_drop_all (λ l. restarted l (slots_at v c.loop-place.fresh) (slots_at v c.args.slots.now)) c.args.kept.now c.loop-place.place-index c.loop-place-test.false)
    ∙ c.loop-place.invariant.slots v
