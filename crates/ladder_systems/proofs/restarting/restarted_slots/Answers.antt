use Rattle.std.proofs.Common.{◌≡◌, length, ap, ◌∙◌, arith}
use Rattle.scan_gates.specs.Encoded.{slots_at}
use Rattle.text_commands.specs.Restarts.{restarted}
use Rattle.ladder_systems.proofs.Pushing.{written}
use Rattle.ladder_systems.proofs.restarting.restarted_slots.Goals as goal

pub returns-clause-slots : goal.returns-clause-slots
returns-clause-slots c = λ v.
    let long : length c.keep_variables.new.fresh ≡ c.in_ok-fresh.fresh.len =
    omega (arith, c.keep_variables.auto.fresh, ap length c.deref_mut.ensures.value, c.in_ok-fresh.fresh.ok.0) in
    ap (slots_at v) (written c.in_ok-fresh.fresh.len c.keep_variables.new.fresh c.in_ok-fresh.fresh.items long)
    ∙ c.keep_variables.ensures.slots v
    ∙ ap (λ l. restarted c.args.kept.now (slots_at v l) (slots_at v c.args.slots.now)) (c.deref_mut.ensures.value ∙ c.in_ok-fresh.ensures.items)

pub returns-clause-of : goal.returns-clause-of
returns-clause-of c = λ ds slots first.
    let long : length c.keep_variables.new.fresh ≡ c.in_ok-fresh.fresh.len =
    omega (arith, c.keep_variables.auto.fresh, ap length c.deref_mut.ensures.value, c.in_ok-fresh.fresh.ok.0) in
    rw (written c.in_ok-fresh.fresh.len c.keep_variables.new.fresh c.in_ok-fresh.fresh.items long)
    (c.keep_variables.ensures.of ds slots (rw (c.deref_mut.ensures.value ∙ c.in_ok-fresh.ensures.items) first))
