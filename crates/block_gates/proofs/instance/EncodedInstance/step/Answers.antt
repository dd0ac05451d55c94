use Rattle.gate_words.specs.Values.{time_at}
use Rattle.block_gates.proofs.Stepped.{reset_stepped, set_stepped}
use Rattle.block_gates.proofs.instance.EncodedInstance.step.Goals as goal

pub returns-in_ok-on-in-SR-clause-stepped : goal.returns-in_ok-on-in-SR-clause-stepped
returns-in_ok-on-in-SR-clause-stepped c = rw c.in-SR.is (λ v agrees.
    let on = c.in_ok-on-in-SR.ensures v agrees in
    (on.0, set_stepped v c.in_ok-on-in-SR.on c.in-SR.q1 c.args.pins.now (time_at v c.args.dt.now) on.1))

pub returns-in_ok-on-in-RS-clause-stepped : goal.returns-in_ok-on-in-RS-clause-stepped
returns-in_ok-on-in-RS-clause-stepped c = rw c.in-RS.is (λ v agrees.
    let on = c.in_ok-on-in-RS.ensures v agrees in
    (on.0, reset_stepped v c.in_ok-on-in-RS.on c.in-RS.q1 c.args.pins.now (time_at v c.args.dt.now) on.1))

pub returns-in_ok-new-in-CTU-clause-stepped : goal.returns-in_ok-new-in-CTU-clause-stepped
returns-in_ok-new-in-CTU-clause-stepped c = rw c.in-CTU.is c.in_ok-new-in-CTU.ensures

pub returns-in_ok-new-in-CTD-clause-stepped : goal.returns-in_ok-new-in-CTD-clause-stepped
returns-in_ok-new-in-CTD-clause-stepped c = rw c.in-CTD.is c.in_ok-new-in-CTD.ensures

pub returns-in_ok-new-in-CTUD-clause-stepped : goal.returns-in_ok-new-in-CTUD-clause-stepped
returns-in_ok-new-in-CTUD-clause-stepped c = rw c.in-CTUD.is c.in_ok-new-in-CTUD.ensures

pub returns-in_ok-new-in-TP-clause-stepped : goal.returns-in_ok-new-in-TP-clause-stepped
returns-in_ok-new-in-TP-clause-stepped c = rw c.in-TP.is c.in_ok-new-in-TP.ensures

pub returns-in_ok-new-in-TON-clause-stepped : goal.returns-in_ok-new-in-TON-clause-stepped
returns-in_ok-new-in-TON-clause-stepped c = rw c.in-TON.is c.in_ok-new-in-TON.ensures

pub returns-in_ok-new-in-TOF-clause-stepped : goal.returns-in_ok-new-in-TOF-clause-stepped
returns-in_ok-new-in-TOF-clause-stepped c = rw c.in-TOF.is c.in_ok-new-in-TOF.ensures
