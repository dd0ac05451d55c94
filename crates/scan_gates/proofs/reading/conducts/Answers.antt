use Rattle.std.proofs.Common.{◌&&◌, ap, ◌∙◌}
use Rattle.gates.specs.Signals.{signal_value}
use Rattle.scan_gates.proofs.Results.{if_ok}
use Rattle.scan_gates.proofs.reading.conducts.Goals as goal

pub returns-in-Rise : goal.returns-in-Rise
returns-in-Rise c = rw c.in-Rise.is (if_ok _ _ c.and.result c.and.ensures (λ s built v agrees.
    let and = built v agrees in
    (and.0, and.1 ∙ ap (λ b. signal_value v c.args.on && b) (c.negated-in-Rise.ensures v))))

pub returns-in-Fall : goal.returns-in-Fall
returns-in-Fall c = rw c.in-Fall.is (if_ok _ _ c.and-in-Fall.result c.and-in-Fall.ensures (λ s built v agrees.
    let and = built v agrees in
    (and.0, and.1 ∙ ap (λ b. b && signal_value v c.args.memory) (c.negated-in-Fall.ensures v))))
