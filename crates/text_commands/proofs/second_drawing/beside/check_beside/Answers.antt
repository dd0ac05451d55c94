use Rattle.std.proofs.Common.{ℕ, ap, ◌∙◌}
use Rattle.network.specs.declared.fault.GraphFaultKind.TheVariants.{InstanceTwice}
use Rattle.text_commands.specs.SecondDrawing.{joined_names}
use Rattle.text_commands.proofs.SecondDrawings.{beside_names, beside_twice}
use Rattle.text_commands.proofs.second_drawing.beside.check_beside.Goals as goal

pub returns-in-Some-twice : goal.returns-in-Some-twice
returns-in-Some-twice c =
    let below = rw (c.rails.ensures, c.rails-2.ensures) at c.in_default.ensures in
    let twice = rw c.boxes.ensures at c.in-Some-twice.ensures in
    record {
      err = beside_twice c.args.rows c.args.first.now c.args.second.now c.args.names.now c.args.others.now c.in-Some-twice.place _ below twice
          (ap (λ (n : ℕ). record { kind = InstanceTwice; line = n; column = c.in-Some-twice.place.column }) c.line_below-in-Some-twice.ensures);
    }

pub returns-in-Some-first : goal.returns-in-Some-first
returns-in-Some-first c =
    let below = rw (c.rails.ensures, c.rails-2.ensures) at c.in_default.ensures in
    let none = rw c.boxes.ensures at c.in_default-twice.ensures in
    let names = c.in_ok-add_names.ensures ∙ ap (λ ds. joined_names ds c.args.others.now) c.in_ok-seen.ensures in
    record {
      err = beside_names c.args.rows c.args.first.now c.args.second.now c.args.names.now c.args.others.now _ c.in-Some-first.fault _ below none names c.in-Some-first.ensures.first c.bind_fault_below.ensures;
    }
