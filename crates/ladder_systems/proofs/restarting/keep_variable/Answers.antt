use Rattle.std.proofs.Common.{refl, sym, ap}
use Rattle.scan_gates.specs.Encoded.{slots_at}
use Rattle.text_commands.specs.Series.{set_value}
use Rattle.ladder_systems.proofs.Shapes.{variable_there}
use Rattle.ladder_systems.proofs.restarting.keep_variable.Goals as goal

pub returns-in-Some-clause-of : goal.returns-in-Some-clause-of
returns-in-Some-clause-of c = λ ds slots fresh.
    c.put_variable.ensures.of ds (variable_there ds c.args.slots.now c.args.place c.in-Some.value slots (c.in-Some.ensures.there c.in-Some.value refl)) fresh

pub returns-in_default-clause-slots : goal.returns-in_default-clause-slots
returns-in_default-clause-slots c = λ v. sym (ap (set_value (slots_at v c.args.fresh.now) c.args.place) (c.in_default.ensures.value v))
