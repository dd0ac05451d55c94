use Rattle.ladder_systems.proofs.state_signals.first_bits.Goals as goal

pub returns : goal.returns
returns c = rw (c.deref-2.ensures.value, c.in_ok-signals.ensures, c.deref.ensures.value, c.in_ok-memories.ensures) at c.values_at_none.ensures
