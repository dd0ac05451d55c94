use Rattle.std.proofs.Common.{ℕ, ◌<◌, get_or}
use Rattle.scan_steps.specs.declared.bound_contact.VariableContact.{VariableContact}
use Rattle.power_flow.proofs.steps.lone_rung.are_within.Given as goal

abbrev pub invariant-loop-contact : goal.invariant-loop-contact
invariant-loop-contact l = (k : ℕ) (d : VariableContact) → k < l.contact-index → (get_or l.contacts k d).place < l.count
