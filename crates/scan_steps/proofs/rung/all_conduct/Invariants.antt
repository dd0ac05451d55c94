use Rattle.std.proofs.Common.{◌≡◌, drop, true}
use Rattle.scan_steps.specs.Steps.Passing.{behind_all}
use Rattle.scan_steps.proofs.rung.all_conduct.Given as goal

abbrev pub invariant-loop-contact : goal.invariant-loop-contact
invariant-loop-contact l = behind_all l.slots l.on (drop l.contact-index l.contacts) ≡ behind_all l.slots true l.contacts
