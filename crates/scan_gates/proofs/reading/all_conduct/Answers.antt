use Rattle.std.proofs.Common.{sym, ap, ◌∙◌}
use Rattle.std.proofs.lemmas.List.{at_drop_all}
use Rattle.gates.specs.Signals.{signal_value}
use Rattle.scan_steps.specs.Steps.Passing.{behind_all}
use Rattle.scan_gates.specs.Encoded.{slots_at}
use Rattle.scan_gates.proofs.ContactsRead.{behind_more}
use Rattle.scan_gates.proofs.reading.all_conduct.Goals as goal

pub loop-contact-init : goal.loop-contact-init
loop-contact-init c = λ v agrees. (agrees, ap (λ b. behind_all (slots_at v c.args.slots.now) b c.args.contacts.now) (c.constant-on.ensures v agrees))

pub loop-contact-preserved : goal.loop-contact-preserved
loop-contact-preserved c = λ v agrees.
    let and = c.in_ok-on.ensures v agrees in
    let was = c.loop-contact.invariant v and.0 in (
      was.0,
      behind_more v (slots_at v c.args.slots.now) c.args.contacts.now c.loop-contact.contact-index _ c.loop-contact.on c.variable_conducts-here.result c.in_ok-on.on _ c.loop-contact-test.true
          was.1 and.1 (c.variable_conducts-here.ensures v and.0),
    )

pub returns : goal.returns
returns c = λ v agrees.
    let was = c.loop-contact.invariant v agrees in
    (was.0, sym (at_drop_all (behind_all (slots_at v c.args.slots.now) (signal_value v c.loop-contact.on)) c.args.contacts.now c.loop-contact.contact-index c.loop-contact-test.false) ∙ was.1)
