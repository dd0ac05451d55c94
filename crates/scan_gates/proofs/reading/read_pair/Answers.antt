use Rattle.scan_gates.specs.Encoded.{bits_at, slots_at}
use Rattle.scan_gates.specs.Steps.Pairs.{contact_value}
use Rattle.scan_gates.proofs.ContactsRead.{pair_read}
use Rattle.scan_gates.proofs.Results.{on_ok}
use Rattle.scan_gates.proofs.reading.read_pair.Goals as goal

pub returns : goal.returns
returns c = on_ok _ _ c.read_contact-2.result c.read_contact-2.ensures (λ built v agrees.
    let second = built v agrees in
    let first = c.in_ok-read_contact.ensures v second.0 in (
      first.0,
      pair_read (contact_value c.args.first) (contact_value c.args.second) (slots_at v c.args.slots.now) (bits_at v c.args.rows.now) (bits_at v c.args.memories.now)
          (bits_at v c.read_contact.new.rows) (bits_at v c.read_contact.new.memories) (bits_at v c.read_contact-2.new.rows) (bits_at v c.read_contact-2.new.memories)
          first.1 second.1,
    ))
