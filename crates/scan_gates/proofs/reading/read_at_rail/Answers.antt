use Rattle.scan_steps.specs.Steps.Contacts.{contact_of}
use Rattle.std.proofs.Common.{true, set}
use Rattle.scan_gates.specs.Encoded.{bits_at, slots_at}
use Rattle.scan_gates.specs.Steps.Pairs.{contact_value}
use Rattle.scan_gates.proofs.ContactsRead.{same_read}
use Rattle.scan_gates.proofs.Results.{on_ok}
use Rattle.scan_gates.proofs.reading.read_at_rail.Goals as goal

pub returns : goal.returns
returns c = on_ok _ _ c.read_contact.result c.read_contact.ensures (λ built v agrees.
    let read = built v agrees in (
      read.0,
      same_read (contact_value c.of_variable.result) (contact_of c.args.contact.now) (slots_at v c.args.slots.now) (bits_at v c.read_contact.new.rows)
          (set (bits_at v c.args.rows.now) c.args.contact.now.row true) (bits_at v c.set_row.new.rows) (bits_at v c.args.memories.now) (bits_at v c.read_contact.new.memories)
          c.of_variable.ensures (c.set_row.ensures v read.0) read.1,
    ))
