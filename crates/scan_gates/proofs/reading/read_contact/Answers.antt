use Rattle.scan_gates.specs.Encoded.{slots_at}
use Rattle.scan_gates.proofs.ContactsRead.{rows_read, memories_read}
use Rattle.scan_gates.proofs.reading.read_contact.Goals as goal

pub returns : goal.returns
returns c = λ v agrees.
    let contact = c.args.contact in
    let slots = slots_at v c.args.slots.now in
    let and = c.in_ok-behind.ensures v agrees in
    let conducting = c.in_ok-conducting.ensures v and.0 in
    let source = c.source_on-on.ensures v conducting.0 in (
      conducting.0,
      (
        rows_read v c.args.rows.now c.args.memories.now slots contact _ _ c.in_ok-behind.behind c.in_ok-conducting.conducting c.source_on-on.result c.requires.row c.requires.memory
            and.1 conducting.1 source,
        memories_read v c.args.memories.now slots contact _ c.next_memory.result c.source_on-on.result c.requires.memory (c.next_memory.ensures v) source,
      ),
    )
