use Rattle.scan_gates.proofs.ContactsRead.{same_fields}
use Rattle.scan_gates.proofs.contact.Contact.of.Goals as goal

pub returns : goal.returns
returns c = same_fields c.kind.result c.row.result c.source.result c.memory.result c.args.contact.now c.kind.ensures c.row.ensures c.source.ensures c.memory.ensures
