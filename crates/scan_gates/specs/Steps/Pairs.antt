-- Contacts as they are read.
use Rattle.std.specs.Prelude.{◌≡◌, List, Bool}
use Rattle.scan_steps.specs.declared.slot.Slot.{Slot}
use Rattle.scan_steps.specs.Steps.Contacts.{ContactValue}
use Rattle.scan_steps.specs.Steps.Passing.{read_rows, read_memories}
use Rattle.scan_gates.specs.declared.contact.Contact.{Contact}

abbrev pub contact_value : Contact → ContactValue
contact_value c = record { kind = c.kind; row = c.row; source = c.source; memory = c.memory }

-- two contacts are read, one after the other
abbrev pub IsPairReadBy : ContactValue → ContactValue → List Slot → List Bool → List Bool → List Bool → List Bool → Type 0
IsPairReadBy first second slots rows memories new later =
    (new ≡ read_rows second slots (read_rows first slots rows memories) (read_memories first slots memories))
    × (later ≡ read_memories second slots (read_memories first slots memories))
