-- The states of rows, links and memories, and whether a contact conducts.
use Rattle.std.specs.Prelude.{ℕ, List, Bool, false, not, ◌&&◌, slice_index_or}
use Rattle.drawings.specs.declared.contact.ContactKind.{ContactKind}
use Rattle.drawings.specs.declared.contact.ContactKind.TheVariants as contact

-- the bit at k, OFF beyond the last one
abbrev pub bit_at : List Bool → ℕ → Bool
bit_at bits k = slice_index_or bits k false

-- whether a contact conducts, by its variable and its memory
abbrev pub contact_conducts : ContactKind → Bool → Bool → Bool
contact_conducts contact.Plain on memory = on
contact_conducts contact.Negated on memory = not on
contact_conducts contact.Rise on memory = on && not memory
contact_conducts contact.Fall on memory = not on && memory

-- the memory of an edge contact becomes its variable's value
abbrev pub contact_memory : ContactKind → Bool → Bool → Bool
contact_memory contact.Plain on memory = memory
contact_memory contact.Negated on memory = memory
contact_memory contact.Rise on memory = on
contact_memory contact.Fall on memory = on
