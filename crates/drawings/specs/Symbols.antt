-- Contacts and coils as they are drawn.
use Rattle.drawings.specs.declared.contact.ContactKind.{ContactKind}
use Rattle.drawings.specs.declared.coil.CoilKind.{CoilKind}
use Rattle.drawings.specs.declared.symbol.Symbol.{Symbol}

-- a contact, by the first of its three places
abbrev pub Contact : Type 0
Contact = Symbol ContactKind

-- a coil, by the first of its three places
abbrev pub Coil : Type 0
Coil = Symbol CoilKind
