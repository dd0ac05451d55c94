-- Elements of a drawing in few bytes: what each entry of a list stands for.
use Rattle.std.specs.Prelude.{List, Option, Some, None, slice_get, map}
use Rattle.drawings.specs.Picture.{Picture}
use Rattle.drawings.specs.Symbols.{Contact as DrawnContact}
use Rattle.drawings.specs.Symbols.{Coil as DrawnCoil}
use Rattle.drawings.specs.declared.drawn_box.DrawnBox.{DrawnBox}
use Rattle.network.specs.declared.element.Element.{Element}
use Rattle.network.specs.declared.element.Element.TheVariants.{Wire, Join, Upright, Contact, Coil, Box}
use Rattle.network.specs.declared.listing.listed.Entry.{Entry}
use Rattle.network.specs.declared.listing.listed.Entry.TheVariants.{Wire as WireEntry, Join as JoinEntry, Upright as UprightEntry, Contact as ContactEntry, Coil as CoilEntry, Box as BoxEntry}
use Rattle.network.specs.declared.listing.listed.Seen.{Seen}
use Rattle.network.specs.declared.listing.listed.Seen.TheVariants.{Wire as WireSeen, Join as JoinSeen, Upright as UprightSeen, Contact as ContactSeen, Coil as CoilSeen, Box as BoxSeen}
use Rattle.network.specs.Links.{place}

-- the element that is seen
abbrev pub element_seen : Seen → Element
element_seen (WireSeen at) = Wire at
element_seen (JoinSeen at) = Join at
element_seen (UprightSeen at) = Upright at
element_seen (ContactSeen c) = Contact c.now
element_seen (CoilSeen c) = Coil c.now
element_seen (BoxSeen b) = Box b.now

-- a contact that was sought; where there is none, a wire nowhere
abbrev pub contact_or_wire : Option DrawnContact → Element
contact_or_wire None = Wire (place 0 0)
contact_or_wire (Some c) = Contact c

-- a coil that was sought; where there is none, a wire nowhere
abbrev pub coil_or_wire : Option DrawnCoil → Element
coil_or_wire None = Wire (place 0 0)
coil_or_wire (Some c) = Coil c

-- a box that was sought; where there is none, a wire nowhere
abbrev pub box_or_wire : Option DrawnBox → Element
box_or_wire None = Wire (place 0 0)
box_or_wire (Some b) = Box b

-- what an entry stands for in a drawing: what is at its place, or the contact, coil or box of its number
abbrev pub element_of : Picture → Entry → Element
element_of g (WireEntry at) = Wire (place at.row at.column)
element_of g (JoinEntry at) = Join (place at.row at.column)
element_of g (UprightEntry at) = Upright (place at.row at.column)
element_of g (ContactEntry k) = contact_or_wire (slice_get g.contacts k)
element_of g (CoilEntry k) = coil_or_wire (slice_get g.coils k)
element_of g (BoxEntry k) = box_or_wire (slice_get g.boxes k)

-- what entries stand for, in their order
abbrev pub stand_for : Picture → List Entry → List Element
stand_for g entries = map (element_of g) entries
