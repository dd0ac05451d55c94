use Rattle.std.proofs.Common.{◌+◌, ◌≤◌, inl, inr, refl, arith}
use Rattle.network.specs.Links.{place}
use Rattle.network.proofs.Joined.RowTables.{puts_one}
use Rattle.network.proofs.joining.pairs.put_last.Goals as goal

pub overflow_add-column : goal.overflow_add-column
overflow_add-column c =
    let x = c.in-Contact.contact.now in
    let near = (rw c.in-Contact.is at c.requires) (place x.row (x.column + 2)) (inr (inl (refl, omega arith, omega arith))) in
    let few : x.column + 2 ≤ 240 = near.1 in
    omega arith

pub put-requires-in-Contact : goal.put-requires-in-Contact
put-requires-in-Contact c = let x = c.in-Contact.contact.now in ((rw c.in-Contact.is at c.requires) (place x.row x.column) (inl refl)).0

pub overflow_add-column-in-Coil : goal.overflow_add-column-in-Coil
overflow_add-column-in-Coil c =
    let x = c.in-Coil.coil.now in
    let near = (rw c.in-Coil.is at c.requires) (place x.row (x.column + 2)) (inr (inl (refl, omega arith, omega arith))) in
    let few : x.column + 2 ≤ 240 = near.1 in
    omega arith

pub put-requires-in-Coil : goal.put-requires-in-Coil
put-requires-in-Coil c = let x = c.in-Coil.coil.now in ((rw c.in-Coil.is at c.requires) (place x.row x.column) (inl refl)).0

pub put_pins-requires : goal.put_pins-requires
put_pins-requires c = λ p is. ((rw c.in-Box.is at c.requires) p (inr (inl is))).0

pub put-requires : goal.put-requires
put-requires c = ((rw c.in-Wire.is at c.requires) c.in-Wire.at (inl refl)).0

pub put-requires-in-Join : goal.put-requires-in-Join
put-requires-in-Join c = ((rw c.in-Join.is at c.requires) c.in-Join.at (inl refl)).0

pub returns-in-Contact-clause-puts : goal.returns-in-Contact-clause-puts
returns-in-Contact-clause-puts c =
    let x = c.in-Contact.contact.now in
    let within = ((rw c.in-Contact.is at c.requires) (place x.row x.column) (inl refl)).0 in
    rw (c.in-Contact.is, c.put-in-Contact.ensures) (puts_one (place x.row (x.column + 2)) c.args.k c.args.last.now within)

pub returns-in-Coil-clause-puts : goal.returns-in-Coil-clause-puts
returns-in-Coil-clause-puts c =
    let x = c.in-Coil.coil.now in
    let within = ((rw c.in-Coil.is at c.requires) (place x.row x.column) (inl refl)).0 in
    rw (c.in-Coil.is, c.put-in-Coil.ensures) (puts_one (place x.row (x.column + 2)) c.args.k c.args.last.now within)

pub returns-in-Wire-clause-puts : goal.returns-in-Wire-clause-puts
returns-in-Wire-clause-puts c = rw (c.in-Wire.is, c.put.ensures) (puts_one c.in-Wire.at c.args.k c.args.last.now ((rw c.in-Wire.is at c.requires) c.in-Wire.at (inl refl)).0)

pub returns-in-Join-clause-puts : goal.returns-in-Join-clause-puts
returns-in-Join-clause-puts c = rw (c.in-Join.is, c.put-in-Join.ensures) (puts_one c.in-Join.at c.args.k c.args.last.now ((rw c.in-Join.is at c.requires) c.in-Join.at (inl refl)).0)
