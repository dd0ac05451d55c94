use Rattle.std.proofs.Common.{◌≡◌, ◌<◌, length, refl, sym, ap, arith}
use Rattle.scan_steps.specs.Steps.Passing.{pass_of}
use Rattle.scan_gates.specs.Encoded.{bits_at, slots_at, instances_at}
use Rattle.scan_gates.specs.Steps.Pairs.{contact_value}
use Rattle.scan_gates.proofs.Bits.{bits_set, bit_there}
use Rattle.scan_gates.proofs.ContactsRead.{same_pair, same_read as contact_read}
use Rattle.scan_gates.proofs.Passed.{same_read, same_linked}
use Rattle.scan_gates.proofs.Results.{on_ok}
use Rattle.scan_gates.proofs.stepping.obey.Goals as goal

pub returns-in_ok-join_rows-in-Upright :
    goal.returns-in_ok-join_rows-in-Upright
returns-in_ok-join_rows-in-Upright c = rw c.in-Upright.is (λ v agrees.
    let joined = c.in_ok-join_rows-in-Upright.ensures v agrees in
    (joined.0, (joined.1, refl, refl, refl)))

pub returns-in_ok-join_off-in-OffUpright :
    goal.returns-in_ok-join_off-in-OffUpright
returns-in_ok-join_off-in-OffUpright c = rw c.in-OffUpright.is (λ v agrees.
    let joined = c.in_ok-join_off-in-OffUpright.ensures v agrees in
    (joined.0, (joined.1, refl, refl, refl)))

pub returns-in_ok-join_off-in-Down : goal.returns-in_ok-join_off-in-Down
returns-in_ok-join_off-in-Down c = rw c.in-Down.is (λ v agrees.
    let joined = c.in_ok-join_off-in-Down.ensures v agrees in
    (joined.0, (joined.1, refl, refl, refl)))

pub returns-in_ok-join_off-in-Up : goal.returns-in_ok-join_off-in-Up
returns-in_ok-join_off-in-Up c = rw c.in-Up.is (λ v agrees.
    let joined = c.in_ok-join_off-in-Up.ensures v agrees in
    (joined.0, (joined.1, refl, refl, refl)))

pub returns-in_ok-read_contact-in-Contact :
    goal.returns-in_ok-read_contact-in-Contact
returns-in_ok-read_contact-in-Contact c = rw c.in-Contact.is (λ v agrees.
    let read = c.in_ok-read_contact-in-Contact.ensures v agrees in
    let rows = bits_at v c.args.rows.now in
    let same = contact_read (contact_value c.of.result) _ (slots_at v c.args.slots.now) (bits_at v c.read_contact.new.rows) rows rows (bits_at v c.args.memories.now) (bits_at v c.read_contact.new.memories)
    c.of.ensures refl read.1 in
    (read.0, same_read _ _ _ _ (bits_at v c.args.links.now) (instances_at v c.args.results.now) same.0 same.1))

pub returns-in_ok-read_at_rail-in-RailContact :
    goal.returns-in_ok-read_at_rail-in-RailContact
returns-in_ok-read_at_rail-in-RailContact c = rw c.in-RailContact.is (λ v agrees.
    let read = c.in_ok-read_at_rail-in-RailContact.ensures v agrees in
    (read.0, same_read _ _ _ _ (bits_at v c.args.links.now) (instances_at v c.args.results.now) read.1.0 read.1.1))

pub returns-in_ok-read_pair-in-Pair : goal.returns-in_ok-read_pair-in-Pair
returns-in_ok-read_pair-in-Pair c = rw c.in-Pair.is (λ v agrees.
    let read = c.in_ok-read_pair-in-Pair.ensures v agrees in
    let pair = same_pair _ _ _ _ (slots_at v c.args.slots.now) (bits_at v c.args.rows.now) (bits_at v c.args.memories.now) (bits_at v c.read_pair.new.rows) (bits_at v c.read_pair.new.memories)
    c.first-first.ensures c.second-second.ensures read.1 in
    (read.0, same_read _ _ _ _ (bits_at v c.args.links.now) (instances_at v c.args.results.now) pair.0 pair.1))

pub returns-in_ok-read_joined_pair-in-JoinedPair :
    goal.returns-in_ok-read_joined_pair-in-JoinedPair
returns-in_ok-read_joined_pair-in-JoinedPair c = rw c.in-JoinedPair.is (λ v agrees.
    let links = bits_at v c.args.links.now in
    let results = instances_at v c.args.results.now in
    let read = c.in_ok-read_joined_pair-in-JoinedPair.ensures v agrees in
    (read.0, (pass_of read.1.0 (bits_at v c.args.memories.now) links results, (read.1.1, refl, refl, refl), same_read _ _ _ _ links results read.1.2.0 read.1.2.1)))

pub returns-in_ok-read_pair_over-in-PairOver :
    goal.returns-in_ok-read_pair_over-in-PairOver
returns-in_ok-read_pair_over-in-PairOver c = rw c.in-PairOver.is (λ v agrees.
    let links = bits_at v c.args.links.now in
    let results = instances_at v c.args.results.now in
    let read = c.in_ok-read_pair_over-in-PairOver.ensures v agrees in
    (read.0, (pass_of read.1.0 (bits_at v c.args.memories.now) links results, (read.1.1, refl, refl, refl), same_read _ _ _ _ links results read.1.2.0 read.1.2.1)))

pub returns-in_ok-read_rung-in-Rung : goal.returns-in_ok-read_rung-in-Rung
returns-in_ok-read_rung-in-Rung c = rw c.in-Rung.is (λ v agrees.
    let read = c.in_ok-read_rung-in-Rung.ensures v agrees in
    (read.0, same_linked _ _ (bits_at v c.args.memories.now) _ _ (instances_at v c.args.results.now) read.1.0 read.1.1))

pub returns-in-Coil : goal.returns-in-Coil
returns-in-Coil c =
    let within : (c.in-Coil.row < length c.args.rows.now) × (c.in-Coil.coil < length c.args.links.now) = rw c.in-Coil.is at c.requires.step in
    rw c.in-Coil.is (λ v agrees. (
      agrees,
      ap (λ l. pass_of (bits_at v c.args.rows.now) (bits_at v c.args.memories.now) l (instances_at v c.args.results.now))
          (bits_set v c.args.links.now c.in-Coil.coil _ _ (sym (bit_there v c.args.rows.now c.in-Coil.row _ within.0))),
    ))

pub returns-in-Box : goal.returns-in-Box
returns-in-Box c = rw c.in-Box.is (on_ok _ _ c.obey_numbered.result c.obey_numbered.ensures (λ built v agrees.
    let obeyed = built v agrees in
    (obeyed.0, obeyed.1 (bits_at v c.args.memories.now) (bits_at v c.args.links.now))))

pub returns-in_ok-obey_numbered-in-BoxCoil :
    goal.returns-in_ok-obey_numbered-in-BoxCoil
returns-in_ok-obey_numbered-in-BoxCoil c =
    let row = c.in-BoxCoil.row in
    let new = c.obey_numbered-in-BoxCoil.new.rows in
    let all : (c.in-BoxCoil.number < length c.args.boxes.now) × (row < length c.args.rows.now) × (c.in-BoxCoil.coil < length c.args.links.now) = rw c.in-BoxCoil.is at c.requires.step in
    let before : row < length c.args.rows.now = all.1 in
    let long : length new ≡ length c.args.rows.now = c.obey_numbered-in-BoxCoil.auto.rows in
    let within : row < length new = omega (arith, before, long) in
    rw c.in-BoxCoil.is (λ v agrees.
    let memories = bits_at v c.args.memories.now in
    let links = bits_at v c.args.links.now in
    let results = instances_at v c.obey_numbered-in-BoxCoil.new.results in
    let obeyed = c.in_ok-obey_numbered-in-BoxCoil.ensures v agrees in (
      obeyed.0,
      (
        pass_of (bits_at v new) memories links results,
        obeyed.1 memories links,
        ap (λ l. pass_of (bits_at v new) memories l results) (bits_set v c.args.links.now c.in-BoxCoil.coil _ _ (sym (bit_there v new row _ within))),
      ),
    ))
