use Rattle.scan_gates.specs.Encoded.{bits_at, slots_at}
use Rattle.scan_gates.proofs.ContactsRead.{same_pair}
use Rattle.scan_gates.proofs.Results.{on_ok}
use Rattle.scan_gates.proofs.stepping.read_pair_over.Goals as goal

pub returns : goal.returns
returns c = on_ok _ _ c.read_pair.result c.read_pair.ensures (λ built v agrees.
    let read = built v agrees in
    let joined = c.in_ok-join_off.ensures v read.0 in (
      joined.0,
      (
        bits_at v c.join_off.new.rows,
        joined.1,
        same_pair _ _ _ _ (slots_at v c.args.slots.now) (bits_at v c.join_off.new.rows) (bits_at v c.args.memories.now)
            (bits_at v c.read_pair.new.rows) (bits_at v c.read_pair.new.memories) c.first_over-first.ensures c.second_over-second.ensures read.1,
      ),
    ))
