use Rattle.std.proofs.Common.{sym, ◌∙◌}
use Rattle.scan_gates.specs.Encoded.{bits_at, slots_at}
use Rattle.ladder_systems.proofs.Opened.{row_done, row_next_of}
use Rattle.ladder_systems.proofs.Shapes.{bool_there}
use Rattle.ladder_systems.proofs.opening.assign_row.Goals as goal

pub loop-digit-preserved : goal.loop-digit-preserved
loop-digit-preserved c =
    let i = c.loop-digit.digit in
    record {
      slots = λ v.
          row_next_of v c.args.free.now c.args.row.now i _ _ (slots_at v c.loop-digit.slots) (slots_at v c.put_variable.new.slots) c.loop-digit-test.true c.requires
          (c.put_variable.ensures.slots v)
          ∙ c.loop-digit.invariant.slots v;
      of = λ ds bools of. c.put_variable.ensures.of ds (bool_there ds _ (bools i _ c.loop-digit-test.true)) (c.loop-digit.invariant.of ds bools of);
    }

pub returns-clause-slots : goal.returns-clause-slots
returns-clause-slots c = λ v.
    sym (row_done c.args.free.now (bits_at v c.args.row.now) c.loop-digit.digit (slots_at v c.loop-digit.slots) c.loop-digit-test.false) ∙ c.loop-digit.invariant.slots v
