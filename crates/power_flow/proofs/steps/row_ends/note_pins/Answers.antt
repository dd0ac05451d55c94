use Rattle.std.proofs.Common.{sym, arith}
use Rattle.power_flow.proofs.Walks.Leading.{pins_more_left, pins_more_right, pin_at}
use Rattle.power_flow.proofs.steps.row_ends.note_pins.Goals as goal
use Rattle.power_flow.proofs.steps.row_ends.note_pins.Goals.{in-Left, in-Right}

pub note-requires-clause-row : goal.note-requires-clause-row
note-requires-clause-row c =
    let lt = rw c.as_slice-pin-items.ensures at c.loop-pin-test.true in
    let is = rw c.as_slice-pin-items.ensures at c.pin-item.is in
    let h = c.requires.rows c.pin-item.result (c.loop-pin.pin-index, lt, sym is) in
    let low = h.0 in let high = h.1 in
    let long = c.loop-pin.invariant.long in
    omega arith

pub note-requires-clause-column : goal.note-requires-clause-column
note-requires-clause-column c =
    let lt = rw c.as_slice-pin-items.ensures at c.loop-pin-test.true in
    let is = rw c.as_slice-pin-items.ensures at c.pin-item.is in
    c.requires.column c.pin-item.result (c.loop-pin.pin-index, lt, sym is) c.in-Right.is

pub loop-pin-preserved : goal.loop-pin-preserved
loop-pin-preserved c =
    let lt = rw c.as_slice-pin-items.ensures at c.loop-pin-test.true in
    let is = rw c.as_slice-pin-items.ensures at c.pin-item.is in
    let b = c.args.drawn.now in
    let pin = c.pin-item.result in
    let n = c.loop-pin.pin-index in
    let there = pin_at b.pins n pin lt is in
    let h = c.requires.rows pin (n, lt, sym is) in
    let low = h.0 in let high = h.1 in
    let long = c.loop-pin.invariant.long in
    elim c.match-pin.branch [
      | in-Left w ↦ record {
        ends = λ d k are. rw w.ends-is (pins_more_left d c.args.top k c.loop-pin.ends b n pin there w.in-Left.is (c.loop-pin.invariant.ends d k are));
        long = rw w.ends-is long;
      }
      | in-Right w ↦ record {
        ends = λ d k are. rw (w.ends-is, w.note.ensures) (pins_more_right d c.args.top k c.loop-pin.ends b n pin there w.in-Right.is low (omega arith) (c.loop-pin.invariant.ends d k are));
        long = (let same = c.match-pin.auto.ends in omega arith);
      }
    ]
