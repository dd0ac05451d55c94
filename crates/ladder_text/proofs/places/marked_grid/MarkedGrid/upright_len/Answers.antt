use Rattle.std.proofs.Common.{length, ap, sym, arith, rules}
use Rattle.ladder_rows.specs.Rows.{Rows, height}
use Rattle.ladder_text.specs.Places.{layout_of, mark, is_vertical}
use Rattle.ladder_text.proofs.places.marked_grid.MarkedGrid.upright_len.Goals as goal

pub returns-else-is_vertical-clause-len : goal.returns-else-is_vertical-clause-len
unfolding layout_of
returns-else-is_vertical-clause-len c =
    let a = c.args in
    let size = ap (λ (d : Rows). length d) c.self.view_is in
    sym (c.runs_end.ensures (λ k. is_vertical (mark (layout_of a.self.now) k a.column)) a.row c.loop-n.n (height a.self.now) (omega (arith, size)) c.loop-n.invariant.1 (λ k. search rules))

pub returns-after-loop-n-clause-len : goal.returns-after-loop-n-clause-len
unfolding layout_of
returns-after-loop-n-clause-len c =
    let a = c.args in
    let size = ap (λ (d : Rows). length d) c.self.view_is in
    sym (c.runs_end.ensures (λ k. is_vertical (mark (layout_of a.self.now) k a.column)) a.row c.loop-n.n (height a.self.now) (omega (arith, size)) c.loop-n.invariant.1 (λ k. absurd (omega (arith, size))))
