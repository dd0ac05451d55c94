use Rattle.std.proofs.Common.{◌+◌, ◌-◌, sym, arith, ◌∙◌}
use Rattle.ladder_rows.specs.Rows.{char_at, width}
use Rattle.ladder_rows.proofs.Rows.Runs.{run-of_char}
use Rattle.ladder_rows.proofs.characters.grid.Grid.dashes_after.Goals as goal

pub returns-else-at-eq45-clause-dashes : goal.returns-else-at-eq45-clause-dashes
returns-else-at-eq45-clause-dashes c =
    let a = c.args in
    sym (run-of_char (λ k. char_at a.self.now a.row k) 45 (a.column + 1) c.loop-n.n (width a.self.now - a.column) (omega arith) c.loop-n.invariant.1 (λ k e. c.if-at-eq45.false (c.at.ensures ∙ e)))

pub returns-after-loop-n-clause-dashes : goal.returns-after-loop-n-clause-dashes
returns-after-loop-n-clause-dashes c =
    let a = c.args in
    sym (run-of_char (λ k. char_at a.self.now a.row k) 45 (a.column + 1) c.loop-n.n (width a.self.now - a.column) (omega arith) c.loop-n.invariant.1 (λ k. absurd (omega arith)))
