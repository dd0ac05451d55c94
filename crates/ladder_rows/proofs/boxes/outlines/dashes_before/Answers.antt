use Rattle.std.proofs.Common.{◌-◌, ◌==◌, ◌≢◌, ◌∙◌, sym, arith, rules, tests, eq-eqb}
use Rattle.ladder_rows.specs.Rows.{char_at}
use Rattle.ladder_rows.proofs.Rows.Runs.{run_back-is}
use Rattle.ladder_rows.proofs.boxes.outlines.dashes_before.Goals as goal

pub returns-else-at-eq45 : goal.returns-else-at-eq45
returns-else-at-eq45 c =
    let a = c.args in
    let ne : char_at a.grid.now a.row (a.column - 1 - c.loop-n.n) ≢ 45 = λ e. c.if-at-eq45.false (c.at.ensures ∙ e) in
    sym (run_back-is (λ k. char_at a.grid.now a.row k == 45) (a.column - 1) c.loop-n.n a.column (omega arith) (λ j k. eq-eqb (char_at a.grid.now a.row (a.column - 1 - j)) 45 (c.loop-n.invariant.1 j k)) (λ k. search (rules, tests)))

pub returns-after-loop-n : goal.returns-after-loop-n
returns-after-loop-n c =
    let a = c.args in
    sym (run_back-is (λ k. char_at a.grid.now a.row k == 45) (a.column - 1) c.loop-n.n a.column (omega arith) (λ j k. eq-eqb (char_at a.grid.now a.row (a.column - 1 - j)) 45 (c.loop-n.invariant.1 j k)) (λ k. absurd (omega arith)))
