use Rattle.std.proofs.Common.{◌≡◌, ◌∙◌, sym, arith}
use Rattle.ladder_rows.proofs.Rows.TextRows.{trimmed-at_blank, trimmed-at_kept}
use Rattle.ladder_rows.proofs.characters.rows.trimmed.Goals as goal
use Rattle.ladder_rows.proofs.characters.rows.trimmed.Goals.{then-loop-end-test+else-line-end-eq32, else-loop-end-test}

pub loop-end-preserved : goal.loop-end-preserved
loop-end-preserved c =
    (omega arith, trimmed-at_blank c.args.line.now c.loop-end.end (omega arith) (omega arith) c.if-line-end-eq32.true ∙ c.loop-end.invariant.1)

pub returns : goal.returns
returns c =
    elim c.loop-end-test.branch [
      | then-loop-end-test+else-line-end-eq32 w ↦ sym (trimmed-at_kept c.args.line.now c.loop-end.end (omega arith) (omega arith) w.if-line-end-eq32.false) ∙ c.loop-end.invariant.1
      | else-loop-end-test w ↦
          let z : c.loop-end.end ≡ 0 = omega arith in
          let inv = c.loop-end.invariant.1 in
          rw z (rw z at inv)
    ]
