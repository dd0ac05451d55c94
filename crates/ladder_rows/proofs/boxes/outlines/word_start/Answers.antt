use Rattle.std.proofs.Common.{◌+◌, ◌-◌, sym, ap, arith, rules}
use Rattle.ladder_rows.specs.Rows.{char_at}
use Rattle.words.specs.Chars.{is_word_char}
use Rattle.ladder_rows.proofs.Rows.Runs.{run_back-is}
use Rattle.ladder_rows.proofs.boxes.outlines.word_start.Goals as goal
use Rattle.ladder_rows.proofs.boxes.outlines.word_start.Goals.{then-loop-n-test+else-is_word_char, else-loop-n-test}

pub returns : goal.returns
returns c =
    let a = c.args in
    elim c.loop-n-test.branch [
      | then-loop-n-test+else-is_word_char w ↦ ap (λ n. a.column + 1 - n) (sym (run_back-is (λ k. is_word_char (char_at a.grid.now a.row k)) a.column c.loop-n.n a.column (omega arith) c.loop-n.invariant.1 (λ k. search rules)))
      | else-loop-n-test w ↦ ap (λ n. a.column + 1 - n) (sym (run_back-is (λ k. is_word_char (char_at a.grid.now a.row k)) a.column c.loop-n.n a.column (omega arith) c.loop-n.invariant.1 (λ k. absurd (omega arith))))
    ]
