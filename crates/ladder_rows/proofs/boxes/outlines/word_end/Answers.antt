use Rattle.std.proofs.Common.{◌+◌, sym, ap, arith, rules}
use Rattle.ladder_rows.specs.Rows.{char_at, width}
use Rattle.words.specs.Chars.{is_word_char}
use Rattle.ladder_rows.proofs.Rows.Runs.{run-is}
use Rattle.ladder_rows.proofs.boxes.outlines.word_end.Goals as goal
use Rattle.ladder_rows.proofs.boxes.outlines.word_end.Goals.{then-loop-n-test+else-is_word_char, else-loop-n-test}

pub returns : goal.returns
returns c =
    let a = c.args in
    elim c.loop-n-test.branch [
      | then-loop-n-test+else-is_word_char w ↦ ap (λ n. a.column + n) (sym (run-is (λ k. is_word_char (char_at a.grid.now a.row k)) a.column c.loop-n.n (width a.grid.now) (omega arith) c.loop-n.invariant.1 (λ k. search rules)))
      | else-loop-n-test w ↦ ap (λ n. a.column + n) (sym (run-is (λ k. is_word_char (char_at a.grid.now a.row k)) a.column c.loop-n.n (width a.grid.now) (omega arith) c.loop-n.invariant.1 (λ k. absurd (omega arith))))
    ]
