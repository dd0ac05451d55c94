use Rattle.std.proofs.Common.{ℕ, ◌≡◌, ◌≤◌, ◌<◌, ◌-◌, true}
use Rattle.ladder_rows.specs.Rows.{char_at}
use Rattle.words.specs.Chars.{is_word_char}
use Rattle.ladder_rows.proofs.boxes.outlines.word_start.Given as goal

abbrev pub invariant-loop-n : goal.invariant-loop-n
invariant-loop-n l = (l.n ≤ l.column) × ((k : ℕ) → k < l.n → is_word_char (char_at l.grid l.row (l.column - k)) ≡ true)

abbrev pub decreases-loop-n : goal.decreases-loop-n
decreases-loop-n l = l.column - l.n
