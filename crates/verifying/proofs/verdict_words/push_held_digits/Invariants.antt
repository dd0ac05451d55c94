use Rattle.std.proofs.Common.{◌≡◌, ◌++◌, string_bytes, take}
use Rattle.verifying.specs.VerdictLines.{digits_of_held}
use Rattle.verifying.proofs.verdict_words.push_held_digits.Given as goal

abbrev pub invariant-loop-row : goal.invariant-loop-row
invariant-loop-row l = string_bytes l.text ≡ string_bytes l.initial.text ++ digits_of_held (take l.row-index l.rows) l.value
