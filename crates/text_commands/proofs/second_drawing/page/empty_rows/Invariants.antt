use Rattle.std.proofs.Common.{◌≡◌, take, string_bytes}
use Rattle.std.specs.Prelude.{filter, ◌==◌}
use Rattle.words.specs.Lines.{without_last}
use Rattle.text_commands.proofs.second_drawing.page.empty_rows.Given as goal

abbrev pub invariant-loop-letter : goal.invariant-loop-letter
invariant-loop-letter l = string_bytes l.rows ≡ filter (λ c. c == 10) (take l.letter-index (without_last 10 l.first))
