use Rattle.std.proofs.Common.{◌≡◌, map}
use Rattle.text_commands.specs.Comments.{emptied}
use Rattle.text_commands.proofs.comments.emptied_rows.Given as goal

abbrev pub invariant-loop-row : goal.invariant-loop-row
invariant-loop-row l = map (λ row. row.now) l.rows.items ≡ map emptied (map (λ row. row.now) l.yielded)
