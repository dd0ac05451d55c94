use Rattle.std.proofs.Common.{rules}
use Rattle.ladder_rows.specs.Rows.{char_at}
use Rattle.ladder_rows.proofs.characters.rows.char_at.Goals as goal

pub returns-in-Some : goal.returns-in-Some
unfolding char_at
returns-in-Some c = search rules

pub returns-in-None : goal.returns-in-None
unfolding char_at
returns-in-None c = search rules
