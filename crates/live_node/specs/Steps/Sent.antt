-- What was written whole was begun. The crates above cite it.
use Rattle.std.specs.Prelude.{ℕ, List, Option, length}
use Rattle.std.proofs.Common.{sym, subst}
use Rattle.std.proofs.Math.Seq.{take-length}
use Rattle.std.specs.Io.KnownBytes.{Appends}
use Rattle.text_lines.specs.Sending.{SendsPart}

pub all_sent : (text : List ℕ) (old new : Option (List ℕ)) → Appends old new text → SendsPart text old new
all_sent text old new h = (length text, subst (Appends old new) (sym (take-length text)) h)
