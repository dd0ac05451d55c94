use Rattle.std.proofs.Common.{ℕ, List, length}
use Rattle.plant_text.specs.Spelling.{first_line, IsEndLine}
use Rattle.plant_text.specs.Steps.Lexing.{IsBehindBody}
use Rattle.plant_text.proofs.bodies.behind_body.Given as goal

abbrev pub invariant-lines : goal.invariant-lines
invariant-lines l = record {
  more : (r : List ℕ) → IsBehindBody l.rest r → IsBehindBody l.text r;
  less : (r : List ℕ) → IsBehindBody l.text r → IsEndLine (first_line r) → IsBehindBody l.rest r;
}

abbrev pub decreases-lines : goal.decreases-lines
decreases-lines l = length l.rest
