use Rattle.std.proofs.Common.{◌≡◌, [], ◌∷◌, map}
use Rattle.ladder_rows.specs.Rows.{row_of}
use Rattle.ladder_rows.proofs.characters.rows.rows_of.Given as goal

abbrev pub invariant-loop-line : goal.invariant-loop-line
invariant-loop-line l = l.rows.items ≡ [] ∷ map row_of (map (λ x. x.now) l.yielded)
