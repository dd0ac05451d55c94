-- Clauses for each number of steps.
use Rattle.std.specs.Prelude.{ℕ, List, map, slice_index_or}
use Rattle.std.specs.Global.{Vec}
use Rattle.clauses.specs.declared.literal.Literal.{Literal}
use Rattle.transition_systems.specs.declared.certificate.Certificate.{Certificate}

-- the clauses of a certificate
abbrev pub its_clauses : Certificate → List (Vec Literal)
its_clauses c = c.clauses.items

-- the clauses of a depth, behind the last these
abbrev pub clauses_or : List Certificate → ℕ → List (Vec Literal) → List (Vec Literal)
clauses_or depths number none = slice_index_or (map its_clauses depths) number none
