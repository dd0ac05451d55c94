-- The names of evaluations.
use Rattle.std.specs.Prelude.{ℕ, Bool, ◌==◌, ◌&&◌, ◌||◌, nat_lt}
use Rattle.evaluation.specs.declared.name.Name.{Name}

-- the pair order: incarnation first, then number
abbrev pub pair_precedes : ℕ × ℕ → ℕ × ℕ → Bool
pair_precedes a b = nat_lt a.0 b.0 || (a.0 == b.0 && nat_lt a.1 b.1)

-- the pair of the first name is below that of the second
abbrev pub precedes : Name → Name → Bool
precedes a b = pair_precedes (a.incarnation, a.number) (b.incarnation, b.number)
