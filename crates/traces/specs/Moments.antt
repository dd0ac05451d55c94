-- What was evaluated at each moment.
use Rattle.std.specs.Prelude.{ℕ, zero, suc, ◌+◌, ◌==◌, ◌++◌, List, [], ◌∷◌, Option, Some, map, reverse}
use Rattle.std.specs.List.{find}
use Rattle.std.specs.Borrow.{Bor}
use Rattle.std.specs.Option.{option_map}
use Rattle.evaluation.specs.Meaning.{Evaluated}

-- what was evaluated at each of these moments
abbrev pub made_at : List (Option (Bor Evaluated)) → List (Option Evaluated)
made_at moments = map (λ made. option_map (λ x. x.now) made) moments

-- what the event or command of this number made: the last of these evaluations that has it as ticket, if there is one
abbrev pub made_by : List Evaluated → ℕ → Option Evaluated
made_by log number = find (λ (x : Evaluated). x.ticket == number) (reverse log)

-- each of so many events of a schedule, or commands of a plan, is a moment
abbrev pub of_events : ℕ → List Evaluated → List (Option Evaluated)
of_events zero log = []
of_events (suc before) log = of_events before log ++ made_by log (before + 1) ∷ []
