-- Runs of a setup, said with the parts of a step apart.
use Rattle.std.proofs.Common.{List, [], ◌∷◌, Bool}
use Rattle.power_flow.specs.Meaning.{Moment}
use Rattle.verifying.specs.Runs.{Leads as LeadsOf, Meets, ScansWith, SetupValue}
use Rattle.ladder_systems.proofs.Never.{Leads}

pub led : (u : SetupValue) (rows : List (List Bool)) (s t : Moment) → LeadsOf u s rows t → Leads Moment (ScansWith u) (Meets u) s rows t
led u [] s t same = same
led u (row ∷ rows) s t (between, step, rest) = (between, step.scan, step.meets, led u rows between t rest)
