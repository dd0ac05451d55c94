use Rattle.ladder_systems.proofs.NeverOn.{never_on}
use Rattle.ladder_systems.proofs.laws.never_bad_is_never.Goals as goal

pub returns : goal.returns
returns c = λ u place t wide system whole never rows last run on. never_on c.one_scan.ensures u place t wide system rows (λ some. whole) (never rows) last run on
