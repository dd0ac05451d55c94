use Rattle.std.proofs.Common.{arith}
use Rattle.ladder_systems.proofs.NeverOn.{never_on}
use Rattle.ladder_systems.proofs.laws.never_bad_within_is_never_within.Goals as goal

pub returns : goal.returns
returns c = λ u place t depth wide system whole never rows last few run on.
    never_on c.one_scan.ensures u place t wide system rows (λ some. whole (omega arith)) (never rows few) last run on
