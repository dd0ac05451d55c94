-- The resources before the present one of which there is no run.
use Rattle.std.proofs.Common.{◌≡◌}
use Rattle.audit.specs.Told.{all_without}
use Rattle.audit.proofs.GoingOn.{lines_of}
use Rattle.audit.proofs.telling.all_without.Given as goal

abbrev pub invariant-loop-resource : goal.invariant-loop-resource
invariant-loop-resource l = l.without.items ≡ all_without (lines_of l.followers) l.resource
