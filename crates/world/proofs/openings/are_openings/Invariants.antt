use Rattle.std.proofs.Common.{ℕ, ◌<◌}
use Rattle.task_codes.specs.CodeValue.{lists_of}
use Rattle.exchange_core.specs.CoreValue.{AreOpeningOf}
use Rattle.world.specs.History.{openings_at}
use Rattle.world.proofs.openings.are_openings.Given as goal

abbrev pub invariant-loop-resource : goal.invariant-loop-resource
invariant-loop-resource l = (k : ℕ) → k < l.resource → AreOpeningOf l.plant k (openings_at (lists_of l.opening) k)
