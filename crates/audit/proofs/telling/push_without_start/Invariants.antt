-- The files before the present one stand there.
use Rattle.std.proofs.Common.{◌≡◌, ◌++◌, map, take}
use Rattle.audit.specs.Told.{without_start}
use Rattle.audit.proofs.telling.push_without_start.Given as goal

abbrev pub invariant-loop-place : goal.invariant-loop-place
invariant-loop-place l = l.unshown.items ≡ l.initial.unshown.items ++ map without_start (take l.place-index l.places)
