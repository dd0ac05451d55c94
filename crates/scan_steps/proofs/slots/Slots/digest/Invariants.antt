use Rattle.std.proofs.Common.{◌≡◌, drop}
use Rattle.scan_steps.specs.Digests.{slots_mixed}
use Rattle.scan_steps.proofs.slots.Slots.digest.Given as goal

abbrev pub invariant-loop-place : goal.invariant-loop-place
invariant-loop-place l = slots_mixed l.digest (drop l.place l.self) ≡ slots_mixed 0 l.self
