use Rattle.std.proofs.Common.{◌≡◌, drop}
use Rattle.scan_steps.specs.Digests.{all_mixed}
use Rattle.journal_rows.proofs.digests.digest_more.Given as goal

abbrev pub invariant-loop-byte : goal.invariant-loop-byte
invariant-loop-byte l = all_mixed l.mixed (drop l.byte-index l.bytes) ≡ all_mixed l.digest l.bytes
