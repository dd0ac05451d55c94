use Rattle.std.proofs.Common.{◌≡◌, take}
use Rattle.text_commands.specs.Series.{scans_of}
use Rattle.text_commands.proofs.settings.scan_count.Given as goal

abbrev pub invariant-loop-each : goal.invariant-loop-each
invariant-loop-each l = l.most ≡ scans_of (take l.each-index l.series)
