use Rattle.std.proofs.Common.{◌≡◌, ◌++◌, string_bytes}
use Rattle.traces.specs.Times.{time_of}
use Rattle.traces.specs.ValueChanges.{head_lines, last_told, moments_lines}
use Rattle.traces.proofs.value_changes.change_dump.Given as goal

abbrev pub invariant-loop-moment : goal.invariant-loop-moment
invariant-loop-moment l = record {
  text : string_bytes l.text ≡ head_lines l.tracks ++ moments_lines (time_of l.times) l.tracks l.moment;
  told : l.told ≡ last_told (time_of l.times) l.tracks l.moment;
}
