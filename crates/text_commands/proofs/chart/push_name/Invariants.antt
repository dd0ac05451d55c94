use Rattle.std.proofs.Common.{◌≡◌, ◌++◌, replicate, string_bytes}
use Rattle.text_commands.proofs.chart.push_name.Given as goal

abbrev pub invariant-loop-blank : goal.invariant-loop-blank
invariant-loop-blank l = string_bytes l.text ≡ string_bytes l.fn.text ++ l.name ++ replicate l._blank 32
