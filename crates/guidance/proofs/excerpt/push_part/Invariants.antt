use Rattle.std.proofs.Common.{◌≡◌, ◌++◌, map, string_bytes}
use Rattle.guidance.specs.Excerpts.{shown_sign}
use Rattle.guidance.proofs.excerpt.push_part.Given as goal

abbrev pub invariant-loop-sign : goal.invariant-loop-sign
invariant-loop-sign l = string_bytes l.text ≡ string_bytes l.initial.text ++ map shown_sign l.yielded
