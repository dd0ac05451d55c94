use Rattle.std.proofs.Common.{◌≡◌, ◌++◌, encode_utf8, string_bytes}
use Rattle.std.specs.List.{flat_map}
use Rattle.page.specs.Page.{escaped}
use Rattle.page.proofs.page.push_escaped.Given as goal

abbrev pub invariant-loop-sign : goal.invariant-loop-sign
invariant-loop-sign l = string_bytes l.page ≡ string_bytes l.initial.page ++ flat_map encode_utf8 (escaped l.yielded)
