use Rattle.std.proofs.Common.{◌≡◌, ◌++◌, string_bytes, take}
use Rattle.verifying.specs.VerdictLines.{held_words}
use Rattle.verifying.proofs.verdict_words.push_held_words.Given as goal

abbrev pub invariant-loop-setting : goal.invariant-loop-setting
invariant-loop-setting l = string_bytes l.text ≡ string_bytes l.initial.text ++ held_words l.declarations (take l.setting-index l.held) l.rows
