use Rattle.std.proofs.Common.{◌≡◌, ◌++◌, string_bytes}
use Rattle.std.specs.List.{flat_map}
use Rattle.console.specs.ShellWord.{quoted_char}
use Rattle.console.proofs.shell_word.push_quoted.Given as goal

abbrev pub invariant-loop-sign : goal.invariant-loop-sign
invariant-loop-sign l = string_bytes l.word ≡ string_bytes l.initial.word ++ flat_map quoted_char l.yielded
