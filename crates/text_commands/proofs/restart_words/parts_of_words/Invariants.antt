use Rattle.std.proofs.Common.{◌≡◌, take}
use Rattle.std.specs.List.{flat_map, slice_split}
use Rattle.text_commands.specs.Rows.{texts}
use Rattle.text_commands.specs.Series.{is_comma}
use Rattle.text_commands.proofs.restart_words.parts_of_words.Given as goal

abbrev pub invariant-loop-word : goal.invariant-loop-word
invariant-loop-word l = texts l.parts.items ≡ flat_map (slice_split is_comma) (take l.word-index (texts l.words))
