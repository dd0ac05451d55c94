-- Those before the present one are explained.
use Rattle.std.proofs.Common.{◌≡◌, map, take}
use Rattle.journal_rows.specs.LooseFiles.{loose_file}
use Rattle.journal_rows.proofs.loose_files.explained.Given as goal

abbrev pub invariant-loop-file : goal.invariant-loop-file
invariant-loop-file l = l.loose.items ≡ map (loose_file l.texts) (take l.file-index l.files)
