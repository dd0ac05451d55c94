-- The digests are those of the texts before the present one.
use Rattle.std.proofs.Common.{◌≡◌, map, string_bytes, take}
use Rattle.journal_rows.specs.LooseFiles.{digest_word}
use Rattle.journal_rows.proofs.loose_files.digest_words.Given as goal

abbrev pub invariant-loop-text : goal.invariant-loop-text
invariant-loop-text l = map string_bytes l.words.items ≡ map (λ t. digest_word t.now) (take l.text-index l.texts)
