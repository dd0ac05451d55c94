-- What is found among the digests.
use Rattle.std.proofs.Common.{◌≡◌, ◌∙◌, ap, string_bytes}
use Rattle.std.specs.List.{position}
use Rattle.journal_rows.specs.ContinuesLine.{begins_with}
use Rattle.journal_rows.specs.LooseFiles.{behind_blank}
use Rattle.journal_rows.proofs.Telling.{told_by_digests}
use Rattle.journal_rows.proofs.loose_files.first_told.Goals as goal

pub returns : goal.returns
returns c =
    let told : c.behind_blank-told.result.now ≡ behind_blank (behind_blank c.args.text.now) = c.behind_blank-told.ensures ∙ ap behind_blank c.behind_blank.ensures in
    c.first_front.ensures ∙ ap (λ b. position (λ w. begins_with (string_bytes w) b) c.args.words.now) told
    ∙ told_by_digests string_bytes c.args.words.now c.args.texts.now _ c.requires
