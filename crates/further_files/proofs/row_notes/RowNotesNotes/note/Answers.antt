-- There, or in a further file.
use Rattle.std.proofs.Common.{ap, string_bytes}
use Rattle.further_files.proofs.Digests.{holds_kept, noted_further, stands_there}
use Rattle.further_files.proofs.row_notes.RowNotesNotes.note.Goals as goal

pub returns-then-is_full-clause-holds : goal.returns-then-is_full-clause-holds
returns-then-is_full-clause-holds g c = λ held h.
    let heard = holds_kept g.F.JournalFiles.last _ _ held _ _ c.hear.ensures.files c.hear.ensures.digest h in
    noted_further c.note_further.result _ _ _ _ _ held c.args.bytes.now _ _ c.hear.ensures.number (ap string_bytes c.hear.ensures.resource) (c.note_further.ensures.holds held heard)

pub returns-clause-holds : goal.returns-clause-holds
returns-clause-holds g c = λ held h.
    let heard = holds_kept g.F.JournalFiles.last _ _ held _ _ c.hear.ensures.files c.hear.ensures.digest h in
    stands_there c.note_there.result _ _ held c.args.bytes.now _ _ (c.note_there.ensures.holds held heard)
