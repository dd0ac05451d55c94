-- The bytes stand behind what the last file held.
use Rattle.further_files.proofs.Digests.{holds_there}
use Rattle.further_files.proofs.row_notes.RowNotes.note_there.Goals as goal

pub returns-clause-holds : goal.returns-clause-holds
returns-clause-holds g c = λ held h. holds_there g.F.JournalFiles.last _ _ _ held c.args.bytes.now _ _ h c.in_ok-note.ensures.last c.count.ensures.files c.count.ensures.digest
