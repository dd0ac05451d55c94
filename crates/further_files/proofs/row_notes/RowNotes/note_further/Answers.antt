-- The bytes stand behind the line of the further file.
use Rattle.further_files.proofs.row_notes.RowNotes.note_further.Goals as goal

pub returns-clause-holds : goal.returns-clause-holds
returns-clause-holds g c = λ held h. c.note_there.ensures.holds _ (c.in_ok-turn.ensures.holds held h)
