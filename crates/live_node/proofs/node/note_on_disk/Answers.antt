-- What was noted whole stays noted, be it on the disk or not.
use Rattle.std.proofs.Common.{subst, sym}
use Rattle.std.specs.Io.KnownBytes.{Appends}
use Rattle.text_lines.specs.Sending.{SendsPart}
use Rattle.text_lines.proofs.Sending.{on_err}
use Rattle.live_node.specs.Steps.Sent.{all_sent}
use Rattle.live_node.proofs.Telling.{on_ok}
use Rattle.live_node.proofs.node.note_on_disk.Goals as goal

pub returns-clause-whole : goal.returns-clause-whole
returns-clause-whole g c =
    on_ok c.sync.result (subst (λ n. Appends (g.N.Notes.noted c.args.notes.now) n c.args.bytes.now) (sym c.sync.ensures.noted) c.in_ok-note.ensures.whole)

pub returns-clause-part : goal.returns-clause-part
returns-clause-part g c =
    on_err c.sync.result (subst (λ n. SendsPart c.args.bytes.now (g.N.Notes.noted c.args.notes.now) n) (sym c.sync.ensures.noted) (all_sent _ _ _ c.in_ok-note.ensures.whole))
