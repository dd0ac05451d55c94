-- One more journal has the next name.
use Rattle.std.proofs.Common.{ℕ, List, map, string_bytes, ap, arith, ◌∙◌}
use Rattle.std.specs.Borrow.{Bor}
use Rattle.std.proofs.lemmas.List.{take_all}
use Rattle.audit.specs.declared.journal_file.JournalFile.{JournalFile}
use Rattle.plc_main.proofs.KeeperNames.{journals_more}
use Rattle.plc_main.proofs.journal_files.file_journals.Goals as goal

pub loop-name-preserved : goal.loop-name-preserved
loop-name-preserved g c =
    ap (map (λ (f : JournalFile). string_bytes f.name)) c.in_ok-push-in-Ok.ensures.items
    ∙ journals_more c.loop-name.journals.items c.args.names.now c.loop-name.name-index c.in-Ok.journal _ c.loop-name.invariant (omega (arith, c.loop-name-test.true)) (rw c.in-Ok.is at c.in_ok-journal.ensures)

pub returns : goal.returns
returns g c = c.loop-name.invariant ∙ ap (map (λ (w : Bor (List ℕ)). w.now)) (take_all c.loop-name.name-index c.args.names.now c.loop-name-test.false)
