use Rattle.std.proofs.Common.{◌≡◌, take}
use Rattle.task_codes.specs.CodeValue.{lists_of}
use Rattle.node_reports.specs.Journals.{openings_of}
use Rattle.run_texts.proofs.replay.openings.Given as goal

abbrev pub invariant-loop-journal : goal.invariant-loop-journal
invariant-loop-journal l = lists_of l.openings.items ≡ openings_of (take l.journal-index l.journals)
