use Rattle.std.proofs.Common.{◌≡◌, take}
use Rattle.node_reports.specs.Journals.{firsts_of}
use Rattle.run_texts.proofs.replay.first_incarnations.Given as goal

abbrev pub invariant-loop-journal : goal.invariant-loop-journal
invariant-loop-journal l = l.first.items ≡ firsts_of (take l.journal-index l.journals)
