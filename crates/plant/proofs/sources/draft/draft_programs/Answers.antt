use Rattle.plant.proofs.Members.{one_seen}
use Rattle.plant.specs.Steps.Drafts.{programs_in, IsProgramOf, IsTypeKnown}
use Rattle.plant.proofs.Zips.{zip_more_at}
use Rattle.plant.proofs.sources.draft.draft_programs.Goals as goal

pub draft_program-requires : goal.draft_program-requires
draft_program-requires c = one_seen (IsTypeKnown c.args.types.now) c.args.runs.now c.loop-run.run-index c.run-item.result c.loop-run-test.true c.run-item.is c.requires

pub loop-run-preserved : goal.loop-run-preserved
loop-run-preserved c =
    zip_more_at (IsProgramOf (programs_in c.args.types.now)) c.args.runs.now c.loop-run.run-index c.loop-run.programs.items c.push.new.self.items c.run-item.result c.in_ok-draft_program.field-0
    c.loop-run-test.true c.run-item.is c.loop-run.invariant c.in_ok-draft_program.ensures c.in_ok-push.ensures.items
