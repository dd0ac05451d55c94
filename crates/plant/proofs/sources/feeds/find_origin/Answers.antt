use Rattle.std.proofs.Common.{[]}
use Rattle.plant.proofs.sources.feeds.find_origin.Goals as goal
use Rattle.plant.proofs.Sourcing.{no_origin}
use Rattle.plant.proofs.ToldSources.{origin_missing}
use Rattle.plant.specs.Steps.Drafts.{drafted, HasNoOrigin}
use Rattle.plant.specs.Steps.Drafts.{AreDraftsApart}
use Rattle.plant.specs.Steps.SourceFaults.{IsOriginMissing, IsUnknownOn}
use Rattle.lists.proofs.Results.{kept_fault}

pub returns-in_err-task-in-Output-clause-refused : goal.returns-in_err-task-in-Output-clause-refused
returns-in_err-task-in-Output-clause-refused c =
    kept_fault c.in_err-task-in-Output.field-0.0 (λ _. AreDraftsApart c.args.drafts.now → HasNoOrigin (drafted c.args.drafts.now) c.args.source.now) c.from_residual.result c.from_residual.ensures.1
    (λ apart. rw c.in-Output.is (no_origin (drafted c.args.drafts.now) _ _ _ (c.in_err-task-in-Output.ensures.refused apart)))

pub returns-in_err-task-in-Output-clause-missing : goal.returns-in_err-task-in-Output-clause-missing
returns-in_err-task-in-Output-clause-missing c =
    kept_fault c.in_err-task-in-Output.field-0.0 (λ e. IsUnknownOn (λ line. IsOriginMissing (drafted c.args.drafts.now) c.args.source.now c.args.lines line) e) c.from_residual.result c.from_residual.ensures.1
    (rw c.in-Output.is (origin_missing (drafted c.args.drafts.now) _ _ [] c.args.lines c.in_err-task-in-Output.field-0.0 c.in_err-task-in-Output.ensures.missing))
