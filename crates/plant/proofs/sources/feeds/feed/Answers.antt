use Rattle.plant.proofs.sources.feeds.feed.Goals as goal
use Rattle.plant.proofs.ToldSources.{origin_told}
use Rattle.plant.specs.Steps.Drafts.{drafted, AreDraftsApart}
use Rattle.plant.specs.Steps.SourceFaults.{TellsOfBind}
use Rattle.lists.proofs.Results.{kept_fault}

pub returns-in_err-origin-clause-why : goal.returns-in_err-origin-clause-why
returns-in_err-origin-clause-why c =
    let e = c.in_err-origin.field-0.0 in
    kept_fault e (λ e. AreDraftsApart c.args.drafts.now → TellsOfBind (drafted c.args.drafts.now) c.args.declarations.now e c.args.bind.now c.args.lines) c.from_residual.result c.from_residual.ensures.1
    (λ apart. origin_told (drafted c.args.drafts.now) c.args.declarations.now c.args.bind.now c.args.lines e (c.in_err-origin.ensures.refused apart) c.in_err-origin.ensures.missing)
