use Rattle.std.proofs.Common.{◌≢◌, subst}
use Rattle.lists.proofs.Results.{kept_fault}
use Rattle.plant_grammar.specs.declared.grammar.tree.Bind.{Bind}
use Rattle.plant.specs.declared.sources.feed.Feed.{Feed}
use Rattle.plant.specs.declared.sources.source_fault.SourceFault.TheVariants.{Memory}
use Rattle.std.proofs.Common.{take}
use Rattle.plant.specs.SourceFaults.{lines_at}
use Rattle.plant.specs.Steps.Drafts.{drafted, IsFeedOf, HasFeed, AreDraftsApart}
use Rattle.plant.specs.Steps.SourceFaults.{TellsOfBind, TellsOfBinds}
use Rattle.plant.proofs.FedUses.{zip_all}
use Rattle.plant.proofs.FirstFailing.{first_fails}
use Rattle.plant.proofs.Zips.{zip_more}
use Rattle.plant.proofs.sources.feeds.feeds.Goals as goal

pub loop-i-preserved : goal.loop-i-preserved
loop-i-preserved c =
    zip_more (IsFeedOf (drafted c.args.drafts.now) c.args.declarations.now) c.args.binds.now c.loop-i.i c.loop-i.feeds.items c.push.new.self.items c.index-binds-i.result c.in_ok-found.found
    c.loop-i-test.true c.index-binds-i.is c.loop-i.invariant c.in_ok-found.ensures.ok c.in_ok-push.ensures.items

pub returns-in_err-found-clause-why : goal.returns-in_err-found-clause-why
returns-in_err-found-clause-why c =
    let plant = drafted c.args.drafts.now in
    let vs = c.args.declarations.now in
    let binds = c.args.binds.now in
    let i = c.loop-i.i in
    let e = c.in_err-found.field-0.0 in
    kept_fault e (λ e. e ≢ Memory → AreDraftsApart c.args.drafts.now → TellsOfBinds plant vs binds c.args.lines.now e) c.from_residual.result c.from_residual.ensures.1
    (λ other apart. first_fails (HasFeed plant vs) (λ n b. TellsOfBind plant vs e b (lines_at c.args.lines.now n)) binds i c.index-binds-i.result c.loop-i-test.true c.index-binds-i.is
    (zip_all (IsFeedOf plant vs) (HasFeed plant vs) (λ (b : Bind) (f : Feed) of. (f, of)) (take i binds) c.loop-i.feeds.items c.loop-i.invariant)
    (subst (TellsOfBind plant vs e c.index-binds-i.result) c.lines_at.ensures (c.in_err-found.ensures.why apart)))
