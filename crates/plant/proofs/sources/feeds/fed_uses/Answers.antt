use Rattle.std.proofs.Common.{◌≢◌, map, take}
use Rattle.std.specs.Borrow.{Bor}
use Rattle.lists.proofs.Results.{kept_fault}
use Rattle.plant_grammar.specs.declared.grammar.tree.Use.{Use}
use Rattle.plant.specs.declared.sources.source_fault.SourceFault.TheVariants.{Memory}
use Rattle.plant.specs.Steps.Drafts.{seen, drafted, AreDraftsApart, IsTypeKnown, IsUseResolved}
use Rattle.plant.specs.Steps.FedUses.{IsUseFed}
use Rattle.plant.specs.Steps.SourceFaults.{TellsOfUse, TellsOfUses}
use Rattle.plant.proofs.FedUses.{all_resolved}
use Rattle.plant.proofs.FirstFailing.{seen_fails}
use Rattle.plant.proofs.Members.{one_seen}
use Rattle.plant.proofs.Zips.{zip_more_at}
use Rattle.plant.proofs.sources.feeds.fed_uses.Goals as goal

pub fed_use-requires : goal.fed_use-requires
fed_use-requires c = one_seen (IsTypeKnown c.args.types.now) c.args.runs.now c.loop-run.run-index c.run-item.result c.loop-run-test.true c.run-item.is c.requires

pub loop-run-preserved : goal.loop-run-preserved
loop-run-preserved c =
    zip_more_at (IsUseFed (drafted c.args.drafts.now) c.args.types.now) c.args.runs.now c.loop-run.run-index c.loop-run.fed.items c.push.new.self.items c.run-item.result c.in_ok-fed_use.field-0
    c.loop-run-test.true c.run-item.is c.loop-run.invariant c.in_ok-fed_use.ensures.ok c.in_ok-push.ensures.items

pub returns-in_err-fed_use-clause-why : goal.returns-in_err-fed_use-clause-why
returns-in_err-fed_use-clause-why c =
    let plant = drafted c.args.drafts.now in
    let types = c.args.types.now in
    let runs = c.args.runs.now in
    let i = c.loop-run.run-index in
    let e = c.in_err-fed_use.field-0.0 in
    kept_fault e (λ e. e ≢ Memory → AreDraftsApart c.args.drafts.now → TellsOfUses plant types (seen runs) e) c.from_residual.result c.from_residual.ensures.1
    (λ other apart. seen_fails (IsUseResolved plant types) (λ (u : Use). TellsOfUse plant types u e) runs i c.run-item.result c.loop-run-test.true c.run-item.is
    (all_resolved plant types (map (λ (u : Bor Use). u.now) (take i runs)) c.loop-run.fed.items c.loop-run.invariant) (c.in_err-fed_use.ensures.why other apart))
