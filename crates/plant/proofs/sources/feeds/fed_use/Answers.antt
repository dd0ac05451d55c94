use Rattle.std.proofs.Common.{rules, ◌≡◌, ◌≢◌, None, Some, refl, sym, subst}
use Rattle.std.specs.List.{find}
use Rattle.lists.proofs.Results.{kept_fault}
use Rattle.plant_grammar.specs.Names.{is_named}
use Rattle.plant.specs.declared.sources.source_fault.SourceFault.TheVariants.{Memory}
use Rattle.plant.specs.ProgramTypes.{TypeValue}
use Rattle.plant.specs.Steps.Drafts.{drafted, AreDraftsApart}
use Rattle.plant.specs.Steps.FedUses.{IsUseFed}
use Rattle.plant.specs.Steps.SourceFaults.{TellsOfUse}
use Rattle.plant.proofs.Members.{type_found}
use Rattle.plant.proofs.sources.feeds.fed_use.Goals as goal

pub unreachable-requires : goal.unreachable-requires
unreachable-requires c =
    let none : find (λ (t : TypeValue). is_named c.args.run.now.program t.program.name) c.args.types.now ≡ None = search rules in
    type_found c.args.types.now c.args.run.now c.requires none

pub returns-clause-ok : goal.returns-clause-ok
returns-clause-ok c =
    let found : find (λ (t : TypeValue). is_named c.args.run.now.program t.program.name) c.args.types.now ≡ Some c.in-Some.found.now = search rules in
    let each = rw (c.binds_of.ensures, c.declarations-declarations.ensures.list, c.deref.ensures, c.ladder.ensures.ladder) at c.in_ok-feeds.ensures.ok in
    subst (IsUseFed (drafted c.args.drafts.now) c.args.types.now c.args.run.now) (sym c.new.ensures) (record { run_is = refl; type = c.in-Some.found.now; type_is = found; each = each })

pub returns-in_err-feeds-clause-why : goal.returns-in_err-feeds-clause-why
returns-in_err-feeds-clause-why c =
    let found : find (λ (t : TypeValue). is_named c.args.run.now.program t.program.name) c.args.types.now ≡ Some c.in-Some.found.now = search rules in
    let why = rw (c.binds_of.ensures, c.declarations-declarations.ensures.list, c.deref.ensures, c.ladder.ensures.ladder, c.as_slice.ensures.value) at c.in_err-feeds.ensures.why in
    kept_fault c.in_err-feeds.field-0.0 (λ e. e ≢ Memory → AreDraftsApart c.args.drafts.now → TellsOfUse (drafted c.args.drafts.now) c.args.types.now c.args.run.now e) c.from_residual.result c.from_residual.ensures.1
    (λ other apart. (c.in-Some.found.now, found, why other apart))
