-- Each thread kept its promise.
use Rattle.std.proofs.Common.{◌≡◌, ◌∙◌, ℕ, ◌<◌, List, length, map, All, ap, subst, sym}
use Rattle.std.proofs.lemmas.List.{length-map}
use Rattle.std.proofs.lemmas.List.Elements.{All-map}
use Rattle.lists.proofs.Results.{kept_fault}
use Rattle.plant.specs.PlantValue.{PlantValue}
use Rattle.node.specs.declared.threads.ended.Ended.{Ended}
use Rattle.node_reports.specs.declared.journal.Journal.{Journal}
use Rattle.node_reports.specs.Journals.{firsts_of, openings_of, IsLawful}
use Rattle.node.specs.Steps.Working.{AreAbove, AreRaised, AreTold, openings_of_raised}
use Rattle.node_reports.specs.RunFaults.{IsThreadsFault}
use Rattle.node.proofs.Alls.{zip_long}
use Rattle.node.proofs.Firsts.{begin_above, begin_as_raised, firsts_parted, openings_parted}
use Rattle.node.proofs.Told.{open_as_told}
use Rattle.node.specs.Raises.{ComesAfterFirst, OneMayRefuse}
use Rattle.node.specs.Steps.Keeping.{IsLeftKept}
use Rattle.node.proofs.Refused.{none_refused}
use Rattle.node.proofs.Refusing.{raise_fault, start_fault}
use Rattle.node.proofs.threads.run_for.Goals as goal

-- there is one keeper for each resource, so there is one first incarnation for each
pub make_workers-requires-clause-many : goal.make_workers-requires-clause-many
make_workers-requires-clause-many g c _ _ =
    ap (λ (l : List ℕ). length l) c.as_slice.ensures.value
    ∙ zip_long (λ (held first : ℕ). held < first) (map g.K.Keeper.last c.args.keepers.items) c.in_ok-raised.firsts.items c.in_ok-raised.ensures.above
    ∙ length-map c.args.keepers.items g.K.Keeper.last
    ∙ c.requires.keepers

pub returns-clause-lawful : goal.returns-clause-lawful
returns-clause-lawful g c =
    let plant = c.args.plant.now.value in
    let max_number = c.args.max_number in
    let ended : List (Ended g.row.K.Denot) = c.in_ok-ended.ended.items in
    let journals : List Journal = c.in_ok-journals.field-0.journals.items in
    let begun : c.as_slice-3.result.now ≡ firsts_of journals =
    c.as_slice-3.ensures.value ∙ sym c.as_slice.ensures.value ∙ sym c.in_ok-workers.ensures.firsts ∙ sym c.in_ok-ended.ensures.firsts ∙ sym (firsts_parted ended) ∙ sym (ap firsts_of c.in_ok-journals.ensures.journals) in
    let of_plant = subst (λ (p : PlantValue). All (λ (e : Ended g.row.K.Denot). IsLawful p c.as_slice-3.result.now max_number e.journal) ended) c.deref-3.ensures c.in_ok-ended.ensures.lawful in
    let promised = subst (λ (firsts : List ℕ). All (λ (e : Ended g.row.K.Denot). IsLawful plant firsts max_number e.journal) ended) begun of_plant in
    subst (All (IsLawful plant (firsts_of journals) max_number)) (sym c.in_ok-journals.ensures.journals) (All-map (IsLawful plant (firsts_of journals) max_number) (λ (e : Ended g.row.K.Denot). e.journal) ended promised)

pub returns-clause-begun : goal.returns-clause-begun
returns-clause-begun g c =
    begin_above g.K.Keeper.last c.args.keepers.items c.in_ok-workers.workers.items c.in_ok-ended.ended.items c.in_ok-journals.field-0.journals.items
    (subst (AreAbove g.K.Keeper.last c.args.keepers.items) (sym (c.in_ok-workers.ensures.firsts ∙ c.as_slice.ensures.value)) c.in_ok-raised.ensures.above)
    c.in_ok-ended.ensures.firsts c.in_ok-journals.ensures.journals

pub returns-clause-given : goal.returns-clause-given
returns-clause-given g c =
    begin_as_raised g.K.Keeper.raise_gives c.args.keepers.items c.in_ok-workers.workers.items c.in_ok-ended.ended.items c.in_ok-journals.field-0.journals.items
    (subst (AreRaised g.K.Keeper.raise_gives c.args.keepers.items) (sym (c.in_ok-workers.ensures.firsts ∙ c.as_slice.ensures.value)) c.in_ok-raised.ensures.given)
    c.in_ok-ended.ensures.firsts c.in_ok-journals.ensures.journals

pub returns-clause-opened : goal.returns-clause-opened
returns-clause-opened g c =
    let told = subst (λ (p : PlantValue). AreTold g.K.Keeper.kept_gives p c.args.keepers.items (openings_of_raised c.in_ok-raised.raised.items)) c.deref.ensures c.in_ok-raised.ensures.told in
    open_as_told g.K.Keeper.kept_gives c.args.plant.now.value c.args.keepers.items (openings_of_raised c.in_ok-raised.raised.items) c.in_ok-journals.field-0.journals.items told
    (ap openings_of c.in_ok-journals.ensures.journals ∙ openings_parted c.in_ok-ended.ended.items ∙ c.in_ok-ended.ensures.openings ∙ c.in_ok-workers.ensures.openings)

pub returns-in_err-raised-clause-fault : goal.returns-in_err-raised-clause-fault
returns-in_err-raised-clause-fault g c =
    kept_fault c.in_err-raised.field-0.0 IsThreadsFault _ c.from_residual.ensures.1 (raise_fault c.in_err-raised.field-0.0 c.in_err-raised.ensures.fault)

pub returns-in_err-workers-clause-fault : goal.returns-in_err-workers-clause-fault
returns-in_err-workers-clause-fault g c =
    kept_fault c.in_err-workers.field-0.0 IsThreadsFault _ c.from_residual-in_err-workers.ensures.1 (start_fault c.in_err-workers.field-0.0 c.in_err-workers.ensures.fault)

pub returns-in_err-ended-clause-fault : goal.returns-in_err-ended-clause-fault
returns-in_err-ended-clause-fault g c =
    kept_fault c.in_err-ended.field-0.0 IsThreadsFault _ c.from_residual-in_err-ended.ensures.1 (start_fault c.in_err-ended.field-0.0 c.in_err-ended.ensures.fault)

pub returns-in_err-journals-clause-fault : goal.returns-in_err-journals-clause-fault
returns-in_err-journals-clause-fault g c =
    kept_fault c.in_err-journals.field-0.0 IsThreadsFault _ c.from_residual-in_err-journals.ensures.1 (start_fault c.in_err-journals.field-0.0 c.in_err-journals.ensures.fault)

pub returns-clause-kept : goal.returns-clause-kept
returns-clause-kept g c =
    let left = subst (λ (p : PlantValue). All (IsLeftKept g.K.Keeper.last g.K.Keeper.kept_gives p) c.in_ok-ended.ended.items) c.deref-3.ensures c.in_ok-ended.ensures.keeps in
    c.in_ok-journals.ensures.keeps c.args.plant.now.value left

pub returns-in_err-raised-clause-refused : goal.returns-in_err-raised-clause-refused
returns-in_err-raised-clause-refused g c =
    kept_fault c.in_err-raised.field-0.0 (OneMayRefuse g.K.Keeper.raise_gives g.K.Keeper.kept_gives c.args.plant.now.value c.args.keepers.items) _ c.from_residual.ensures.1
    (subst (λ (p : PlantValue). OneMayRefuse g.K.Keeper.raise_gives g.K.Keeper.kept_gives p c.args.keepers.items c.in_err-raised.field-0.0) c.deref.ensures c.in_err-raised.ensures.refused)

pub returns-in_err-workers-clause-refused : goal.returns-in_err-workers-clause-refused
returns-in_err-workers-clause-refused g c =
    kept_fault c.in_err-workers.field-0.0 (OneMayRefuse g.K.Keeper.raise_gives g.K.Keeper.kept_gives c.args.plant.now.value c.args.keepers.items) _ c.from_residual-in_err-workers.ensures.1
    (none_refused c.in_err-workers.field-0.0 g.K.Keeper.raise_gives g.K.Keeper.kept_gives c.args.plant.now.value c.args.keepers.items c.in_err-workers.ensures.fault)

pub returns-in_err-ended-clause-refused : goal.returns-in_err-ended-clause-refused
returns-in_err-ended-clause-refused g c =
    kept_fault c.in_err-ended.field-0.0 (OneMayRefuse g.K.Keeper.raise_gives g.K.Keeper.kept_gives c.args.plant.now.value c.args.keepers.items) _ c.from_residual-in_err-ended.ensures.1
    (none_refused c.in_err-ended.field-0.0 g.K.Keeper.raise_gives g.K.Keeper.kept_gives c.args.plant.now.value c.args.keepers.items c.in_err-ended.ensures.fault)

pub returns-in_err-journals-clause-refused : goal.returns-in_err-journals-clause-refused
returns-in_err-journals-clause-refused g c =
    kept_fault c.in_err-journals.field-0.0 (OneMayRefuse g.K.Keeper.raise_gives g.K.Keeper.kept_gives c.args.plant.now.value c.args.keepers.items) _ c.from_residual-in_err-journals.ensures.1
    (none_refused c.in_err-journals.field-0.0 g.K.Keeper.raise_gives g.K.Keeper.kept_gives c.args.plant.now.value c.args.keepers.items c.in_err-journals.ensures.fault)

pub returns-in_err-workers-clause-later : goal.returns-in_err-workers-clause-later
returns-in_err-workers-clause-later g c =
    kept_fault c.in_err-workers.field-0.0 (ComesAfterFirst g.K.Keeper.raise_gives c.args.keepers.items) _ c.from_residual-in_err-workers.ensures.1 (λ other. c.in_ok-raised.ensures.may)

pub returns-in_err-ended-clause-later : goal.returns-in_err-ended-clause-later
returns-in_err-ended-clause-later g c =
    kept_fault c.in_err-ended.field-0.0 (ComesAfterFirst g.K.Keeper.raise_gives c.args.keepers.items) _ c.from_residual-in_err-ended.ensures.1 (λ other. c.in_ok-raised.ensures.may)

pub returns-in_err-journals-clause-later : goal.returns-in_err-journals-clause-later
returns-in_err-journals-clause-later g c =
    kept_fault c.in_err-journals.field-0.0 (ComesAfterFirst g.K.Keeper.raise_gives c.args.keepers.items) _ c.from_residual-in_err-journals.ensures.1 (λ other. c.in_ok-raised.ensures.may)

pub returns-in_err-raised-clause-later : goal.returns-in_err-raised-clause-later
returns-in_err-raised-clause-later g c =
    kept_fault c.in_err-raised.field-0.0 (ComesAfterFirst g.K.Keeper.raise_gives c.args.keepers.items) _ c.from_residual.ensures.1 c.in_err-raised.ensures.later
