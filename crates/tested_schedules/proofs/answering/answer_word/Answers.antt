use Rattle.std.proofs.Common.{◌<◌, List, length, ap, ◌∙◌, subst, arith}
use Rattle.std.specs.Prelude.{reverse, slice_index}
use Rattle.evaluation.specs.Meaning.{Evaluated}
use Rattle.plant.specs.PlantValue.{PlantValue}
use Rattle.plant.specs.Find.{Finds}
use Rattle.tested_schedules.specs.Expectations.{IsExpectation, found_in}
use Rattle.tested_schedules.proofs.Outputs.{none_found, resource_within}
use Rattle.tested_schedules.proofs.answering.answer_word.Goals as goal

pub returns-in_default-clause-fault : goal.returns-in_default-clause-fault
returns-in_default-clause-fault c = λ is.
    none_found (IsExpectation c.args.world.now.setting.plant c.args.word.now) c.in_ok-expectation.field-0
    (subst (λ (p : PlantValue). Finds (IsExpectation p c.args.word.now) c.in_ok-expectation.field-0) c.plant.ensures c.in_ok-expectation.ensures) c.in_default.not-Some

pub bounds-incarnations-expectation : goal.bounds-incarnations-expectation
bounds-incarnations-expectation c =
    let found = subst (Finds (IsExpectation c.plant.result.now c.args.word.now)) c.in-Some.is c.in_ok-expectation.ensures in
    let spelled : IsExpectation c.args.world.now.setting.plant c.args.word.now c.in-Some.expectation = subst (λ (p : PlantValue). IsExpectation p c.args.word.now c.in-Some.expectation) c.plant.ensures found in
    omega (arith, resource_within c.args.world.now.setting.plant c.args.word.now c.in-Some.expectation spelled, c.requires.known.many)

pub offset_bounds-incarnations-expectation : goal.offset_bounds-incarnations-expectation
offset_bounds-incarnations-expectation c =
    let found = subst (Finds (IsExpectation c.plant.result.now c.args.word.now)) c.in-Some.is c.in_ok-expectation.ensures in
    let spelled : IsExpectation c.args.world.now.setting.plant c.args.word.now c.in-Some.expectation = subst (λ (p : PlantValue). IsExpectation p c.args.word.now c.in-Some.expectation) c.plant.ensures found in
    omega (arith, resource_within c.args.world.now.setting.plant c.args.word.now c.in-Some.expectation spelled, c.requires.known.many, c.type_inv.incarnations)

pub returns-clause-ok : goal.returns-clause-ok
returns-clause-ok c =
    let w = c.args.world.now in
    let x = c.in-Some.expectation in
    let found = subst (Finds (IsExpectation c.plant.result.now c.args.word.now)) c.in-Some.is c.in_ok-expectation.ensures in
    let spelled : IsExpectation w.setting.plant c.args.word.now x = subst (λ (p : PlantValue). IsExpectation p c.args.word.now x) c.plant.ensures found in
    let within : x.task.resource < length c.args.incarnations.now = omega (arith, resource_within w.setting.plant c.args.word.now x spelled, c.requires.known.many) in
    record {
      spelled = spelled;
      found = c.value_of-found.ensures ∙ ap (λ (log : List Evaluated). found_in (slice_index c.args.incarnations.now x.task.resource) (reverse log) x) c.log.ensures.value ∙ ap (λ i. found_in i (reverse w.log) x) (c.requires.known.each x.task.resource within);
      met = c.same.ensures;
    }
