use Rattle.std.proofs.Common.{◌≡◌, ◌↔◌, ℕ, true, List, [], length, ap, ◌∙◌, subst, arith}
use Rattle.std.specs.List.{flat_map}
use Rattle.task_codes.specs.CodeValue.{lists_of}
use Rattle.task_codes.specs.declared.task_ref.TaskRef.{TaskRef}
use Rattle.plant.specs.PlantValue.{PlantValue, tasks_at}
use Rattle.plant_claims.specs.declared.output.Output.{Output}
use Rattle.plant_claims.specs.Claims.{Question}
use Rattle.plant_claims.specs.Steps.Scoping.{is_listed}
use Rattle.verifying_plants.specs.ZeroWords.{asked_tasks, first_tasks, tasks_before, with_numbers, zero_words_at, IsReached}
use Rattle.verifying_plants.proofs.Zeros.{with-resource}
use Rattle.verifying_plants.proofs.zero_words.zero_words.Goals as goal

pub loop-resource-preserved : goal.loop-resource-preserved
loop-resource-preserved c =
    let q = c.args.question.now in
    let r = c.loop-resource.resource in
    let tasks = c.in_ok-tasks.tasks.items in
    let old = c.loop-resource.numbers.items in
    let new = c.push_words_in.new.numbers.items in
    let plant : c.question.inside.plant.value ≡ q.plant = ap (λ (x : Question). x.plant) c.question.view_is in
    let many : length c.tasks.result.now ≡ length (tasks_at q.plant r) = ap length (c.tasks.ensures ∙ ap (λ (p : PlantValue). tasks_at p r) (c.deref-in-loop-resource-2.ensures ∙ plant)) in
    with-resource (zero_words_at q (is_listed tasks)) q.plant r [] old new c.loop-resource.invariant
    (subst (λ (n : ℕ). new ≡ with_numbers old (flat_map (zero_words_at q (is_listed tasks)) (first_tasks r n))) many
    (subst (λ (l : List TaskRef). new ≡ with_numbers old (flat_map (zero_words_at q (is_listed l)) (first_tasks r (length c.tasks.result.now)))) c.deref-in-loop-resource.ensures.value c.in_ok-push_words_in.ensures))

pub returns : goal.returns
returns c =
    let q = c.args.question.now in
    let claims = lists_of c.args.claims.now in
    let tasks = c.in_ok-tasks.tasks.items in
    let numbers = c.loop-resource.numbers.items in
    let plant : c.question.inside.plant.value ≡ q.plant = ap (λ (x : Question). x.plant) c.question.view_is in
    let given : c.deref-2.result.now ≡ q.given = c.deref-2.ensures.value ∙ ap (λ (x : Question). x.given) c.question.view_is in
    let many : c.resources-resource-end.result ≡ length q.plant.resources = c.resources-resource-end.ensures.count ∙ ap (λ (p : PlantValue). length p.resources) (c.deref-3.ensures ∙ plant) in
    let test = c.loop-resource-test.false in
    let end : c.loop-resource.resource ≡ length q.plant.resources = omega (arith, many, test) in
    record {
      looks = is_listed tasks;
      reached = λ t.
          subst (λ (p : PlantValue). (is_listed tasks t ≡ true) ↔ IsReached p (asked_tasks q.given claims) t) (c.deref.ensures ∙ plant)
          (subst (λ (g : List Output). (is_listed tasks t ≡ true) ↔ IsReached c.deref.result.now (asked_tasks g claims) t) given (c.in_ok-tasks.ensures t));
      whole = subst (λ (k : ℕ). numbers ≡ with_numbers [] (flat_map (zero_words_at q (is_listed tasks)) (tasks_before q.plant k))) end c.loop-resource.invariant;
    }
