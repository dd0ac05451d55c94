use Rattle.std.proofs.Common.{◌≡◌, ℕ, subst, arith}
use Rattle.std.specs.List.{flat_map}
use Rattle.plant_claims.specs.Steps.Scoping.{is_listed}
use Rattle.verifying_plants.specs.ZeroWords.{first_tasks, with_numbers, zero_words_at}
use Rattle.verifying_plants.proofs.Zeros.{with-task}
use Rattle.verifying_plants.proofs.zero_words.push_words_in.Goals as goal

pub loop-task-preserved : goal.loop-task-preserved
loop-task-preserved c =
    with-task (zero_words_at c.args.question.now (is_listed c.args.tasks.now)) c.args.resource c.loop-task.task c.args.numbers.now.items c.loop-task.numbers.items
    c.push_words_at.new.numbers.items c.loop-task.invariant c.in_ok-push_words_at.ensures

pub returns : goal.returns
returns c =
    let end : c.loop-task.task ≡ c.args.count = omega arith in
    subst (λ (k : ℕ). c.loop-task.numbers.items ≡ with_numbers c.args.numbers.now.items (flat_map (zero_words_at c.args.question.now (is_listed c.args.tasks.now)) (first_tasks c.args.resource k))) end c.loop-task.invariant
