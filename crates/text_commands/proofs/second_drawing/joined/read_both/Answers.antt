use Rattle.std.proofs.Common.{ℕ, List, length, ap, ◌∙◌}
use Rattle.lists.proofs.Results.{kept_fault}
use Rattle.text_commands.specs.SecondDrawing.{joined_names}
use Rattle.text_commands.specs.Steps.SecondDrawing.{RefusesLadders}
use Rattle.text_commands.proofs.SecondDrawings.{beside_refused, both_joined, joined_rails}
use Rattle.text_commands.proofs.second_drawing.joined.read_both.Goals as goal

pub returns-in_err-check_beside-clause-err : goal.returns-in_err-check_beside-clause-err
returns-in_err-check_beside-clause-err c =
    let one = c.in_ok-one.ensures in
    kept_fault c.in_err-check_beside.field-0.0 (RefusesLadders c.args.first.now c.args.second.now) _ c.from_residual-in_err-check_beside.ensures.1
    (beside_refused c.args.first.now c.args.second.now c.row_count-count.result c.in_ok-one.one c.in_ok-two.two c.in_ok-one.names c.in_ok-others.others c.in_err-check_beside.field-0.0
    (c.row_count-count.ensures ∙ ap (λ (l : List ℕ). length l) (c.as_str-above.ensures.value ∙ c.in_ok-rows.ensures)) one.read one.guessed one.bound c.in_ok-two.ensures.read c.in_ok-others.ensures c.in_err-check_beside.ensures.err)

pub returns-clause-ok : goal.returns-clause-ok
returns-clause-ok c =
    let one = c.in_ok-one.ensures in
    both_joined c.args.first.now c.args.second.now c.in_ok-one.one c.in_ok-two.two c.in_ok-one.names c.in_ok-others.others c.in_ok-join.field-0.ladder
    one.read one.guessed one.bound c.in_ok-two.ensures.read c.in_ok-others.ensures c.in_ok-join.ensures.joined c.in_ok-join.ensures.apart

pub returns-clause-rails : goal.returns-clause-rails
returns-clause-rails c =
    joined_rails c.in_ok-one.one c.in_ok-two.two (joined_names c.in_ok-one.names c.in_ok-others.others) c.in_ok-join.field-0.ladder c.in_ok-join.field-0.rails.items c.in_ok-join.ensures.joined c.in_ok-join.ensures.rails
