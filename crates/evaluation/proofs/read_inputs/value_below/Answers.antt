use Rattle.std.proofs.Common.{◌-ℤ◌, Some, pos, ap, arith, ◌∙◌}
use Rattle.std.specs.Option.{option_map}
use Rattle.std.proofs.lemmas.Int.{ints}
use Rattle.evaluation.proofs.read_inputs.value_below.Goals as goal

pub overflow_cast-result : goal.overflow_cast-result
overflow_cast-result c = let h = c.in-Some.ensures.within in omega (arith, ints)

pub overflow_sub-result : goal.overflow_sub-result
overflow_sub-result c = let h = c.in-Some.ensures.within in omega (arith, ints)

pub overflow_cast-result-in-Some : goal.overflow_cast-result-in-Some
overflow_cast-result-in-Some c = let h = c.in-Some.ensures.within in omega (arith, ints)

pub returns-in-Some : goal.returns-in-Some
returns-in-Some c =
    let h = c.in-Some.ensures.within in
    ap (λ n. Some n) (omega (arith, ints)) ∙ ap (option_map (λ n. pos 0 -ℤ pos n)) c.in-Some.ensures.value
