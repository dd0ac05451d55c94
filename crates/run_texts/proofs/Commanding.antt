-- The commands for the entries of a plan.
use Rattle.std.proofs.Common.{◌≡◌, ℕ, suc, ◌+◌, ◌<◌, ◌++◌, List, [], ◌∷◌, length, take, get_or, sym, ap, ◌∙◌, arith}
use Rattle.std.proofs.lemmas.List.{take_more, length-take}
use Rattle.task_codes.specs.declared.due.Due.{Due}
use Rattle.plant.specs.PlantValue.{PlantValue}
use Rattle.evaluation.specs.declared.field_input.FieldInput.{FieldInput}
use Rattle.node_reports.specs.declared.command.Command.{Command}
use Rattle.run_texts.specs.RunCommands.{command_for, commands_from}

commands_from-append : (plant : PlantValue) (inputs : List FieldInput) (k : ℕ) (xs ys : List Due) → commands_from plant inputs k (xs ++ ys) ≡ commands_from plant inputs k xs ++ commands_from plant inputs (k + length xs) ys
commands_from-append plant inputs k [] ys = ap (λ j. commands_from plant inputs j ys) (omega arith)
commands_from-append plant inputs k (x ∷ xs) ys =
    let more = commands_from-append plant inputs (k + 1) xs ys in
    let at : k + 1 + length xs ≡ k + suc (length xs) = omega arith in
    ap (λ cs. command_for plant inputs k x ∷ cs) (more ∙ ap (λ j. commands_from plant inputs (k + 1) xs ++ commands_from plant inputs j ys) at)

-- one command more
pub command_added : (plant : PlantValue) (inputs : List FieldInput) (dues : List Due) (i : ℕ) (d : Due) (before after : List Command) (c : Command) → i < length dues → before ≡ commands_from plant inputs 1 (take i dues)
    → c ≡ command_for plant inputs (i + 1) (get_or dues i d) → after ≡ before ++ c ∷ [] → after ≡ commands_from plant inputs 1 (take (i + 1) dues)
command_added plant inputs dues i d before after c lt is one added =
    let at : 1 + length (take i dues) ≡ i + 1 = omega (arith, length-take i dues) in
    let last : commands_from plant inputs (1 + length (take i dues)) (get_or dues i d ∷ []) ≡ c ∷ [] = ap (λ j. command_for plant inputs j (get_or dues i d) ∷ []) at ∙ ap (λ x. x ∷ []) (sym one) in
    added ∙ ap (λ cs. cs ++ c ∷ []) is ∙ ap (λ cs. commands_from plant inputs 1 (take i dues) ++ cs) (sym last)
    ∙ sym (commands_from-append plant inputs 1 (take i dues) (get_or dues i d ∷ [])) ∙ ap (commands_from plant inputs 1) (sym (take_more dues i d lt))
