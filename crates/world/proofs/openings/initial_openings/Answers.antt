use Rattle.std.proofs.Common.{◌++◌, ◌∷◌, [], map, arith, ap, sym, ◌∙◌, subst}
use Rattle.std.proofs.lemmas.List.{map-append, take_all}
use Rattle.task_codes.specs.CodeValue.{lists_of}
use Rattle.world.specs.History.{AreOpenings}
use Rattle.world.proofs.Opening.{opening-of, opening-more, initial-openings}
use Rattle.world.proofs.openings.initial_openings.Goals as goal

pub loop-resource-preserved : goal.loop-resource-preserved
loop-resource-preserved c =
    let tasks = c.in_ok-initial_opening.field-0 in
    ap lists_of c.in_ok-push.ensures.items
    ∙ map-append (λ v. v.items) c.loop-resource.opening.items (tasks ∷ [])
    ∙ ap (λ l. l ++ tasks.items ∷ []) c.loop-resource.invariant
    ∙ opening-more c.args.plant.now c.loop-resource.resource tasks.items (omega arith) c.in_ok-initial_opening.ensures.value

pub returns-clause-value : goal.returns-clause-value
returns-clause-value c = c.loop-resource.invariant ∙ ap (map opening-of) (take_all c.loop-resource.resource c.args.plant.now.resources (omega arith))

pub returns-clause-suits : goal.returns-clause-suits
returns-clause-suits c = subst (AreOpenings c.args.plant.now) (sym (returns-clause-value c)) (initial-openings c.args.plant.now)
