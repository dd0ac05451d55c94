use Rattle.std.proofs.Common.{◌≡◌, ◌++◌, List}
use Rattle.plant_grammar.specs.Grammar.{TextValue}
use Rattle.warnings.specs.OfPlant.{AreBodiesWarned}
use Rattle.warnings.proofs.of_plant.bodies_warnings.Given as goal

abbrev pub invariant-loop-text : goal.invariant-loop-text
invariant-loop-text l =
    (before : List TextValue) × (before ++ l.text-iterator.rest.items ≡ l.fn.texts.items) × AreBodiesWarned l.time before l.warnings.items
