use Rattle.std.proofs.Common.{◌≡◌, ◌++◌, List}
use Rattle.plant_grammar.specs.Grammar.{TextValue}
use Rattle.plant.specs.ProgramTypes.{AreDrawn}
use Rattle.plant.proofs.drawn.draw_all.Given as goal

abbrev pub invariant-loop-text : goal.invariant-loop-text
invariant-loop-text l = (before : List TextValue) × (before ++ l.text-iterator.rest.items ≡ l.fn.texts.items) × AreDrawn before l.types.items
