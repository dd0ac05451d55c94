use Rattle.std.proofs.Common.{◌∙◌}
use Rattle.plant_grammar.specs.declared.grammar.tree.Section.TheVariants as section
use Rattle.plant_grammar.proofs.RetainedPlaces.{place_more, places_all}
use Rattle.plant_grammar.proofs.grammar.retained_places.retained_places.Goals as goal

pub loop-place-preserved : goal.loop-place-preserved
loop-place-preserved c =
    place_more c.deref-section-items.result.now c.loop-place.place section.Input c.loop-place.places.items c.push_place.new.places.items c.loop-place-test.true c.loop-place.invariant c.in_ok-push_place.ensures

pub returns : goal.returns
returns c = rw (c.deref-section-items.ensures.value ∙ c.in_ok-of_variables.ensures) at (places_all c.deref-section-items.result.now c.loop-place.place c.loop-place.places.items c.loop-place-test.false c.loop-place.invariant)
