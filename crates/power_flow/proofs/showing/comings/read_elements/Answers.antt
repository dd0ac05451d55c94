use Rattle.std.proofs.Common.{◌+◌, ◌∷◌, [], length, take, refl, sym, ap, ◌∙◌, subst, arith}
use Rattle.std.proofs.lemmas.List.{length-take, length-append}
use Rattle.lists.proofs.Places.{some_same}
use Rattle.network.specs.declared.element.Element.{Element}
use Rattle.network.specs.Apart.{first_place}
use Rattle.network.specs.GraphValue.{diagram}
use Rattle.scan_steps.specs.Steps.Passing.{pass_of}
use Rattle.power_flow.specs.Steps.RowEnds.{AreRows}
use Rattle.power_flow.specs.Steps.Comings.{IsComingTo}
use Rattle.power_flow.specs.Waiting.{coil_of, box_of, coils_of, boxes_of}
use Rattle.power_flow.proofs.Boxes.BoxesBinding.{boxes_more}
use Rattle.power_flow.proofs.Networks.ElementSteps.{at_number, first_in_rows, tells_first, coils_counted, filtered_short}
use Rattle.power_flow.proofs.ShownPower.Reading.{reading_more, part_within}
use Rattle.power_flow.proofs.showing.comings.read_elements.Goals as goal

pub push_element-requires-clause-rows : goal.push_element-requires-clause-rows
push_element-requires-clause-rows c = rw c.loop-k.invariant.long c.requires.rows

pub note_element-requires-clause-rows : goal.note_element-requires-clause-rows
note_element-requires-clause-rows c = rw c.loop-k.invariant.long c.requires.rows

pub comes_to-coming-requires-clause-row : goal.comes_to-coming-requires-clause-row
comes_to-coming-requires-clause-row c =
    let e = c.index-elements-k.result in
    let rows : AreRows c.args.elements.now c.args.top (length c.loop-k.ends) = rw c.loop-k.invariant.long c.requires.rows in
    (first_in_rows c.args.elements.now c.args.top (length c.loop-k.ends) c.loop-k.k e (first_place e) rows c.loop-k-test.true c.index-elements-k.is refl).1

pub pass-requires-clause-steps : goal.pass-requires-clause-steps
pass-requires-clause-steps c =
    let es = c.args.elements.now in
    let e = c.index-elements-k.result in
    let rows : AreRows es c.args.top (length c.loop-k.rows) = rw (c.loop-k.invariant.rows_long, c.requires.states) c.requires.rows in
    let there = at_number es c.loop-k.k e e c.loop-k-test.true c.index-elements-k.is refl in
    part_within c.args.declarations.now (diagram c.args.rails.now es) c.args.top (length c.loop-k.rows) c.loop-k.k c.len-from.result (length c.loop-k.memories) (length c.loop-k.links) (length c.args.boxes.now) e
    c.loop-k.steps.items c.push_element.new.steps.items c.deref.result.now rows there c.in_ok-push_element.ensures (omega (arith, c.len-from.ensures, c.loop-k.steps.ok.0)) c.deref.ensures.value
    (c.loop-k.invariant.memories_long ∙ c.requires.memories) (c.loop-k.invariant.links_long ∙ c.requires.links) c.requires.boxes

pub after-numbers-requires-clause-coils : goal.after-numbers-requires-clause-coils
after-numbers-requires-clause-coils c =
    let short = filtered_short coil_of (take c.loop-k.k c.args.elements.now) in
    let count = c.loop-k.invariant.coils in
    let long = length-take c.loop-k.k c.args.elements.now in
    let lt = c.loop-k-test.true in
    omega arith

pub after-numbers-requires-clause-boxes : goal.after-numbers-requires-clause-boxes
after-numbers-requires-clause-boxes c =
    let short = filtered_short box_of (take c.loop-k.k c.args.elements.now) in
    let count = c.loop-k.invariant.boxes in
    let long = length-take c.loop-k.k c.args.elements.now in
    let lt = c.loop-k-test.true in
    omega arith

pub loop-k-preserved : goal.loop-k-preserved
loop-k-preserved c =
    let es = c.args.elements.now in
    let d = diagram c.args.rails.now es in
    let k = c.loop-k.k in
    let lt = c.loop-k-test.true in
    let here = c.index-elements-k.result in
    let e = c.index-elements-k-in-loop-k.result in
    let there = at_number es k here here lt c.index-elements-k.is refl in
    let rows : AreRows es c.args.top (length c.loop-k.ends) = rw c.loop-k.invariant.long c.requires.rows in
    let tells = tells_first d c.requires.sound c.args.top k here (first_place here) c.loop-k.ends rows lt c.index-elements-k.is refl c.loop-k.invariant.ends in
    let P : Element → Type 0 = λ w. IsComingTo d c.args.top c.loop-k.rows w c.comes_to-coming.result in
    let long = c.loop-k.invariant.long in
    let same = c.note_element.ensures.long in
    let rows_kept = c.pass.auto.rows in
    let memories_kept = c.pass.auto.memories in
    let links_kept = c.pass.auto.links in
    let results_kept = c.pass.auto.results in
    let rows_long = c.loop-k.invariant.rows_long in
    let memories_long = c.loop-k.invariant.memories_long in
    let links_long = c.loop-k.invariant.links_long in
    let results_long = c.loop-k.invariant.results_long in
    record {
      read = reading_more c.args.declarations.now d c.args.top c.args.boxes.now c.args.slots.now c.args.dt k c.len-from.result c.loop-k.steps.items c.push_element.new.steps.items c.deref.result.now
          c.loop-k.comings.items c.push.new.self.items c.comes_to-coming.result (pass_of c.args.rows.now c.args.memories.now c.args.links.now c.args.results.now)
          (pass_of c.loop-k.rows c.loop-k.memories c.loop-k.links c.loop-k.results) (pass_of c.pass.new.rows c.pass.new.memories c.pass.new.links c.pass.new.results)
          c.loop-k.invariant.read c.in_ok-push_element.ensures (omega (arith, c.len-from.ensures, c.loop-k.steps.ok.0)) c.deref.ensures.value c.in_ok-push.ensures.items
          (λ f at. subst P (some_same (sym there ∙ at)) (c.comes_to-coming.ensures es tells)) c.pass.ensures;
      ends = c.note_element.ensures.ends c.args.rails.now c.loop-k.invariant.ends;
      long = omega arith;
      coils = c.after-numbers.ensures.coils ∙ ap (λ n. n + length (coils_of (e ∷ []))) c.loop-k.invariant.coils ∙ sym (coils_counted es k e lt c.index-elements-k-in-loop-k.is);
      boxes = c.after-numbers.ensures.boxes ∙ ap (λ n. n + length (boxes_of (e ∷ []))) c.loop-k.invariant.boxes
          ∙ sym (ap length (boxes_more es k e lt c.index-elements-k-in-loop-k.is) ∙ length-append (boxes_of (take k es)) (boxes_of (e ∷ [])));
      rows_long = omega arith;
      memories_long = omega arith;
      links_long = omega arith;
      results_long = omega arith;
    }
