use Rattle.std.proofs.Common.{◌+◌, [], ◌∷◌, length, take, sym, ap, ◌∙◌, arith}
use Rattle.std.proofs.lemmas.List.{length-take, length-append}
use Rattle.network.specs.GraphValue.{diagram}
use Rattle.power_flow.specs.Waiting.{coil_of, box_of, coils_of, boxes_of}
use Rattle.power_flow.proofs.Boxes.BoxesBinding.{boxes_more}
use Rattle.power_flow.proofs.Networks.ElementSteps.{steps_to_more, coils_counted, filtered_short}
use Rattle.power_flow.proofs.steps.steps.push_elements.Goals as goal

pub push_element-requires-clause-rows : goal.push_element-requires-clause-rows
push_element-requires-clause-rows c = rw c.loop-k.invariant.long c.requires.rows

pub note_element-requires-clause-rows : goal.note_element-requires-clause-rows
note_element-requires-clause-rows c = rw c.loop-k.invariant.long c.requires.rows

pub after-numbers-requires-clause-coils : goal.after-numbers-requires-clause-coils
after-numbers-requires-clause-coils c =
    let short = filtered_short coil_of (take c.loop-k.k c.args.elements.now) in
    let count = c.loop-k.invariant.coils in
    let long = length-take c.loop-k.k c.args.elements.now in
    let lt = c.loop-k-test.true in
    omega arith

pub after-numbers-requires-clause-boxes : goal.after-numbers-requires-clause-boxes
after-numbers-requires-clause-boxes c =
    let short = filtered_short box_of (take c.loop-k.k c.args.elements.now) in
    let count = c.loop-k.invariant.boxes in
    let long = length-take c.loop-k.k c.args.elements.now in
    let lt = c.loop-k-test.true in
    omega arith

pub loop-k-preserved : goal.loop-k-preserved
loop-k-preserved c =
    let es = c.args.elements.now in
    let d = diagram c.args.rails.now es in
    let k = c.loop-k.k in
    let e = c.index-elements-k.result in
    let lt = c.loop-k-test.true in
    let long = c.loop-k.invariant.long in
    let same = c.note_element.ensures.long in
    record {
      steps = steps_to_more c.args.declarations.now d c.args.top k c.loop-k.steps.items c.push_element.new.steps.items c.loop-k.invariant.steps c.in_ok-push_element.ensures;
      ends = c.note_element.ensures.ends c.args.rails.now c.loop-k.invariant.ends;
      long = omega arith;
      coils = c.after-numbers.ensures.coils ∙ ap (λ n. n + length (coils_of (e ∷ []))) c.loop-k.invariant.coils ∙ sym (coils_counted es k e lt c.index-elements-k.is);
      boxes = c.after-numbers.ensures.boxes ∙ ap (λ n. n + length (boxes_of (e ∷ []))) c.loop-k.invariant.boxes
          ∙ sym (ap length (boxes_more es k e lt c.index-elements-k.is) ∙ length-append (boxes_of (take k es)) (boxes_of (e ∷ [])));
    }
