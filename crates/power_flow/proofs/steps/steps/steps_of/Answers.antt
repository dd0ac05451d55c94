use Rattle.std.proofs.Common.{◌≡◌, length, ◌∙◌}
use Rattle.network.specs.GraphValue.{diagram}
use Rattle.power_flow.proofs.Networks.FewElements.{few_elements}
use Rattle.power_flow.proofs.steps.steps.steps_of.Goals as goal

pub push_elements-requires-clause-few : goal.push_elements-requires-clause-few
push_elements-requires-clause-few c = few_elements (diagram c.args.rails.now c.args.elements.now) c.requires.sound

pub push_elements-requires-clause-rows : goal.push_elements-requires-clause-rows
push_elements-requires-clause-rows c =
    let long : length c.as_mut_slice.result.now ≡ c.args.rows.count = c.as_mut_slice.ensures.len ∙ c.in_ok-ends.ensures.len in
    rw long c.requires.rows
