use Rattle.std.proofs.Common.{ℕ, subst, [], ◌∷◌, ◌+◌, ◌++◌, List, All, take, length, sym, ap, ◌∙◌}
use Rattle.std.proofs.lemmas.List.{length-append, take_all}
use Rattle.lists.proofs.Members.{all_first, all_last}
use Rattle.network.specs.declared.element.Element.{Element}
use Rattle.name_faults.specs.Steps.Named.{IsNamedBox}
use Rattle.power_flow.specs.Steps.BoxTable.{ArePinsIn, AreOutputsIn}
use Rattle.power_flow.specs.Steps.BoxTable.{boxes_of}
use Rattle.power_flow.proofs.Boxes.BoxesBinding.{boxes_more}
use Rattle.power_flow.proofs.binding.box_binding.bind_boxes.Goals as goal

pub loop-element-preserved : goal.loop-element-preserved
loop-element-preserved c =
    let es = c.args.elements.now in
    let i = c.loop-element.element-index in
    let e = c.element-item.result in
    let more = boxes_more es i e c.loop-element-test.true c.element-item.is in
    let here = boxes_of (e ∷ []) in
    let before = boxes_of (take i es) in
    record {
      count = c.in_ok-push_box.ensures.count ∙ ap (λ n. n + length here) c.loop-element.invariant.count ∙ sym (ap length more ∙ length-append before here);
      within = λ rows all.
          let parts : All (ArePinsIn c.args.top rows) (before ++ here) = rw more at all in
          c.in_ok-push_box.ensures.within rows (all_last (ArePinsIn c.args.top rows) before here parts)
          (c.loop-element.invariant.within rows (all_first (ArePinsIn c.args.top rows) before here parts));
      bound = λ all.
          let parts : All (IsNamedBox c.args.declarations.now) (before ++ here) = rw more at all in
          rw more (c.in_ok-push_box.ensures.bound before (all_last (IsNamedBox c.args.declarations.now) before here parts)
          (c.loop-element.invariant.bound (all_first (IsNamedBox c.args.declarations.now) before here parts)));
    }

pub returns-clause-within : goal.returns-clause-within
returns-clause-within c =
    let P : List Element → Type 0 = λ es. (rows : ℕ) → All (ArePinsIn c.args.top rows) (boxes_of es) → AreOutputsIn rows c.loop-element.boxes.items in
    subst P (take_all c.loop-element.element-index c.args.elements.now c.loop-element-test.false) c.loop-element.invariant.within
