use Rattle.std.proofs.Common.{◌∙◌, refl, sym, arith}
use Rattle.std.proofs.lemmas.Bool.{false≢true}
use Rattle.power_flow.proofs.Networks.SameNetworks.{same_elements_of, elements_at}
use Rattle.power_flow.proofs.steps.circuits.have_same_elements.Goals as goal

pub returns-then-not-are_same_elements : goal.returns-then-not-are_same_elements
returns-then-not-are_same_elements c = (
  λ h. absurd (false≢true h),
  λ same. sym c.if-not-are_same_elements.true
      ∙ c.are_same_elements.ensures.1 (c.deref.ensures.value
      ∙ elements_at c.args.circuits.now c.args.others.now c.loop-i.i c.index-circuits-i.result c.index-others-i.result same (omega arith)
      ∙ sym c.deref-in-loop-i.ensures.value),
)

pub returns : goal.returns
returns c = (λ _. same_elements_of c.args.circuits.now c.args.others.now c.if-circuits-others.false (λ k d lt. c.loop-i.invariant k d (omega arith)), λ _. refl)
