use Rattle.std.proofs.Common.{◌∙◌, sym}
use Rattle.std.proofs.lemmas.Bool.{false≢true}
use Rattle.power_flow.proofs.Networks.SameNetworks.{same_diagrams, diagrams_elements, diagrams_rails}
use Rattle.power_flow.proofs.steps.circuits.are_same_networks.Goals as goal

pub returns-then-have_same_rails : goal.returns-then-have_same_rails
returns-then-have_same_rails c = (
  λ h. same_diagrams c.args.rails.now c.args.other_rails.now c.args.circuits.now c.args.others.now (c.have_same_elements.ensures.0 h)
      (c.have_same_rails.ensures.0 c.if-have_same_rails.true),
  λ same. c.have_same_elements.ensures.1 (diagrams_elements c.args.rails.now c.args.other_rails.now c.args.circuits.now c.args.others.now same),
)

pub returns-else-have_same_rails : goal.returns-else-have_same_rails
returns-else-have_same_rails c = (
  λ h. absurd (false≢true (sym c.if-have_same_rails.false ∙ h)),
  λ same. c.have_same_rails.ensures.1 (diagrams_rails c.args.rails.now c.args.other_rails.now c.args.circuits.now c.args.others.now same),
)
