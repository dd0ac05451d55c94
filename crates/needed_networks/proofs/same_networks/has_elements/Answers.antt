use Rattle.std.proofs.Common.{sym, ◌∙◌}
use Rattle.needed_networks.proofs.same_networks.has_elements.Goals as goal

pub returns : goal.returns
returns c = λ on. sym c.elements.ensures ∙ c.are_same_elements.ensures.0 on
