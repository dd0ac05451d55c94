use Rattle.std.proofs.Common.{rules, tests, ◌==◌, ◌∙◌, ap}
use Rattle.std.proofs.lemmas.Iterator.Splits.{YieldsList-from_slice_split}
use Rattle.std.proofs.lemmas.Iterator.Consumers.{YieldsList-end}
use Rattle.verifying_plants.specs.Names.{names_in}
use Rattle.verifying_plants.proofs.claim_words.parts_of.Goals as goal

pub returns : goal.returns
returns c =
    let e = YieldsList-end (YieldsList-from_slice_split _ (λ b. b == 44) c.as_bytes.result.now (cc) (cc) (cc) (λ x b q k. search (rules, tests))) c.loop-part.yielded _ c.loop-part.yielded_by _ _ c.in-None.is c.next.ensures.steps in
    c.loop-part.invariant ∙ e.0 ∙ ap names_in c.as_bytes.ensures.value
