use Rattle.std.proofs.Common.{◌≡◌, ◌<◌, ◌++◌, [], ◌∷◌, List, length, take, get_or, sym, ap, ◌∙◌, arith}
use Rattle.std.proofs.lemmas.Bool.{ltb-true}
use Rattle.std.proofs.lemmas.List.{take_more}
use Rattle.network.specs.declared.element.Element.{Element}
use Rattle.needed_networks.proofs.Kept.{found_more, omitted_more}
use Rattle.needed_networks.proofs.same_networks.are_kept.Goals as goal

pub loop-k-preserved-then-has_mark : goal.loop-k-preserved-then-has_mark
loop-k-preserved-then-has_mark c =
    let here = c.in-Some.ensures in
    record {
      found = omitted_more c.args.omitted.now c.args.ladder.now.networks c.loop-k.k here.0 (take c.loop-k.next c.args.networks.now) here.1
          (sym c.has_mark.ensures ∙ c.if-has_mark.true) c.loop-k.invariant.found;
      within = c.loop-k.invariant.within;
    }

pub loop-k-preserved : goal.loop-k-preserved
loop-k-preserved c =
    let here = c.in-Some.ensures in
    let networks = c.args.networks.now in
    let next = c.loop-k.next in
    let network = c.in-Some-get.network.now in
    let within : next < length networks = ltb-true _ _ (sym c.in-Some-get.ensures.lookup.0) in
    let value : network ≡ get_or networks next network = c.in-Some-get.ensures.lookup.1 in
    let same : network ≡ here.0.elements = c.has_elements.ensures c.if-has_elements.true ∙ here.2 in
    record {
      found = take_more networks next network within ∙ ap (λ (n : List Element). take next networks ++ n ∷ []) (sym value)
          ∙ found_more c.args.omitted.now c.args.ladder.now.networks c.loop-k.k here.0 (take next networks) network here.1
          (sym c.has_mark.ensures ∙ c.if-has_mark.false) same c.loop-k.invariant.found;
      within = omega arith;
    }
