use Rattle.std.proofs.Common.{◌≡◌, ◌∙◌, Some, slice_get, ap, arith}
use Rattle.drawings.specs.declared.place.Place.{Place}
use Rattle.network.specs.Steps.Listed.{element_seen}
use Rattle.network.proofs.Joined.LinkedPairs.{takers_more, takers_all}
use Rattle.network.proofs.joining.takers.takers_of.Goals as goal

pub put_taker-requires : goal.put_taker-requires
put_taker-requires c = λ p has.
    let es = c.args.elements.now in
    let e = element_seen c.at-element.result in
    let at : slice_get es c.loop-k.k ≡ Some e = c.at-element.ensures in
    let w = (c.requires.within c.loop-k.k e p at has).0 in
    let long = c.loop-k.invariant.long in
    omega arith

pub loop-k-preserved : goal.loop-k-preserved
loop-k-preserved c =
    let es = c.args.elements.now in
    let e = element_seen c.at-element.result in
    let k = c.loop-k.k in
    let at : slice_get es k ≡ Some e = c.at-element.ensures in
    record {
      long = c.put_taker.ensures.long ∙ c.loop-k.invariant.long;
      takers = takers_more c.args.rows es c.requires k e at c.args.column c.loop-k.takers c.put_taker.new.takers c.put_taker.ensures.puts c.loop-k.invariant.takers;
    }

pub returns-then-column-first_place-clause-takers : goal.returns-then-column-first_place-clause-takers
returns-then-column-first_place-clause-takers c =
    let es = c.args.elements.now in
    let e = element_seen c.at-element.result in
    let k = c.loop-k.k in
    let at : slice_get es k ≡ Some e = c.at-element.ensures in
    let begins = ap (λ (p : Place). p.column) c.first_place.ensures in
    takers_all c.args.rows es c.requires k e at c.args.column c.loop-k.takers (omega arith) (omega arith) c.loop-k.invariant.takers
