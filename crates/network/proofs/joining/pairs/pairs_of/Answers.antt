use Rattle.std.proofs.Common.{◌≡◌, ◌∙◌, Some, slice_get, arith}
use Rattle.network.specs.Steps.Listed.{element_seen}
use Rattle.network.proofs.Joined.LinkedPairs.{last_more, pairs_more}
use Rattle.network.proofs.joining.pairs.pairs_of.Goals as goal

pub push_pairs-requires-clause-rows : goal.push_pairs-requires-clause-rows
push_pairs-requires-clause-rows c = λ e p at has. (let w = (c.requires.within c.loop-k.k e p at has).0 in let long = c.loop-k.invariant.long in omega arith)

pub put_last-requires : goal.put_last-requires
put_last-requires c = λ p has.
    let es = c.args.elements.now in
    let e = element_seen c.at.result in
    let at : slice_get es c.loop-k.k ≡ Some e = c.at.ensures in
    let w = c.requires.within c.loop-k.k e p at has in
    let long = c.loop-k.invariant.long in
    ((let r = w.0 in omega arith), w.1)

pub loop-k-preserved : goal.loop-k-preserved
loop-k-preserved c =
    let es = c.args.elements.now in
    let e = element_seen c.at.result in
    let k = c.loop-k.k in
    let at : slice_get es k ≡ Some e = c.at.ensures in
    record {
      long = c.put_last.ensures.long ∙ c.loop-k.invariant.long;
      last = last_more c.args.rows es c.requires k e at c.loop-k.last c.put_last.new.last c.put_last.ensures.puts c.loop-k.invariant.last;
      pairs = pairs_more c.args.rows es c.requires k e at c.loop-k.last c.loop-k.pairs.items c.push_pairs.new.pairs.items c.loop-k.invariant.last (c.in_ok-push_pairs.ensures e at) c.loop-k.invariant.pairs;
    }
