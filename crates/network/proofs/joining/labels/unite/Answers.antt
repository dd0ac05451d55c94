use Rattle.std.proofs.Common.{◌<◌, ◌≤◌, length, arith, sym}
use Rattle.network.specs.Steps.Joined.{AreFalling}
use Rattle.network.proofs.Joined.Spreading.{AreRoots, roots_joined, roots_united, Joined-sym, link_chained, link_kept, link_one}
use Rattle.network.proofs.joining.labels.unite.Goals as goal

roots-then : (c : goal.Then-one-other) → AreRoots c.args.labels.now c.root_of-one.new.labels c.root_of-other.new.labels c.args.pair.one c.args.pair.other c.root_of-one.result c.root_of-other.result
roots-then c = record {
  first = c.root_of-one.ensures.classes;
  second = c.root_of-other.ensures.classes;
  found = c.root_of-one.ensures.found;
  found' = c.root_of-other.ensures.found;
  chained = c.root_of-one.ensures.chained;
  chained' = c.root_of-other.ensures.chained;
}

roots-else : (c : goal.Else-one-other) → AreRoots c.args.labels.now c.root_of-one.new.labels c.root_of-other.new.labels c.args.pair.one c.args.pair.other c.root_of-one.result c.root_of-other.result
roots-else c = record {
  first = c.root_of-one.ensures.classes;
  second = c.root_of-other.ensures.classes;
  found = c.root_of-one.ensures.found;
  found' = c.root_of-other.ensures.found;
  chained = c.root_of-one.ensures.chained;
  chained' = c.root_of-other.ensures.chained;
}

pub returns-then-one-other-clause-chained : goal.returns-then-one-other-clause-chained
returns-then-one-other-clause-chained c =
    let l0 = c.args.labels.now in
    let l1 = c.root_of-one.new.labels in
    let l2 = c.root_of-other.new.labels in
    let a = c.root_of-one.result in
    let b = c.root_of-other.result in
    let r = roots-then c in
    let falling : AreFalling l2 = r.second.falling (r.first.falling c.requires.falling) in
    let in_a : a < length l2 = (let w = c.root_of-one.ensures.within in let l = r.second.long in omega arith) in
    let in_b : b < length l2 = c.root_of-other.ensures.within in
    let in_hi = in_b in
    let in_lo = in_a in
    let root = c.root_of-other.ensures.root in
    let low : a ≤ b = (let t = c.if-one-other.true in omega arith) in
    λ pairs in' h. (let joined = roots_joined l0 l1 l2 c.args.pair a b r pairs in' h in link_chained l2 falling b a in_hi in_lo root low pairs joined (r.second.chained pairs (r.first.chained pairs h)))

pub returns-then-one-other-clause-kept : goal.returns-then-one-other-clause-kept
returns-then-one-other-clause-kept c =
    let l0 = c.args.labels.now in
    let l1 = c.root_of-one.new.labels in
    let l2 = c.root_of-other.new.labels in
    let a = c.root_of-one.result in
    let b = c.root_of-other.result in
    let r = roots-then c in
    let falling : AreFalling l2 = r.second.falling (r.first.falling c.requires.falling) in
    let in_a : a < length l2 = (let w = c.root_of-one.ensures.within in let l = r.second.long in omega arith) in
    let in_b : b < length l2 = c.root_of-other.ensures.within in
    let in_hi = in_b in
    let in_lo = in_a in
    let root = c.root_of-other.ensures.root in
    let low : a ≤ b = (let t = c.if-one-other.true in omega arith) in
    λ f h. r.first.kept f (r.second.kept f (link_kept l2 falling b a in_hi in_lo root low f h))

pub returns-then-one-other-clause-united : goal.returns-then-one-other-clause-united
returns-then-one-other-clause-united c =
    let l0 = c.args.labels.now in
    let l1 = c.root_of-one.new.labels in
    let l2 = c.root_of-other.new.labels in
    let a = c.root_of-one.result in
    let b = c.root_of-other.result in
    let r = roots-then c in
    let falling : AreFalling l2 = r.second.falling (r.first.falling c.requires.falling) in
    let in_a : a < length l2 = (let w = c.root_of-one.ensures.within in let l = r.second.long in omega arith) in
    let in_b : b < length l2 = c.root_of-other.ensures.within in
    let in_hi = in_b in
    let in_lo = in_a in
    let root = c.root_of-other.ensures.root in
    let low : a ≤ b = (let t = c.if-one-other.true in omega arith) in
    λ f h. (let same = link_one l2 falling b a in_hi in_lo root low f h in roots_united l0 l1 l2 l2 c.args.pair.one c.args.pair.other a b r f (link_kept l2 falling b a in_hi in_lo root low f h) same)

pub returns-else-one-other-clause-chained : goal.returns-else-one-other-clause-chained
returns-else-one-other-clause-chained c =
    let l0 = c.args.labels.now in
    let l1 = c.root_of-one.new.labels in
    let l2 = c.root_of-other.new.labels in
    let a = c.root_of-one.result in
    let b = c.root_of-other.result in
    let r = roots-else c in
    let falling : AreFalling l2 = r.second.falling (r.first.falling c.requires.falling) in
    let in_a : a < length l2 = (let w = c.root_of-one.ensures.within in let l = r.second.long in omega arith) in
    let in_b : b < length l2 = c.root_of-other.ensures.within in
    let in_hi = in_a in
    let in_lo = in_b in
    let root = r.second.roots a c.root_of-one.ensures.root in
    let low : b ≤ a = c.if-one-other.false in
    λ pairs in' h. (let joined = roots_joined l0 l1 l2 c.args.pair a b r pairs in' h in link_chained l2 falling a b in_hi in_lo root low pairs (Joined-sym pairs joined) (r.second.chained pairs (r.first.chained pairs h)))

pub returns-else-one-other-clause-kept : goal.returns-else-one-other-clause-kept
returns-else-one-other-clause-kept c =
    let l0 = c.args.labels.now in
    let l1 = c.root_of-one.new.labels in
    let l2 = c.root_of-other.new.labels in
    let a = c.root_of-one.result in
    let b = c.root_of-other.result in
    let r = roots-else c in
    let falling : AreFalling l2 = r.second.falling (r.first.falling c.requires.falling) in
    let in_a : a < length l2 = (let w = c.root_of-one.ensures.within in let l = r.second.long in omega arith) in
    let in_b : b < length l2 = c.root_of-other.ensures.within in
    let in_hi = in_a in
    let in_lo = in_b in
    let root = r.second.roots a c.root_of-one.ensures.root in
    let low : b ≤ a = c.if-one-other.false in
    λ f h. r.first.kept f (r.second.kept f (link_kept l2 falling a b in_hi in_lo root low f h))

pub returns-else-one-other-clause-united : goal.returns-else-one-other-clause-united
returns-else-one-other-clause-united c =
    let l0 = c.args.labels.now in
    let l1 = c.root_of-one.new.labels in
    let l2 = c.root_of-other.new.labels in
    let a = c.root_of-one.result in
    let b = c.root_of-other.result in
    let r = roots-else c in
    let falling : AreFalling l2 = r.second.falling (r.first.falling c.requires.falling) in
    let in_a : a < length l2 = (let w = c.root_of-one.ensures.within in let l = r.second.long in omega arith) in
    let in_b : b < length l2 = c.root_of-other.ensures.within in
    let in_hi = in_a in
    let in_lo = in_b in
    let root = r.second.roots a c.root_of-one.ensures.root in
    let low : b ≤ a = c.if-one-other.false in
    λ f h. (let same = link_one l2 falling a b in_hi in_lo root low f h in roots_united l0 l1 l2 l2 c.args.pair.one c.args.pair.other a b r f (link_kept l2 falling a b in_hi in_lo root low f h) (sym same))
