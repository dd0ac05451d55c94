use Rattle.std.proofs.Common.{inr, true, refl, sym, arith}
use Rattle.std.specs.Fn.{FnReturnsAtPair}
use Rattle.std.proofs.lemmas.Bool.{false≢true}
use Rattle.std.proofs.lemmas.Fn.{says_at_two}
use Rattle.std.proofs.lemmas.Option.{slice_get_within, slice_get_read}
use Rattle.lists.proofs.Places.{one_more}
use Rattle.lists.proofs.same.are_same.Goals as goal

pub returns-then-not-same : goal.returns-then-not-same
returns-then-not-same g c =
    let i = c.loop-i.i in
    let x = c.index-items-i.result in
    let y = c.index-others-i.result in
    let at = slice_get_read c.args.items.now _ i x refl (omega arith) c.index-items-i.is in
    let found = slice_get_read c.args.others.now _ i y refl (omega arith) c.index-others-i.is in record {
      same = λ on. absurd (false≢true on);
      other = λ _. inr (x, y, (i, at, found), says_at_two g.F.Fn c.same.ensures c.if-not-same.true);
    }

pub loop-i-preserved : goal.loop-i-preserved
loop-i-preserved g c =
    let i = c.loop-i.i in
    let x = c.index-items-i.result in
    let y = c.index-others-i.result in
    let at = slice_get_read c.args.items.now _ i x refl (omega arith) c.index-items-i.is in
    let found = slice_get_read c.args.others.now _ i y refl (omega arith) c.index-others-i.is in
    let here = says_at_two g.F.Fn c.same.ensures c.if-not-same.false in
    one_more (λ k x y. FnReturnsAtPair g.F.Fn c.args.same x y true) c.args.items.now c.args.others.now i x y at found here c.loop-i.invariant

pub returns : goal.returns
returns g c = record {
  same = λ _. record {
    many = c.if-items-others.false;
    each = λ x y at. let lt = slice_get_within c.args.items.now at.0 x at.1 in c.loop-i.invariant at.0 x y (omega arith) at.1 at.2;
  };
  other = λ off. absurd (false≢true (sym off));
}
