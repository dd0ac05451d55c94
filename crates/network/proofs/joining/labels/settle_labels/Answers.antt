use Rattle.std.proofs.Common.{◌≡◌, ◌∙◌, ℕ, Some, slice_get, length, get_or, arith, refl, inl, inr}
use Rattle.std.proofs.lemmas.Bool.{cases_eq, cases_lt}
use Rattle.std.proofs.lemmas.List.{get_or_past}
use Rattle.std.proofs.lemmas.Option.{slice_get-get_or, slice_get_within}
use Rattle.lists.proofs.Members.{contains_at, at_contains}
use Rattle.network.specs.declared.joining.labels.Pair.{Pair}
use Rattle.network.specs.Steps.Joined.Joined.{here}
use Rattle.network.proofs.Basics.{one_at}
use Rattle.network.proofs.Joined.Spreading.{labels_tell}
use Rattle.network.proofs.joining.labels.settle_labels.Goals as goal

abbrev no_pair : Pair
no_pair = record { one = 0; other = 0 }

pub loop-pair-init : goal.loop-pair-init
loop-pair-init c = record {
  long = refl;
  falling = λ k. elim (cases_lt k (length c.args.labels.now)) [
    | inl lt ↦ rw (c.requires.own k lt) (omega arith)
    | inr ge ↦ rw (get_or_past c.args.labels.now k 0 ge) (omega arith)
  ];
  chained = λ k lt. rw (c.requires.own k lt) here;
  united = λ f h k p lt. absurd (omega arith);
}

pub unite-requires : goal.unite-requires
unite-requires c =
    let w = c.requires.within c.loop-pair.pair-index no_pair c.loop-pair-test.true in
    let l = c.loop-pair.invariant.long in
    record { one = (let a = w.one in omega arith); other = (let a = w.other in omega arith); falling = c.loop-pair.invariant.falling }

pub loop-pair-preserved : goal.loop-pair-preserved
loop-pair-preserved c =
    let i = c.loop-pair.invariant in
    let n = c.loop-pair.pair-index in
    let pairs = c.args.pairs.now in
    let at : slice_get pairs n ≡ Some (get_or pairs n no_pair) = slice_get-get_or pairs n no_pair c.loop-pair-test.true in
    record {
      long = c.unite.ensures.long ∙ i.long;
      falling = c.unite.ensures.falling;
      chained = c.unite.ensures.chained pairs (contains_at pairs n (get_or pairs n no_pair) at) i.chained;
      united = λ f h k p lt at'. elim (cases_eq k n) [
        | inl e ↦ rw (one_at pairs k n p (get_or pairs n no_pair) e at' at) (c.unite.ensures.united f h)
        | inr ne ↦ i.united f (c.unite.ensures.kept f h) k p (omega arith) at'
      ];
    }

pub returns-clause-joined : goal.returns-clause-joined
returns-clause-joined c = λ i j lt lt'.
    let v = c.loop-pair.invariant in
    let pairs = c.args.pairs.now in
    let labels = c.flatten.new.labels in
    let classes = c.flatten.ensures.classes in
    let f : ℕ → ℕ = λ k. get_or labels k 0 in
    let long : length labels ≡ length c.args.labels.now = classes.long ∙ v.long in
    let kept = classes.kept f c.flatten.ensures.flat in
    labels_tell pairs labels (classes.chained pairs v.chained)
    (λ p in'. (let w = at_contains pairs p in' in let lt = slice_get_within pairs w.0 p w.1 in v.united f kept w.0 p (let all = c.loop-pair-test.false in omega arith) w.1))
    i j (omega arith) (omega arith)
