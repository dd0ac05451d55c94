use Rattle.std.proofs.Common.{◌≡◌, ◌∙◌, refl, sym, subst, inl, inr}
use Rattle.std.proofs.lemmas.Result.{IfOk-weaker}
use Rattle.audit.specs.Lines.{AreLeft}
use Rattle.audit.specs.Reasons.{IsAbove}
use Rattle.audit.specs.Steps.Following.{IsNotRisen}
use Rattle.audit.proofs.Comings.{risen_start}
use Rattle.audit.proofs.Leavings.{left_same}
use Rattle.audit.proofs.doing.start.Goals as goal

pub returns-in-Some-clause-started : goal.returns-in-Some-clause-started
returns-in-Some-clause-started c =
    (refl, inl (subst (λ k. IsNotRisen k c.args.incarnation c.in-Some.reason) c.incarnation.ensures c.in-Some.ensures))

pub returns-then-not-are_all_same-clause-started :
    goal.returns-then-not-are_all_same-clause-started
returns-then-not-are_all_same-clause-started c = (
  refl,
  inr (inl (
    refl,
    subst (λ k. IsAbove k c.args.incarnation) c.incarnation.ensures c.in_default.ensures,
    λ are.
        let same : c.args.kept.now ≡ c.as_slice.result.now = left_same c.args.station.journal c.args.kept.now c.args.past.now.left.items are c.requires.left ∙ sym c.as_slice.ensures.value in
        let all = c.are_all_same.ensures.1 same in
        let not = c.if-not-are_all_same.true in
        absurd cc,
  )),
)

pub returns-clause-started : goal.returns-clause-started
returns-clause-started c =
    let same : c.args.kept.now ≡ c.args.past.now.left.items = c.are_all_same.ensures.0 c.if-not-are_all_same.false ∙ c.as_slice.ensures.value in
    IfOk-weaker c.restart.result _ _ (λ r h. risen_start c.restart.new.book c.args.incarnation c.args.kept.now c.args.station r.0 r.1 (subst (AreLeft c.args.station.journal) (sym same) c.requires.left) h) c.restart.ensures.risen
