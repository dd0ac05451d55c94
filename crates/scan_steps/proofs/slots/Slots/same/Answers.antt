use Rattle.std.proofs.Common.{refl, arith}
use Rattle.lists.proofs.Places.{same_within}
use Rattle.scan_steps.proofs.SameBools.{all_same}
use Rattle.scan_steps.proofs.slots.Slots.same.Goals as goal

pub returns-then-has_bools_alone-2 : goal.returns-then-has_bools_alone-2
returns-then-has_bools_alone-2 c =
    let on = c.if-not-has_same_bools.false in (
      λ _. all_same c.args.self.now c.args.other.now (c.has_same_bools.ensures.many on) (c.has_same_bools.ensures.bools on)
          (c.has_bools_alone.ensures c.if-has_bools_alone.true) (c.has_bools_alone-then-has_bools_alone.ensures c.if-has_bools_alone-2.true),
      λ _. refl,
    )

pub returns : goal.returns
returns c = (
  λ _. same_within c.args.self.now c.args.other.now (c.has_same_bools.ensures.many c.if-not-has_same_bools.false) (λ k lt. c.loop-place.invariant k (omega arith)),
  λ _. refl,
)
