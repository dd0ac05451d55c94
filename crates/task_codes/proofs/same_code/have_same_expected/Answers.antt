use Rattle.std.proofs.Common.{◌≡◌, length, refl, ap, arith}
use Rattle.task_codes.proofs.SameCode.{same_by_items}
use Rattle.task_codes.proofs.same_code.have_same_expected.Goals as goal

pub returns : goal.returns
returns c =
    let a = ap length c.producers.ensures in
    let b = ap length c.producers-2.ensures in
    let e = ap length c.producers-k-end.ensures in
    let many : length c.args.code.now.expected ≡ length c.args.other.now.expected = omega (arith, a, b, c.requires.code.each_expected, c.requires.other.each_expected) in (
      λ _. same_by_items c.args.code.now.expected c.args.other.now.expected many (λ k lt. c.loop-k.invariant k (omega (arith, e, c.requires.code.each_expected))),
      λ _. refl,
    )
