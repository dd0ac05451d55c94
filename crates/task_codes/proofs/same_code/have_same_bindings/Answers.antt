use Rattle.std.proofs.Common.{◌≡◌, length, refl, arith}
use Rattle.task_codes.proofs.SameCode.{same_by_items}
use Rattle.task_codes.proofs.same_code.have_same_bindings.Goals as goal

pub returns : goal.returns
returns c =
    let many : length c.args.code.now.bindings ≡ length c.args.other.now.bindings = omega (arith, c.programs.ensures.sound.each_bound, c.programs-2.ensures.sound.each_bound) in (
      λ _. same_by_items c.args.code.now.bindings c.args.other.now.bindings many (λ k lt. c.loop-i.invariant k (omega (arith, c.programs.ensures.sound.each_bound))),
      λ _. refl,
    )
