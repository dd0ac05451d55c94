use Rattle.std.proofs.Common.{◌≡◌, length, refl, arith}
use Rattle.lists.proofs.Places.{same_within}
use Rattle.task_codes.proofs.same_code.have_same_programs.Goals as goal

pub returns-clause-same : goal.returns-clause-same
returns-clause-same c =
    let many : length c.args.code.now.programs ≡ length c.args.other.now.programs = omega arith in
    (λ _. same_within c.args.code.now.programs c.args.other.now.programs many (λ k lt. c.loop-i.invariant k (omega arith)), λ _. refl)
