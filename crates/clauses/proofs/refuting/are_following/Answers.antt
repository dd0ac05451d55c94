use Rattle.std.proofs.Common.{subst, arith, take_all}
use Rattle.std.specs.Prelude.{List}
use Rattle.clauses.specs.declared.step.Step.{Step}
use Rattle.clauses.specs.Clauses.{AreFollowing}
use Rattle.clauses.proofs.Follows.{following_more}
use Rattle.clauses.proofs.refuting.are_following.Goals as goal

pub loop-place-preserved : goal.loop-place-preserved
loop-place-preserved c =
    following_more c.args.formula.now c.args.steps.now c.loop-place.place c.index-steps-place.result _ (grind arith) c.loop-place-test.true c.index-steps-place.is
    c.loop-place.invariant (c.is_followed.ensures c.if-not-is_followed.false)

pub returns : goal.returns
returns c = λ _.
    subst (λ (steps : List Step). AreFollowing c.args.formula.now steps)
    (take_all c.loop-place.place c.args.steps.now c.loop-place-test.false) c.loop-place.invariant
