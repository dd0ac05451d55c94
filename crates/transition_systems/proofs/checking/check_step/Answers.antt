use Rattle.std.proofs.Common.{List, subst}
use Rattle.std.specs.Global.{Vec}
use Rattle.clauses.specs.declared.literal.Literal.{Literal}
use Rattle.clauses.specs.Clauses.{AreFollowing}
use Rattle.gates.specs.declared.signal.Signal.{Signal}
use Rattle.transition_systems.specs.Steps.Inductive.{AreShown, IsFormula}
use Rattle.transition_systems.proofs.Induction.{lead_to}
use Rattle.transition_systems.proofs.checking.check_step.Goals as goal

pub returns-then-follows : goal.returns-then-follows
returns-then-follows c =
    let t = c.args.system.now in
    let steps = c.as_slice-steps.result.now in
    let formula = c.in_ok-formula.formula.items in
    let following : AreFollowing formula steps =
    subst (λ (fs : List (Vec Literal)). AreFollowing fs steps) c.as_slice.ensures.value (c.in_ok-follows.ensures c.if-follows.true) in
    let kept : AreShown steps c.args.kept.now t.next.items =
    subst (λ (ss : List Signal). AreShown steps c.args.kept.now ss) c.as_slice-next.ensures.value c.in_ok-check_kept.ensures in
    let is : IsFormula t c.args.certificate.now.clauses.items formula =
    subst (λ (cs : List (Vec Literal)). IsFormula t cs formula) c.as_slice-clauses.ensures.value c.in_ok-formula.ensures in
    lead_to t c.args.certificate.now.clauses.items c.args.kept.now formula steps is following kept c.in_ok-check_safe.ensures
