use Rattle.std.proofs.Common.{sym}
use Rattle.std.proofs.lemmas.List.Elements.{Contains-append_left}
use Rattle.clauses.proofs.Follows.{contains_clause}
use Rattle.clauses.proofs.refuting.numbered.Goals as goal

pub returns-in-Some : goal.returns-in-Some
returns-in-Some c =
    let at = c.in-Some.ensures.lookup.3 in
    Contains-append_left _ _ _ (c.args.number, at.0, sym (at.1 c.in-Some.clause.now))

pub returns-in_ok-step-in-None : goal.returns-in_ok-step-in-None
returns-in_ok-step-in-None c =
    let at = c.in_ok-step-in-None.ensures.lookup.3 in
    contains_clause c.args.formula.now c.args.steps.now _ c.in_ok-step-in-None.step.now at.0 (sym (at.1 c.in_ok-step-in-None.step.now))
