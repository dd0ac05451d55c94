use Rattle.std.proofs.Common.{◌≡◌, true, sym, ap, subst, List, ◌∙◌}
use Rattle.std.proofs.lemmas.List.{take_all}
use Rattle.std.proofs.lemmas.List.Elements.{All-more}
use Rattle.std.specs.Global.{Vec}
use Rattle.clauses.specs.declared.literal.Literal.{Literal}
use Rattle.clauses.specs.Clauses.{clause_value}
use Rattle.gates.specs.Signals.{bit_of}
use Rattle.transition_systems.specs.Certificates.{HoldOf}
use Rattle.transition_systems.proofs.first_state.hold_of.Goals as goal

pub loop-clause-preserved : goal.loop-clause-preserved
loop-clause-preserved c =
    let w = bit_of c.args.state.now in
    let IsOn : Vec Literal → Type 0 = λ d. clause_value (bit_of c.args.state.now) d.items ≡ true in
    let item = c.clause-item.result in
    let here : IsOn item =
    ap (clause_value (bit_of c.args.state.now)) (sym c.as_slice.ensures.value) ∙ sym c.is_clause_on.ensures ∙ c.if-not-is_clause_on.false in
    All-more IsOn c.args.clauses.now c.loop-clause.clause-index item c.loop-clause-test.true c.loop-clause.invariant
    (subst IsOn c.clause-item.is here)

pub returns : goal.returns
returns c = λ _.
    subst (λ (clauses : List (Vec Literal)). HoldOf clauses c.args.state.now)
    (take_all c.loop-clause.clause-index c.args.clauses.now c.loop-clause-test.false) c.loop-clause.invariant
