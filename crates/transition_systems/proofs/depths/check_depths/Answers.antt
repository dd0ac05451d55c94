use Rattle.std.proofs.Common.{◌≡◌, ◌+◌, Bool, List, [], ap, subst, ◌∙◌, arith}
use Rattle.std.specs.Global.{Vec}
use Rattle.clauses.specs.declared.literal.Literal.{Literal}
use Rattle.transition_systems.specs.Certificates.{HoldOf}
use Rattle.transition_systems.specs.Steps.Depths.{clauses_or}
use Rattle.transition_systems.proofs.Induction.{depths_more, never_within}
use Rattle.transition_systems.proofs.depths.check_depths.Goals as goal

pub loop-number-preserved : goal.loop-number-preserved
loop-number-preserved c =
    let depths = c.args.depths.now in
    let number = c.loop-number.number in
    let none : c.as_slice-in-loop-number.result.now ≡ [] = c.as_slice-in-loop-number.ensures.value ∙ c.new-none.ensures.items in
    depths_more c.args.system.now depths [] c.clauses_or-next.result.now number c.index-depths-number.result c.loop-number-test.true
    c.index-depths-number.is
    (c.clauses_or-next.ensures ∙ ap (λ (n : List (Vec Literal)). clauses_or depths (number + 1) n) none)
    c.in_ok-check_step.ensures c.loop-number.invariant

pub returns-clause-never : goal.returns-clause-never
returns-clause-never c = λ rows le.
    let t = c.args.system.now in
    let depths = c.args.depths.now in
    let none : c.as_slice.result.now ≡ [] = c.as_slice.ensures.value ∙ c.new-none.ensures.items in
    let first : c.clauses_or-first.result.now ≡ clauses_or depths 0 [] =
    c.clauses_or-first.ensures ∙ ap (λ (n : List (Vec Literal)). clauses_or depths 0 n) none in
    let at_first : HoldOf c.clauses_or-first.result.now t.first.items =
    subst (λ (bits : List Bool). HoldOf c.clauses_or-first.result.now bits) c.as_slice-2.ensures.value (c.hold_of.ensures c.if-not-hold_of.false) in
    never_within t depths [] (λ k lt. c.loop-number.invariant k (omega arith)) rows 0 t.first.items (omega arith)
    (subst (λ (clauses : List (Vec Literal)). HoldOf clauses t.first.items) first at_first)
