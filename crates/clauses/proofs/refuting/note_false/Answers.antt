use Rattle.std.proofs.Common.{false}
use Rattle.clauses.specs.declared.literal.Literal.{Literal}
use Rattle.clauses.proofs.Agreeing.{agreed_set, false_in, variable_of_false}
use Rattle.clauses.proofs.refuting.note_false.Goals as goal

pub loop-literal-preserved : goal.loop-literal-preserved
loop-literal-preserved c = λ v agreed falses.
    let d : Literal = record { variable = 0; is_negated = false } in
    let here = false_in v c.args.clause.now c.loop-literal.literal-index d c.loop-literal-test.true falses in
    rw c.assign.ensures
    (agreed_set v c.loop-literal.known _ _ (variable_of_false v _ here) (c.loop-literal.invariant v agreed falses))
