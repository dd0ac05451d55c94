use Rattle.std.proofs.Common.{ap, ◌∙◌, false}
use Rattle.std.proofs.lemmas.List.{take_all}
use Rattle.clauses.specs.declared.literal.Literal.{Literal}
use Rattle.clauses.specs.Clauses.{clause_value}
use Rattle.gates.specs.Signals.{bit_of}
use Rattle.transition_systems.specs.Systems.{bits_at}
use Rattle.transition_systems.proofs.ClausesOver.{over_more}
use Rattle.transition_systems.proofs.over_signals.clause_over.Goals as goal

pub loop-literal-preserved : goal.loop-literal-preserved
loop-literal-preserved c = λ v.
    let d : Literal = record { variable = 0; is_negated = false } in
    rw c.in_ok-put_literal.ensures
    (over_more v (bit_of (bits_at v c.args.signals.now)) c.loop-literal.over.items c.args.clause.now c.loop-literal.literal-index d
    c.in-Some.found c.loop-literal-test.true (c.loop-literal.invariant v) (c.in-Some.ensures v))

pub returns : goal.returns
returns c = λ v.
    c.loop-literal.invariant v
    ∙ ap (clause_value (bit_of (bits_at v c.args.signals.now))) (take_all c.loop-literal.literal-index c.args.clause.now c.loop-literal-test.false)
