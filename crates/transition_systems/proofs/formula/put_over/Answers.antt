use Rattle.std.proofs.Common.{◌≡◌, true, sym, ap, subst, ◌∙◌}
use Rattle.std.specs.Global.{Vec}
use Rattle.clauses.specs.declared.literal.Literal.{Literal}
use Rattle.clauses.specs.Clauses.{clause_value}
use Rattle.gates.specs.Signals.{bit_of}
use Rattle.transition_systems.specs.Systems.{bits_at}
use Rattle.transition_systems.proofs.formula.put_over.Goals as goal

pub loop-clause-preserved : goal.loop-clause-preserved
loop-clause-preserved c = λ v holds all.
    let item = c.clause-item.result in
    let here : clause_value (bit_of (bits_at v c.args.signals.now)) item.items ≡ true =
    subst (λ (d : Vec Literal). clause_value (bit_of (bits_at v c.args.signals.now)) d.items ≡ true) (sym c.clause-item.is)
    (holds c.loop-clause.clause-index item c.loop-clause-test.true) in
    c.in_ok-put_clause.ensures v
    (c.in_ok-over.ensures v ∙ ap (clause_value (bit_of (bits_at v c.args.signals.now))) c.as_slice.ensures.value ∙ here)
    (c.loop-clause.invariant v holds all)
