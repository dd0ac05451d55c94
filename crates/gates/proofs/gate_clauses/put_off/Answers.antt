use Rattle.std.proofs.Common.{◌≡◌, true, false, not, ap, ◌∙◌, refl}
use Rattle.clauses.specs.Clauses.{clause_value}
use Rattle.gates.specs.Signals.{signal_value}
use Rattle.gates.proofs.ClausesPut.{one_true, put_behind}
use Rattle.gates.proofs.gate_clauses.put_off.Goals as goal

pub returns : goal.returns
returns c =
    put_behind c.args.clauses.now.items c.args.clauses.now.items c.put_clause.new.clauses.items
    (λ v. signal_value v c.args.itself ≡ false) (λ v. clause_value v c.in_ok-clause.clause.items ≡ true)
    (λ v off all. (
      one_true v c.literal-is_not.result true c.in_ok-clause.clause.items c.in_ok-clause.ensures.items
          (c.literal-is_not.ensures v ∙ c.negated.ensures v ∙ ap not off) refl,
      all,
    ))
    c.put_clause.result c.put_clause.ensures
