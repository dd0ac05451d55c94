use Rattle.std.proofs.Common.{ap, sym, ◌∙◌}
use Rattle.std.proofs.lemmas.Bool.{not-true}
use Rattle.clauses.specs.Clauses.{clause_value}
use Rattle.transition_systems.proofs.obligations.check_safe.Goals as goal

pub returns-then-is_shown : goal.returns-then-is_shown
returns-then-is_shown c = λ formula following v trues.
    let shown = c.is_shown.ensures c.if-is_shown.true formula following v trues in
    not-true _ (sym (c.negated.ensures v) ∙ sym (c.in_ok-not_bad.ensures v) ∙ ap (clause_value v) (sym c.as_slice.ensures.value) ∙ shown)
