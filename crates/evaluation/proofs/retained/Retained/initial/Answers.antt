use Rattle.std.proofs.Common.{◌≡◌, subst, sym}
use Rattle.evaluation.specs.Steps.Facts.{initial_suits}
use Rattle.evaluation.specs.Retained.{Suits, initial_retained}
use Rattle.evaluation.proofs.RetainedStates.{first_values_are}
use Rattle.evaluation.proofs.retained.Retained.initial.Goals as goal
use Rattle.evaluation.proofs.retained.Retained.initial.Goals.{In_ok-first_values}

is : (c : In_ok-first_values) → c.in_ok-first_values.field-0.items ≡ initial_retained c.args.code.now
is c = first_values_are c.args.code.now c.in_ok-first_values.field-0.items (rw c.retained.ensures.list at c.in_ok-first_values.ensures)

pub returns-clause-value : goal.returns-clause-value
returns-clause-value c = is c

pub returns-clause-suits : goal.returns-clause-suits
returns-clause-suits c = subst (Suits c.args.code.now) (sym (is c)) (initial_suits c.args.code.now)
