use Rattle.std.proofs.Common.{inl, inr, refl}
use Rattle.lists.proofs.Results.{kept_fault}
use Rattle.verifying.specs.Giving.{no_memory}
use Rattle.verifying.specs.Questions.{question_of}
use Rattle.verifying.specs.Steps.Asking.{RefusesAsking}
use Rattle.verifying.proofs.verify_command.read_question.Goals as goal

pub returns-in_err-held-clause-err : goal.returns-in_err-held-clause-err
returns-in_err-held-clause-err c =
    kept_fault c.in_err-held.field-0.0 (RefusesAsking c.args.declarations.now c.args.marks.now (question_of c.args.question.now)) _ c.from_residual.ensures.1 (inl c.in_err-held.ensures.err)

pub returns-in_err-claims-clause-err : goal.returns-in_err-claims-clause-err
returns-in_err-claims-clause-err c =
    kept_fault c.in_err-claims.field-0.0 (RefusesAsking c.args.declarations.now c.args.marks.now (question_of c.args.question.now)) _ c.from_residual-in_err-claims.ensures.1
    (inr (inl (record { held = c.in_ok-held.held.items; by = c.in_ok-held.ensures.ok; refused = c.in_err-claims.ensures.err })))

pub returns-in_err-given-clause-err : goal.returns-in_err-given-clause-err
returns-in_err-given-clause-err c =
    kept_fault c.in_err-given.field-0.0 (RefusesAsking c.args.declarations.now c.args.marks.now (question_of c.args.question.now)) _ c.from_residual-in_err-given.ensures.1
    (inr (inr (inl (record { held = c.in_ok-held.held.items; by = c.in_ok-held.ensures.ok; claims = c.in_ok-claims.claims.items; claimed = c.in_ok-claims.ensures.ok; refused = c.in_err-given.ensures.err }))))

pub returns-in_err-free-clause-err : goal.returns-in_err-free-clause-err
returns-in_err-free-clause-err c =
    kept_fault no_memory (RefusesAsking c.args.declarations.now c.args.marks.now (question_of c.args.question.now)) _ c.from_residual-in_err-free.ensures.1 (inr (inr (inr refl)))

pub returns-clause-ok : goal.returns-clause-ok
returns-clause-ok c =
    let free = rw c.deref.ensures.value at c.in_ok-free.ensures in
    record { by = c.in_ok-held.ensures.ok; claimed = c.in_ok-claims.ensures.ok; givens = c.in_ok-given.ensures.ok; free = free }
