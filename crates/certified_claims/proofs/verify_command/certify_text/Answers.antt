use Rattle.std.proofs.Common.{string_bytes}
use Rattle.lists.proofs.Results.{kept_fault}
use Rattle.verifying.specs.Giving.{no_output}
use Rattle.text_commands.specs.Sources.{source_of}
use Rattle.verifying.specs.Questions.{question_of}
use Rattle.certified_claims.specs.CertifiedAnswers.{ExplainsCertified}
use Rattle.certified_claims.proofs.Answering.{explained}
use Rattle.certified_claims.proofs.verify_command.certify_text.Goals as goal

pub returns-in_err-answer-clause-fault : goal.returns-in_err-answer-clause-fault
returns-in_err-answer-clause-fault g c =
    kept_fault c.in_err-answer.field-0.0 (ExplainsCertified (source_of c.args.source) (question_of c.args.question.now) _ _) _ c.from_residual.ensures.1
    (explained (source_of c.args.source) (question_of c.args.question.now) _ c.in_err-answer.field-0.0 c.in_err-answer.ensures.err)

pub returns-in_err-write_text-clause-fault : goal.returns-in_err-write_text-clause-fault
returns-in_err-write_text-clause-fault g c =
    let less = rw c.as_str.ensures.value at c.in_err-write_text.ensures.prefix in
    let answer = c.in_ok-answer.answer in
    kept_fault no_output (ExplainsCertified (source_of c.args.source) (question_of c.args.question.now) _ _) _ c.from_residual-in_err-write_text.ensures.1
    (record { text = string_bytes answer.text; certificates = string_bytes answer.certificates; summary = answer.summary; answer = c.in_ok-answer.ensures.ok; sent = less })

pub returns-clause-ok : goal.returns-clause-ok
returns-clause-ok g c =
    let whole = rw c.as_str.ensures.value at c.in_ok-write_text.ensures.whole in
    record { text = string_bytes c.in_ok-answer.answer.text; answer = c.in_ok-answer.ensures.ok; appended = whole }
