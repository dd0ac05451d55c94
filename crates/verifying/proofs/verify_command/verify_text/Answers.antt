use Rattle.std.proofs.Common.{string_bytes}
use Rattle.lists.proofs.Results.{kept_fault}
use Rattle.verifying.specs.Giving.{no_output}
use Rattle.text_commands.specs.Sources.{source_of}
use Rattle.verifying.specs.Questions.{question_of}
use Rattle.verifying.specs.VerifyText.{ExplainsAnswer}
use Rattle.verifying.proofs.Asking.{answering_explained}
use Rattle.verifying.proofs.verify_command.verify_text.Goals as verify_text_goals

pub returns-in_err-text-clause-fault : verify_text_goals.returns-in_err-text-clause-fault
returns-in_err-text-clause-fault g c =
    kept_fault c.in_err-text.field-0.0 (ExplainsAnswer (source_of c.args.source) (question_of c.args.question.now) _ _) _ c.from_residual.ensures.1
    (answering_explained (source_of c.args.source) (question_of c.args.question.now) _ c.in_err-text.field-0.0 c.in_err-text.ensures.err)

pub returns-in_err-write_text-clause-fault : verify_text_goals.returns-in_err-write_text-clause-fault
returns-in_err-write_text-clause-fault g c =
    let less = rw c.as_str.ensures.value at c.in_err-write_text.ensures.prefix in
    kept_fault no_output (ExplainsAnswer (source_of c.args.source) (question_of c.args.question.now) _ _) _ c.from_residual-in_err-write_text.ensures.1
    (record { text = string_bytes c.in_ok-text.text; answer = c.in_ok-text.ensures.ok.answer; sent = less })

pub returns-clause-ok : verify_text_goals.returns-clause-ok
returns-clause-ok g c =
    let whole = rw c.as_str.ensures.value at c.in_ok-write_text.ensures.whole in
    record { text = string_bytes c.in_ok-text.text; answer = c.in_ok-text.ensures.ok.answer; appended = whole; summed = c.in_ok-text.ensures.ok.summed }
