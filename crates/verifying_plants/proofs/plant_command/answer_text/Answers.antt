use Rattle.std.proofs.Common.{◌∙◌, string_bytes, sym, subst}
use Rattle.task_codes.specs.CodeValue.{lists_of}
use Rattle.verifying_plants.specs.Questions.{question_of}
use Rattle.verifying_plants.specs.Steps.Answering.{AreVerdicts, IsTold}
use Rattle.verifying_plants.proofs.Answering.{told_answer}
use Rattle.verifying_plants.proofs.plant_command.answer_text.Goals as goal

pub tell-requires : goal.tell-requires
tell-requires g c =
    let outcome = c.in_ok-outcome.outcome in
    subst (λ cs. AreVerdicts outcome.question cs outcome.verdicts.items) (c.deref.ensures.value ∙ sym c.deref-2.ensures.value)
    (subst (λ q. AreVerdicts q c.deref.result.now outcome.verdicts.items) (sym c.in_ok-outcome.ensures.asked) c.in_ok-outcome.ensures.verdicts)

pub returns-clause-ok : goal.returns-clause-ok
returns-clause-ok g c =
    let outcome = c.in_ok-outcome.outcome in
    let asked = c.in_ok-question.field-0.question in
    let claims = c.in_ok-question.field-0.claims.items in
    let file = c.args.text.now in
    let v = question_of c.args.asked.now in
    told_answer file v asked outcome.question claims outcome.verdicts.items (string_bytes c.in_ok-told.told.0) c.in_ok-told.told.1 c.in_ok-question.ensures.ok c.in_ok-outcome.ensures.asked
    (subst (λ cs. AreVerdicts asked cs outcome.verdicts.items) c.deref.ensures.value c.in_ok-outcome.ensures.verdicts)
    (subst (λ cs. IsTold outcome.question v.most_states (lists_of cs) outcome.verdicts.items (string_bytes c.in_ok-told.told.0)) c.deref-2.ensures.value c.in_ok-told.ensures.text)
    c.in_ok-told.ensures.summary
