use Rattle.clauses.proofs.Agreeing.{agreed_unknown}
use Rattle.clauses.proofs.Follows.{never_false, true_unless}
use Rattle.clauses.proofs.refuting.is_followed.Goals as goal

pub returns-then-is_any_true : goal.returns-then-is_any_true
returns-then-is_any_true c = λ _ v trues.
    let unknown = c.forget.ensures c.if-not-forget.false in
    true_unless v c.args.step.now.clause.items
    (λ falses. never_false v c.note_false.new.known c.args.step.now.clause.items
    (rw c.as_slice-2.ensures.value at (c.is_any_true.ensures c.if-is_any_true.true))
    (c.note_false.ensures v (agreed_unknown v c.forget.new.self unknown) (rw c.as_slice.ensures.value falses)) falses)

pub returns : goal.returns
returns c = λ found v trues.
    let unknown = c.forget.ensures c.if-not-forget.false in
    true_unless v c.args.step.now.clause.items
    (λ falses. c.leads_to_conflict.ensures found v trues
    (c.note_false.ensures v (agreed_unknown v c.forget.new.self unknown) (rw c.as_slice.ensures.value falses)))
