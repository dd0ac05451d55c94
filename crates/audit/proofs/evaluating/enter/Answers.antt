use Rattle.std.proofs.Common.{◌∙◌, ℕ, List, ap, ap₂, sym, subst}
use Rattle.std_blocks.specs.declared.value.Value.{Value}
use Rattle.evaluation.specs.declared.name.Name.{Name}
use Rattle.evaluation.specs.Meaning.{Evaluated}
use Rattle.std.specs.Prelude.{slice_set}
use Rattle.evaluation.specs.Retained.{retained_values}
use Rattle.audit.specs.Lines.{AreLeft}
use Rattle.audit.specs.Steps.Standings.{Grows}
use Rattle.audit.proofs.GoingOn.{noted_going, entered_grows, grown_not}
use Rattle.audit.proofs.Leavings.{left_noted}
use Rattle.audit.proofs.evaluating.enter.Goals as goal

pub returns-in-Ok-clause-stands : goal.returns-in-Ok-clause-stands
returns-in-Ok-clause-stands c =
    let entered = rw (c.in_default.is, c.in_ok-try_clone.ensures, c.frame-3.ensures.value) at c.in_ok-misfit.ensures.entered in
    noted_going c.args.book.now c.enter.new.self c.args.pending c.in-Ok.station entered c.in-Ok.ensures.noted c.requires.pending

pub returns-in-Ok-clause-grows : goal.returns-in-Ok-clause-grows
returns-in-Ok-clause-grows c =
    let entered = rw (c.in_default.is, c.in_ok-try_clone.ensures, c.frame-3.ensures.value) at c.in_ok-misfit.ensures.entered in
    entered_grows c.args.book.now c.enter.new.self c.args.pending entered c.requires.pending

pub returns-in-Some-clause-grows : goal.returns-in-Some-clause-grows
returns-in-Some-clause-grows c =
    let same = rw c.in-Some.is at c.in_ok-misfit.ensures.entered in
    subst (Grows c.args.pending.journal.resource c.args.book.now) (sym same) (grown_not c.args.pending.journal.resource c.args.book.now)

pub returns-in-Ok-clause-left : goal.returns-in-Ok-clause-left
returns-in-Ok-clause-left c =
    let p = c.args.pending in
    let kept = c.args.past.now.left.items in
    let task = ap (λ (n : Name). n.task.task) c.name-task.ensures ∙ ap (λ (x : Evaluated). x.name.task.task) c.frame-2.ensures.value in
    let left = c.in_ok-left.ensures ∙ ap (λ (x : Evaluated). retained_values x.code x.after) (c.evaluation.ensures ∙ c.frame.ensures.value) in
    let same = c.leave.ensures ∙ ap₂ (λ (k : ℕ) (values : List Value). slice_set kept k values) task left in
    subst (AreLeft c.in-Ok.station.journal) (sym same) (left_noted p c.in-Ok.station kept c.in-Ok.ensures.noted c.requires.pending.own c.requires.left)
