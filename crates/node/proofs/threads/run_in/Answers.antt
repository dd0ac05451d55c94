-- Each thread kept its promise, in the incarnation in which its resource begins, and with what it opens.
use Rattle.std.proofs.Common.{◌∙◌, arith}
use Rattle.std.specs.declared.thread.PromisedHandle.{PromisedHandle}
use Rattle.node.specs.declared.threads.ended.Ended.{Ended}
use Rattle.node.specs.declared.threads.lawful_for.LawfulFor.{LawfulFor}
use Rattle.node.specs.Steps.Working.{opening_promised}
use Rattle.node.proofs.Firsts.{each_kept}
use Rattle.node.proofs.threads.run_in.Goals as goal

pub returns-in-Ok-join_promised-clause-firsts : goal.returns-in-Ok-join_promised-clause-firsts
returns-in-Ok-join_promised-clause-firsts g c =
    let joined = c.in-Ok-join_promised.ensures in
    let len = joined.len in
    each_kept (λ (e : Ended g.row.K.Denot). e.journal.first) (λ (h : PromisedHandle (Ended g.row.K.Denot) LawfulFor). h.promise.first) c.in-Ok.handles.items c.in-Ok-join_promised.ended.items (omega arith)
    (λ i d lt. let kept = (joined.each i d (omega arith)).1 in (kept.handle, kept.handle_is, kept.kept.1))
    ∙ c.in-Ok.ensures.firsts

pub returns-in-Ok-join_promised-clause-openings : goal.returns-in-Ok-join_promised-clause-openings
returns-in-Ok-join_promised-clause-openings g c =
    let joined = c.in-Ok-join_promised.ensures in
    let len = joined.len in
    each_kept (λ (e : Ended g.row.K.Denot). e.journal.opening) opening_promised c.in-Ok.handles.items c.in-Ok-join_promised.ended.items (omega arith)
    (λ i d lt. let kept = (joined.each i d (omega arith)).1 in (kept.handle, kept.handle_is, kept.kept.2))
    ∙ c.in-Ok.ensures.openings
