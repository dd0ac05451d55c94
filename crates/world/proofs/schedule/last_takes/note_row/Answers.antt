-- The row stands in the place of its producer's, or behind all others where that had none.
use Rattle.std.proofs.Common.{◌≡◌, ◌∙◌, ◌++◌, ◌∷◌, [], cond, true, ap, sym, subst, arith, ◌<◌, length}
use Rattle.evaluation.specs.Last.{same_task}
use Rattle.world.specs.declared.schedule.last_takes.LastTake.{LastTake}
use Rattle.world.specs.Steps.Tables.{told_by, told_in}
use Rattle.world.proofs.Schedules.Tables.{told-set, told-push}
use Rattle.world.proofs.schedule.last_takes.note_row.Goals as goal

pub returns-then-eq : goal.returns-then-eq
returns-then-eq c = λ q.
    told-set c.loop-i.rows.items c.loop-i.i c.index.result.now c.args.row (omega (arith, c.loop-i-test.true, c.len-i-end.ensures, ap length c.loop-i.invariant.0))
    (subst (λ (r : LastTake). same_task r.producer c.args.row.producer ≡ true) c.index.ensures (sym c.if-eq.ensures))
    (λ k under. c.loop-i.invariant.1 k c.index.result.now under) q
    ∙ ap (λ rs. cond (same_task c.args.row.producer q) (told_by c.args.row) (told_in rs q)) c.loop-i.invariant.0

pub returns : goal.returns
returns c = λ q.
    ap (λ rs. told_in rs q) (c.in_ok-push.ensures.items)
    ∙ told-push c.loop-i.rows.items c.args.row (λ k d under. c.loop-i.invariant.1 k d (omega (arith, under, c.loop-i-test.false, c.len-i-end.ensures, ap length c.loop-i.invariant.0))) q
    ∙ ap (λ rs. cond (same_task c.args.row.producer q) (told_by c.args.row) (told_in rs q)) c.loop-i.invariant.0
