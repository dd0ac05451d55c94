-- The entry of the name stands at the place that the book tells.
use Rattle.std.proofs.Common.{◌≡◌, ◌∙◌, suc, ◌+◌, ◌≤◌, cond, ap, sym, arith}
use Rattle.std.proofs.lemmas.Bool.{lt-ltb, le-ltb}
use Rattle.world.proofs.Schedules.Tables.{message_at, message-before}
use Rattle.world.proofs.schedule.deliveries.message_of.Goals as goal

pub returns-in-None : goal.returns-in-None
returns-in-None c =
    sym (message-before c.args.book.now.entries c.args.task c.args.from c.position_of.result c.position_of.ensures c.args.index ∙ ap (message_at c.args.index) c.in-None.is)

pub returns-then-place-index : goal.returns-then-place-index
returns-then-place-index c =
    let next : suc c.in-Some.place ≡ c.in-Some.place + 1 = omega arith in
    sym (message-before c.args.book.now.entries c.args.task c.args.from c.position_of.result c.position_of.ensures c.args.index ∙ ap (message_at c.args.index) c.in-Some.is
    ∙ ap (λ b. cond b (suc c.in-Some.place) 0) (lt-ltb c.in-Some.place c.args.index c.if-place-index.true) ∙ next)

pub returns-else-place-index : goal.returns-else-place-index
returns-else-place-index c =
    let past : c.args.index ≤ c.in-Some.place = omega (arith, c.if-place-index.false) in
    sym (message-before c.args.book.now.entries c.args.task c.args.from c.position_of.result c.position_of.ensures c.args.index ∙ ap (message_at c.args.index) c.in-Some.is
    ∙ ap (λ b. cond b (suc c.in-Some.place) 0) (le-ltb c.in-Some.place c.args.index past))
