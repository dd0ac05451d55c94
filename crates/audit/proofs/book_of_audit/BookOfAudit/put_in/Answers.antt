use Rattle.std.proofs.Common.{List, ℕ, arith, ap}
use Rattle.audit.proofs.Risen.{risen_more}
use Rattle.audit.proofs.book_of_audit.BookOfAudit.put_in.Goals as goal

pub returns-in_ok-push : goal.returns-in_ok-push
returns-in_ok-push c =
    rw (← c.self.view_is)
    (ap (λ (ls : List (List ℕ)). record { plant = c.self.inside.plant.value; book = c.self.inside.book; present = c.self.inside.present.items; risen = ls; skips = c.self.inside.skipped.items })
    (risen_more c.self.inside.risen.items c.args.resource c.args.incarnation c.index_mut.result.now c.push.new.self (omega (arith, c.if-resource-len.true, c.len.ensures, c.self.inside.risen.ok.0)) c.index_mut.ensures.value c.in_ok-push.ensures.items))
