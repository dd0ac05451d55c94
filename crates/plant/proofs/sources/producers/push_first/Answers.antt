use Rattle.std.proofs.Common.{◌≡◌, ◌∙◌, sym, true, false}
use Rattle.plant.proofs.FirstMentions.{has, firsts_new, firsts_old}
use Rattle.plant.proofs.sources.producers.push_first.Goals as goal

pub returns-then-contains : goal.returns-then-contains
returns-then-contains c = λ ts e.
    let there : has c.args.task c.args.producers.now.items ≡ true = rw c.deref.ensures.value at (sym c.contains.ensures.value ∙ c.if-contains.true) in
    firsts_old ts c.args.task c.args.producers.now.items e there

pub returns : goal.returns
returns c = λ ts e.
    let absent : has c.args.task c.args.producers.now.items ≡ false = rw c.deref.ensures.value at (sym c.contains.ensures.value ∙ c.if-contains.false) in
    firsts_new ts c.args.task c.args.producers.now.items c.push.new.self.items e absent c.in_ok-push.ensures.items
