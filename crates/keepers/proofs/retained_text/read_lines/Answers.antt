-- One more line, or a text that goes on otherwise.
use Rattle.std.proofs.Common.{arith, rules}
use Rattle.keepers.proofs.ReadTexts.{read_none, read_more_at, read_departs_at}
use Rattle.keepers.proofs.retained_text.read_lines.Goals as goal

pub loop-k-init : goal.loop-k-init
loop-k-init c = search (rules, read_none)

pub loop-k-preserved : goal.loop-k-preserved
loop-k-preserved c =
    read_more_at c.args.code.now c.args.text.now c.args.variables.now c.loop-k.k c.loop-k.values.items c.push.new.self.items c.loop-k.rest.now c.in-Some.value c.in-Some.behind.now
    c.requires (omega arith) c.loop-k.invariant (rw c.in-Some.is at c.in_ok-value.ensures) c.in-Ok.ensures.items

pub returns-in_default-clause-fault : goal.returns-in_default-clause-fault
returns-in_default-clause-fault c = search (rules, read_departs_at)
