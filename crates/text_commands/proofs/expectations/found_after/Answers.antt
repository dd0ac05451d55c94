use Rattle.std.proofs.lemmas.Result.{IfOk-weaker}
use Rattle.text_commands.proofs.Expecting.{found_now, found_still}
use Rattle.text_commands.proofs.expectations.found_after.Goals as goal

pub returns-in-Some : goal.returns-in-Some
returns-in-Some c = rw c.in-Some.is (found_still c.args.declarations.now c.args.expected.now c.args.k c.args.state.now.slots c.in-Some.difference)

pub returns-in-None : goal.returns-in-None
returns-in-None c =
    rw c.in-None.is (IfOk-weaker c.difference_at.result _ _ (λ found here. found_now c.args.declarations.now c.args.expected.now c.args.k c.args.state.now.slots found here) c.difference_at.ensures)
