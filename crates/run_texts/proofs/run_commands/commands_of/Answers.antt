-- The next command has the next ticket.
use Rattle.run_texts.proofs.Commanding.{command_added}
use Rattle.run_texts.proofs.run_commands.commands_of.Goals as goal

pub loop-i-preserved : goal.loop-i-preserved
loop-i-preserved c = command_added c.args.plant.now c.args.inputs.now c.args.dues.now c.loop-i.i _ c.loop-i.commands.items c.push.new.self.items c.in_ok-command_for.field-0 c.loop-i-test.true c.loop-i.invariant c.in_ok-command_for.ensures c.in_ok-push.ensures.items
