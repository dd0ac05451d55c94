-- What was noted is the whole note of the line.
use Rattle.live_node.specs.NodeValue.{NodeValue}
use Rattle.std.specs.Prelude.{string_bytes}
use Rattle.std.proofs.Common.{rules, ◌≡◌, ◌+◌, inr, subst}
use Rattle.live_node.specs.declared.node_line.NodeLine.TheVariants.{Take}
use Rattle.live_node.specs.declared.node_stop.NodeStop.TheVariants.{Memory}
use Rattle.live_node.specs.NodeAnswers.{keeper_gives}
use Rattle.live_node.specs.Steps.Sent.{all_sent}
use Rattle.live_node.proofs.Stopping.{part_undone}
use Rattle.live_node.proofs.Telling.{taken_message}
use Rattle.live_node.proofs.node.Node.take_message.Goals as goal

pub returns-in_err-note_line-clause-stopped : goal.returns-in_err-note_line-clause-stopped
returns-in_err-note_line-clause-stopped g c =
    part_undone c.in_err-note_line.field-0.0 c.from_residual.result c.args.self.now.state (Take c.args.message) c.args.line.now _ _ c.from_residual.ensures.1 c.in_err-note_line.ensures.stopped (c.requires.taken, c.requires.low) c.in_err-note_line.ensures.part

pub returns-in_err-push_message_answer-clause-stopped : goal.returns-in_err-push_message_answer-clause-stopped
returns-in_err-push_message_answer-clause-stopped g c =
    part_undone Memory c.from_residual-in_err-push_message_answer.result c.args.self.now.state (Take c.args.message) c.args.line.now _ _ c.from_residual-in_err-push_message_answer.ensures.1 tt (c.requires.taken, c.requires.low) (all_sent _ _ _ c.in_ok-note_line.ensures.noted)

pub returns-clause-answered : goal.returns-clause-answered
returns-clause-answered g c =
    taken_message (keeper_gives g.K.Keeper.raise_gives c.args.self.now.keeper) c.args.self.now.state c.note_line.new.self.state c.accept-answer.new.self c.args.line.now c.args.message c.accept-answer.result
    (g.N.Notes.noted c.args.self.now.notes) (g.N.Notes.noted c.note_line.new.self.notes) (string_bytes c.args.out.now) (string_bytes c.push_message_answer.new.out)
    c.requires.low c.requires.taken c.in_ok-note_line.ensures.state c.accept-answer.ensures c.in_ok-note_line.ensures.noted (search rules)

pub returns-clause-idle : goal.returns-clause-idle
returns-clause-idle g c = inr (subst (λ (s : NodeValue). c.accept-answer.new.self.lines ≡ s.lines + 1) c.in_ok-note_line.ensures.state c.accept-answer.ensures.counted.lines_are)
