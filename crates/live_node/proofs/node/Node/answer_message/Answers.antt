-- Nothing was noted.
use Rattle.std.proofs.Common.{inl, refl}
use Rattle.live_node.specs.declared.node_line.NodeLine.TheVariants.{Take}
use Rattle.live_node.proofs.Stopping.{none_undone}
use Rattle.live_node.proofs.node.Node.answer_message.Goals as goal

pub returns-in_err-push_refused-clause-stopped : goal.returns-in_err-push_refused-clause-stopped
returns-in_err-push_refused-clause-stopped g c =
    none_undone c.from_residual.result c.args.self.now.state (Take c.args.message) c.args.line.now (g.N.Notes.noted c.args.self.now.notes) c.from_residual.ensures.1

pub returns-in_ok-pass_over-in_default-clause-idle : goal.returns-in_ok-pass_over-in_default-clause-idle
returns-in_ok-pass_over-in_default-clause-idle g c = inl refl
