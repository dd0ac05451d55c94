-- What was noted is the whole note of the line.
use Rattle.live_node.specs.NodeValue.{NodeValue}
use Rattle.std.specs.Prelude.{string_bytes}
use Rattle.std.proofs.Common.{rules, ◌≡◌, ◌+◌, inr, subst}
use Rattle.live_node.specs.declared.node_line.NodeLine.TheVariants.{Hello}
use Rattle.live_node.specs.declared.node_stop.NodeStop.TheVariants.{Memory}
use Rattle.live_node.specs.NodeAnswers.{keeper_gives}
use Rattle.live_node.specs.Steps.Sent.{all_sent}
use Rattle.live_node.proofs.Stopping.{part_undone}
use Rattle.live_node.proofs.Outliving.{hello_keeps}
use Rattle.live_node.proofs.Telling.{heard_hello}
use Rattle.live_node.proofs.node.Node.hear_news.Goals as goal

pub returns-in_err-note_line-clause-stopped : goal.returns-in_err-note_line-clause-stopped
returns-in_err-note_line-clause-stopped g c =
    part_undone c.in_err-note_line.field-0.0 c.from_residual.result c.args.self.now.state (Hello c.args.of c.args.incarnation) c.args.line.now _ _ c.from_residual.ensures.1 c.in_err-note_line.ensures.stopped (c.requires.unrefused, c.requires.news) c.in_err-note_line.ensures.part

pub returns-in_err-push_own_hello_if-clause-stopped : goal.returns-in_err-push_own_hello_if-clause-stopped
returns-in_err-push_own_hello_if-clause-stopped g c =
    part_undone Memory c.from_residual-in_err-push_own_hello_if.result c.args.self.now.state (Hello c.args.of c.args.incarnation) c.args.line.now _ _ c.from_residual-in_err-push_own_hello_if.ensures.1 tt (c.requires.unrefused, c.requires.news) (all_sent _ _ _ c.in_ok-note_line.ensures.noted)

pub returns-in_err-push_hello_answer-clause-stopped : goal.returns-in_err-push_hello_answer-clause-stopped
returns-in_err-push_hello_answer-clause-stopped g c =
    part_undone Memory c.from_residual-in_err-push_hello_answer.result c.args.self.now.state (Hello c.args.of c.args.incarnation) c.args.line.now _ _ c.from_residual-in_err-push_hello_answer.ensures.1 tt (c.requires.unrefused, c.requires.news) (all_sent _ _ _ c.in_ok-note_line.ensures.noted)

pub returns-in_err-push_own_hello_if-clause-keeps : goal.returns-in_err-push_own_hello_if-clause-keeps
returns-in_err-push_own_hello_if-clause-keeps g c =
    hello_keeps g.K.Keeper.kept_gives c.args.self.now.keeper c.note_line.new.self.keeper c.args.self.now.state c.note_line.new.self.state c.hear-newer.new.self c.args.of c.args.incarnation c.hear-newer.result
    c.in_ok-note_line.ensures.keeper c.in_ok-note_line.ensures.state c.hear-newer.ensures

pub returns-in_err-push_hello_answer-clause-keeps : goal.returns-in_err-push_hello_answer-clause-keeps
returns-in_err-push_hello_answer-clause-keeps g c =
    hello_keeps g.K.Keeper.kept_gives c.args.self.now.keeper c.note_line.new.self.keeper c.args.self.now.state c.note_line.new.self.state c.hear-newer.new.self c.args.of c.args.incarnation c.hear-newer.result
    c.in_ok-note_line.ensures.keeper c.in_ok-note_line.ensures.state c.hear-newer.ensures

pub returns-clause-keeps : goal.returns-clause-keeps
returns-clause-keeps g c =
    hello_keeps g.K.Keeper.kept_gives c.args.self.now.keeper c.note_line.new.self.keeper c.args.self.now.state c.note_line.new.self.state c.hear-newer.new.self c.args.of c.args.incarnation c.hear-newer.result
    c.in_ok-note_line.ensures.keeper c.in_ok-note_line.ensures.state c.hear-newer.ensures

pub returns-clause-answered : goal.returns-clause-answered
returns-clause-answered g c =
    heard_hello (keeper_gives g.K.Keeper.raise_gives c.args.self.now.keeper) c.args.self.now.state c.note_line.new.self.state c.hear-newer.new.self c.args.line.now c.args.of c.args.incarnation c.hear-newer.result
    (g.N.Notes.noted c.args.self.now.notes) (g.N.Notes.noted c.note_line.new.self.notes) (string_bytes c.args.out.now) (string_bytes c.push_own_hello_if.new.out) (string_bytes c.push_hello_answer.new.out)
    c.requires.unrefused c.requires.news c.in_ok-note_line.ensures.state c.hear-newer.ensures c.in_ok-note_line.ensures.noted (search rules) (search rules)

pub returns-clause-idle : goal.returns-clause-idle
returns-clause-idle g c = inr (subst (λ (s : NodeValue). c.hear-newer.new.self.lines ≡ s.lines + 1) c.in_ok-note_line.ensures.state c.hear-newer.ensures.counted.lines_are)
