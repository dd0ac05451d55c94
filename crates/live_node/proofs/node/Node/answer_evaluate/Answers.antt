-- What was noted is the whole note of the line; or it is refused.
use Rattle.std.specs.Prelude.{string_bytes}
use Rattle.std.proofs.Common.{rules, ◌≡◌, ◌+◌, inr, refl, subst}
use Rattle.live_node.specs.declared.node_stop.NodeStop.TheVariants.{Memory}
use Rattle.text_lines.proofs.Sending.{on_err}
use Rattle.live_node.specs.NodeAnswers.{keeper_gives}
use Rattle.live_node.specs.NodeSteps.{HasMade}
use Rattle.live_node.specs.NodeValue.{NodeValue}
use Rattle.live_node.proofs.Telling.{evaluated_answer}
use Rattle.live_node.specs.Steps.Sent.{all_sent}
use Rattle.live_node.proofs.Stopping.{none_unevaluated, noted_then, part_unevaluated, unkept}
use Rattle.live_node.specs.Steps.Growing.{grows_trans}
use Rattle.live_node.proofs.Syncing.{asked_first, same_first}
use Rattle.live_node.proofs.Outliving.{all_but_one, unchanged_rest, evaluated_keeps, evaluated_rest, made_rest}
use Rattle.live_node.proofs.node.Node.answer_evaluate.Goals as goal

pub returns-in_err-push_refused-clause-stopped : goal.returns-in_err-push_refused-clause-stopped
returns-in_err-push_refused-clause-stopped g c =
    none_unevaluated c.from_residual.result c.args.self.now.state.core c.args.task c.args.line.now (g.N.Notes.noted c.args.self.now.notes) c.from_residual.ensures.1

pub returns-in_err-note_line-clause-stopped : goal.returns-in_err-note_line-clause-stopped
returns-in_err-note_line-clause-stopped g c =
    part_unevaluated c.in_err-note_line.field-0.0 c.from_residual-in_err-note_line.result c.args.self.now.state.core c.args.task c.args.line.now _ _ c.from_residual-in_err-note_line.ensures.1 c.in_err-note_line.ensures.stopped (search rules) c.in_err-note_line.ensures.part

pub returns-in_default-evaluate-clause-stopped : goal.returns-in_default-evaluate-clause-stopped
returns-in_default-evaluate-clause-stopped g c = inr (search rules, all_sent _ _ _ c.in_ok-note_line.ensures.noted)

pub returns-in_err-keep_after-clause-stopped : goal.returns-in_err-keep_after-clause-stopped
returns-in_err-keep_after-clause-stopped g c =
    unkept c.in_err-keep_after.field-0.0 c.from_residual-in_err-keep_after.result c.args.self.now.state.core c.args.task c.args.line.now _ _ c.from_residual-in_err-keep_after.ensures.1 c.in_err-keep_after.ensures.fault (search rules) (noted_then g.N.Notes.noted c.args.self.now.notes c.note_line.new.self.notes c.keep_after.new.notes c.args.line.now c.keep_after.ensures.noted c.in_ok-note_line.ensures.noted)

pub returns-in_err-push_message_sends-clause-stopped : goal.returns-in_err-push_message_sends-clause-stopped
returns-in_err-push_message_sends-clause-stopped g c =
    part_unevaluated Memory c.from_residual-in_err-push_message_sends.result c.args.self.now.state.core c.args.task c.args.line.now _ _ c.from_residual-in_err-push_message_sends.ensures.1 tt (search rules) (all_sent _ _ _ (noted_then g.N.Notes.noted c.args.self.now.notes c.note_line.new.self.notes c.keep_after.new.notes c.args.line.now c.keep_after.ensures.noted c.in_ok-note_line.ensures.noted))

pub returns-in_err-push_evaluation-clause-stopped : goal.returns-in_err-push_evaluation-clause-stopped
returns-in_err-push_evaluation-clause-stopped g c =
    part_unevaluated Memory c.from_residual-in_err-push_evaluation.result c.args.self.now.state.core c.args.task c.args.line.now _ _ c.from_residual-in_err-push_evaluation.ensures.1 tt (search rules) (all_sent _ _ _ (noted_then g.N.Notes.noted c.args.self.now.notes c.note_line.new.self.notes c.keep_after.new.notes c.args.line.now c.keep_after.ensures.noted c.in_ok-note_line.ensures.noted))

pub returns-clause-keeps : goal.returns-clause-keeps
returns-clause-keeps g c =
    evaluated_keeps g.K.Keeper.kept_gives c.args.self.now.keeper c.note_line.new.self.keeper c.keep_after.new.keeper c.args.self.now.state c.note_line.new.self.state c.evaluate.new.self.core c.in-Ok.frame c.evaluation.result.now
    c.in_ok-note_line.ensures.keeper c.in_ok-note_line.ensures.state c.evaluation.ensures c.in-Ok.ensures.left c.in_ok-keep_after.ensures.others c.in_ok-keep_after.ensures.kept

pub returns-in_err-push_refused-clause-rest : goal.returns-in_err-push_refused-clause-rest
returns-in_err-push_refused-clause-rest g c = on_err _ (all_but_one (g.K.Keeper.kept_gives c.args.self.now.keeper) c.args.self.now.state.core)

pub returns-in_err-note_line-clause-rest : goal.returns-in_err-note_line-clause-rest
returns-in_err-note_line-clause-rest g c =
    on_err _ (unchanged_rest g.K.Keeper.kept_gives c.args.self.now.keeper c.note_line.new.self.keeper c.args.self.now.state c.note_line.new.self.state c.in_err-note_line.ensures.keeper c.in_err-note_line.ensures.state)

pub returns-in_default-evaluate-clause-rest : goal.returns-in_default-evaluate-clause-rest
returns-in_default-evaluate-clause-rest g c =
    unchanged_rest g.K.Keeper.kept_gives c.args.self.now.keeper c.note_line.new.self.keeper c.args.self.now.state c.evaluate.new.self c.in_ok-note_line.ensures.keeper (search rules)

pub returns-in_err-keep_after-clause-rest : goal.returns-in_err-keep_after-clause-rest
returns-in_err-keep_after-clause-rest g c =
    on_err _ (evaluated_rest g.K.Keeper.kept_gives c.args.self.now.keeper c.note_line.new.self.keeper c.keep_after.new.keeper c.args.self.now.state c.note_line.new.self.state c.evaluate.new.self.core c.in-Ok.frame c.evaluation.result.now
    c.in_ok-note_line.ensures.keeper c.in_ok-note_line.ensures.state c.evaluation.ensures c.in-Ok.ensures.left c.in_err-keep_after.ensures.others c.in_err-keep_after.ensures.either)

pub returns-in_err-push_message_sends-clause-rest : goal.returns-in_err-push_message_sends-clause-rest
returns-in_err-push_message_sends-clause-rest g c =
    on_err _ (made_rest g.K.Keeper.kept_gives c.args.self.now.keeper c.note_line.new.self.keeper c.keep_after.new.keeper c.args.self.now.state c.note_line.new.self.state c.evaluate.new.self.core c.in-Ok.frame c.evaluation.result.now
    c.in_ok-note_line.ensures.keeper c.in_ok-note_line.ensures.state c.evaluation.ensures c.in-Ok.ensures.left c.in_ok-keep_after.ensures.others c.in_ok-keep_after.ensures.kept)

pub returns-in_err-push_evaluation-clause-rest : goal.returns-in_err-push_evaluation-clause-rest
returns-in_err-push_evaluation-clause-rest g c =
    on_err _ (made_rest g.K.Keeper.kept_gives c.args.self.now.keeper c.note_line.new.self.keeper c.keep_after.new.keeper c.args.self.now.state c.note_line.new.self.state c.evaluate.new.self.core c.in-Ok.frame c.evaluation.result.now
    c.in_ok-note_line.ensures.keeper c.in_ok-note_line.ensures.state c.evaluation.ensures c.in-Ok.ensures.left c.in_ok-keep_after.ensures.others c.in_ok-keep_after.ensures.kept)

pub returns-clause-answered : goal.returns-clause-answered
returns-clause-answered g c =
    let made = subst (λ (s : NodeValue). HasMade s c.evaluate.new.self c.args.task.task c.args.dt c.args.inputs.now c.in-Ok.frame) c.in_ok-note_line.ensures.state c.in-Ok.ensures.made in
    evaluated_answer (keeper_gives g.K.Keeper.raise_gives c.args.self.now.keeper) c.args.self.now.state c.evaluate.new.self c.args.line.now c.args.task c.args.dt c.args.inputs.now c.in-Ok.frame
    (g.N.Notes.noted c.args.self.now.notes) (g.N.Notes.noted c.keep_after.new.notes) (string_bytes c.args.out.now) (string_bytes c.push_message_sends.new.out) (string_bytes c.push_evaluation.new.line)
    (search rules) made (noted_then g.N.Notes.noted c.args.self.now.notes c.note_line.new.self.notes c.keep_after.new.notes c.args.line.now c.keep_after.ensures.noted c.in_ok-note_line.ensures.noted) (search rules) (search rules)

pub returns-in_err-push_refused-clause-first : goal.returns-in_err-push_refused-clause-first
returns-in_err-push_refused-clause-first g c =
    same_first g.K.Keeper.kept_gives c.args.self.now.keeper c.args.self.now.keeper (g.N.Notes.noted c.args.self.now.notes) (g.N.Notes.synced c.args.self.now.notes) refl

pub returns-in_err-note_line-clause-first : goal.returns-in_err-note_line-clause-first
returns-in_err-note_line-clause-first g c =
    same_first g.K.Keeper.kept_gives c.args.self.now.keeper c.note_line.new.self.keeper (g.N.Notes.noted c.note_line.new.self.notes) (g.N.Notes.synced c.note_line.new.self.notes) c.in_err-note_line.ensures.keeper

pub returns-in_err-keep_after-clause-first : goal.returns-in_err-keep_after-clause-first
returns-in_err-keep_after-clause-first g c =
    asked_first g.K.Keeper.kept_gives c.args.self.now.keeper c.note_line.new.self.keeper c.keep_after.new.keeper (g.N.Notes.noted c.keep_after.new.notes) (g.N.Notes.synced c.keep_after.new.notes) c.in_ok-note_line.ensures.keeper c.keep_after.ensures.first

pub returns-in_err-push_message_sends-clause-first : goal.returns-in_err-push_message_sends-clause-first
returns-in_err-push_message_sends-clause-first g c =
    asked_first g.K.Keeper.kept_gives c.args.self.now.keeper c.note_line.new.self.keeper c.keep_after.new.keeper (g.N.Notes.noted c.keep_after.new.notes) (g.N.Notes.synced c.keep_after.new.notes) c.in_ok-note_line.ensures.keeper c.keep_after.ensures.first

pub returns-in_err-push_evaluation-clause-first : goal.returns-in_err-push_evaluation-clause-first
returns-in_err-push_evaluation-clause-first g c =
    asked_first g.K.Keeper.kept_gives c.args.self.now.keeper c.note_line.new.self.keeper c.keep_after.new.keeper (g.N.Notes.noted c.keep_after.new.notes) (g.N.Notes.synced c.keep_after.new.notes) c.in_ok-note_line.ensures.keeper c.keep_after.ensures.first

pub returns-in_err-keep_after-clause-stays : goal.returns-in_err-keep_after-clause-stays
returns-in_err-keep_after-clause-stays g c =
    grows_trans (g.N.Notes.synced c.args.self.now.notes) (g.N.Notes.synced c.note_line.new.self.notes) (g.N.Notes.synced c.keep_after.new.notes) c.in_ok-note_line.ensures.stays c.in_err-keep_after.ensures.stays

pub returns-in_err-push_message_sends-clause-stays : goal.returns-in_err-push_message_sends-clause-stays
returns-in_err-push_message_sends-clause-stays g c =
    grows_trans (g.N.Notes.synced c.args.self.now.notes) (g.N.Notes.synced c.note_line.new.self.notes) (g.N.Notes.synced c.keep_after.new.notes) c.in_ok-note_line.ensures.stays c.in_ok-keep_after.ensures.stays

pub returns-in_err-push_evaluation-clause-stays : goal.returns-in_err-push_evaluation-clause-stays
returns-in_err-push_evaluation-clause-stays g c =
    grows_trans (g.N.Notes.synced c.args.self.now.notes) (g.N.Notes.synced c.note_line.new.self.notes) (g.N.Notes.synced c.keep_after.new.notes) c.in_ok-note_line.ensures.stays c.in_ok-keep_after.ensures.stays

pub returns-clause-stays : goal.returns-clause-stays
returns-clause-stays g c =
    grows_trans (g.N.Notes.synced c.args.self.now.notes) (g.N.Notes.synced c.note_line.new.self.notes) (g.N.Notes.synced c.keep_after.new.notes) c.in_ok-note_line.ensures.stays c.in_ok-keep_after.ensures.stays

pub returns-clause-first : goal.returns-clause-first
returns-clause-first g c =
    asked_first g.K.Keeper.kept_gives c.args.self.now.keeper c.note_line.new.self.keeper c.keep_after.new.keeper (g.N.Notes.noted c.keep_after.new.notes) (g.N.Notes.synced c.keep_after.new.notes) c.in_ok-note_line.ensures.keeper c.keep_after.ensures.first

pub returns-in_default-evaluate-clause-first : goal.returns-in_default-evaluate-clause-first
returns-in_default-evaluate-clause-first g c =
    same_first g.K.Keeper.kept_gives c.args.self.now.keeper c.note_line.new.self.keeper (g.N.Notes.noted c.note_line.new.self.notes) (g.N.Notes.synced c.note_line.new.self.notes) c.in_ok-note_line.ensures.keeper

pub returns-clause-idle : goal.returns-clause-idle
returns-clause-idle g c = inr (subst (λ (s : NodeValue). c.evaluate.new.self.lines ≡ s.lines + 1) c.in_ok-note_line.ensures.state c.in-Ok.ensures.made.counted.lines_are)
