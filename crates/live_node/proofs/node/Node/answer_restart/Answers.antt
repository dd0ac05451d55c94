-- A restart that isn't done: nothing was noted, and the keeper had a fault.
use Rattle.std.proofs.Common.{rules, ◌<◌, ◌∙◌, inl, refl, subst}
use Rattle.std.specs.Prelude.{string_bytes}
use Rattle.live_node.specs.NodeAnswers.{keeper_gives}
use Rattle.live_node.proofs.Stopping.{none_unrisen, restart_unrisen, unraised_unrisen}
use Rattle.live_node.proofs.Telling.{refused_raise, on_ok}
use Rattle.live_node.proofs.Outliving.{keeps_alike, restart_keeps, alike_same}
use Rattle.live_node.specs.Steps.Growing.{grows_refl}
use Rattle.live_node.proofs.Syncing.{raised_first}
use Rattle.live_node.proofs.node.Node.answer_restart.Goals as goal

pub returns-in_err-push_refused-clause-stopped : goal.returns-in_err-push_refused-clause-stopped
returns-in_err-push_refused-clause-stopped g c =
    none_unrisen c.from_residual.result (keeper_gives g.K.Keeper.raise_gives c.args.self.now.keeper) c.args.self.now.state c.args.resource (g.N.Notes.noted c.args.self.now.notes) c.from_residual.ensures.1

pub returns-in-Ok-clause-stopped : goal.returns-in-Ok-clause-stopped
returns-in-Ok-clause-stopped g c =
    restart_unrisen c.rise.result (keeper_gives g.K.Keeper.raise_gives c.args.self.now.keeper) c.args.self.now.state c.args.resource c.in-Ok.incarnation (g.N.Notes.noted c.args.self.now.notes) _
    (search rules) c.in-Ok.ensures.given (subst (λ k. k < c.in-Ok.incarnation) c.requires.kept c.in-Ok.ensures.raised.0) c.rise.ensures.stopped c.rise.ensures.part

pub returns-in-Err : goal.returns-in-Err
returns-in-Err g c =
    let s = c.args.self.now.state in
    let noted = g.N.Notes.noted c.args.self.now.notes in
    let last = g.K.Keeper.last c.args.self.now.keeper in
    let raising = keeper_gives g.K.Keeper.raise_gives c.args.self.now.keeper in
    record {
      answered = refused_raise c.refuse_unraised.result raising s c.args.line.now c.args.resource last c.in-Err.fault noted (string_bytes c.args.out.now) (string_bytes c.refuse_unraised.new.out) (search rules) c.requires.kept c.in-Err.ensures.given c.refuse_unraised.ensures.refused;
      stopped = unraised_unrisen c.refuse_unraised.result raising s c.args.resource noted c.refuse_unraised.ensures.stopped;
      stays = grows_refl (g.N.Notes.synced c.args.self.now.notes);
      idle = on_ok c.refuse_unraised.result (inl refl);
      first = raised_first g.K.Keeper.kept_gives c.args.self.now.keeper c.raise.new.self c.raise.new.self noted (g.N.Notes.synced c.args.self.now.notes) c.in-Err.ensures.stays refl;
      kept = on_ok c.refuse_unraised.result (c.in-Err.ensures.raised ∙ c.requires.kept);
      keeps = keeps_alike (g.K.Keeper.kept_gives c.args.self.now.keeper) (g.K.Keeper.kept_gives c.raise.new.self) s.core s.core c.in-Err.ensures.keeps (alike_same s.core);
    }

pub returns-in-Ok-clause-keeps : goal.returns-in-Ok-clause-keeps
returns-in-Ok-clause-keeps g c =
    restart_keeps g.K.Keeper.kept_gives c.args.self.now.keeper c.raise.new.self c.rise.new.self.keeper c.args.self.now.state.core c.rise.new.self.state.core c.rise.ensures.keeper c.in-Ok.ensures.keeps c.rise.ensures.left

pub returns-in-Ok-clause-first : goal.returns-in-Ok-clause-first
returns-in-Ok-clause-first g c =
    raised_first g.K.Keeper.kept_gives c.args.self.now.keeper c.raise.new.self c.rise.new.self.keeper (g.N.Notes.noted c.rise.new.self.notes) (g.N.Notes.synced c.rise.new.self.notes) c.in-Ok.ensures.stays c.rise.ensures.keeper
