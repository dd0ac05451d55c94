-- A line was done, and its answer waits; or there is no memory for it.
use Rattle.std.specs.Prelude.{string_bytes}
use Rattle.std.proofs.Common.{◌≡◌, ◌++◌, subst}
use Rattle.lists.proofs.Results.{kept_fault}
use Rattle.text_lines.proofs.Sending.{on_err}
use Rattle.live_node.specs.Keeping.{KeepsAllButOne, KeepsCore}
use Rattle.live_node.specs.NodeAnswers.{keeper_gives}
use Rattle.live_node.specs.declared.node_stop.NodeStop.TheVariants.{Memory}
use Rattle.live_node.specs.Stops.{NotesUnanswered}
use Rattle.live_node.specs.Steps.Unanswered.{unheld}
use Rattle.live_node.proofs.Noted.{held_answer}
use Rattle.live_node.proofs.Outliving.{all_but_one}
use Rattle.live_node.proofs.answering.do_line.Goals as goal

pub returns-clause-answered : goal.returns-clause-answered
returns-clause-answered g c =
    let held = subst (λ t. string_bytes c.hold.new.waiting ≡ string_bytes c.args.waiting.now ++ t) c.as_str.ensures.value c.in_ok-hold.ensures.held in
    held_answer (keeper_gives g.K.Keeper.raise_gives c.args.node.now.keeper) c.args.node.now.state c.do_line.new.self.state c.args.line.now (g.N.Notes.noted c.args.node.now.notes) (g.N.Notes.noted c.do_line.new.self.notes)
    (string_bytes c.clear.new.self) (string_bytes c.do_line.new.out) (string_bytes c.args.waiting.now) (string_bytes c.hold.new.waiting) c.in_ok-do_line.ensures.answered c.clear.ensures.bytes held

pub returns-in_err-do_line-clause-stopped : goal.returns-in_err-do_line-clause-stopped
returns-in_err-do_line-clause-stopped g c =
    let raising = keeper_gives g.K.Keeper.raise_gives c.args.node.now.keeper in
    kept_fault c.in_err-do_line.field-0.0 (λ why. NotesUnanswered raising c.args.node.now.state c.args.line.now why (g.N.Notes.noted c.args.node.now.notes) (g.N.Notes.noted c.do_line.new.self.notes)) c.from_residual.result c.from_residual.ensures.1 c.in_err-do_line.ensures.stopped

pub returns-in_err-hold-clause-stopped : goal.returns-in_err-hold-clause-stopped
returns-in_err-hold-clause-stopped g c =
    let raising = keeper_gives g.K.Keeper.raise_gives c.args.node.now.keeper in
    let noted_old = g.N.Notes.noted c.args.node.now.notes in
    let noted_new = g.N.Notes.noted c.do_line.new.self.notes in
    kept_fault Memory (λ why. NotesUnanswered raising c.args.node.now.state c.args.line.now why noted_old noted_new) c.from_residual-in_err-hold.result c.from_residual-in_err-hold.ensures.1
    (unheld raising c.args.node.now.state c.do_line.new.self.state c.args.line.now noted_old noted_new (string_bytes c.clear.new.self) (string_bytes c.do_line.new.out) c.in_ok-do_line.ensures.answered)

pub returns-in_err-do_line-clause-rest : goal.returns-in_err-do_line-clause-rest
returns-in_err-do_line-clause-rest g c = on_err _ c.in_err-do_line.ensures.rest

pub returns-in_err-hold-clause-rest : goal.returns-in_err-hold-clause-rest
returns-in_err-hold-clause-rest g c =
    let old = KeepsCore (g.K.Keeper.kept_gives c.args.node.now.keeper) c.args.node.now.state.core in
    let tells = g.K.Keeper.kept_gives c.do_line.new.self.keeper in
    let core = c.do_line.new.self.state.core in
    on_err {P = old → KeepsAllButOne tells core} _ (λ keeps. all_but_one tells core (c.in_ok-do_line.ensures.keeps keeps))
