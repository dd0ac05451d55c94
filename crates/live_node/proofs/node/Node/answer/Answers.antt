-- The note of a line that was done doesn't come to the disk.
use Rattle.std.specs.Prelude.{string_bytes}
use Rattle.std.proofs.Common.{rules, ◌≡◌, subst, sym}
use Rattle.lists.proofs.Results.{kept_fault}
use Rattle.text_lines.proofs.Sending.{on_err}
use Rattle.live_node.specs.Keeping.{KeepsAllButOne, KeepsCore}
use Rattle.live_node.specs.NodeAnswers.{keeper_gives}
use Rattle.live_node.specs.NodeValue.{NodeValue}
use Rattle.live_node.specs.Stops.{NotesUnanswered}
use Rattle.live_node.proofs.Noted.{answered_then, synced_then, unsynced}
use Rattle.live_node.proofs.Outliving.{all_but_one}
use Rattle.live_node.specs.Steps.Growing.{grows_trans}
use Rattle.live_node.proofs.Syncing.{synced_later}
use Rattle.live_node.proofs.node.Node.answer.Goals as goal

pub returns-in_err-do_line-clause-stopped : goal.returns-in_err-do_line-clause-stopped
returns-in_err-do_line-clause-stopped g c =
    let raising = keeper_gives g.K.Keeper.raise_gives c.args.self.now.keeper in
    kept_fault c.in_err-do_line.field-0.0 (λ why. NotesUnanswered raising c.args.self.now.state c.args.line.now why (g.N.Notes.noted c.args.self.now.notes) (g.N.Notes.noted c.do_line.new.self.notes)) c.from_residual.result c.from_residual.ensures.1 c.in_err-do_line.ensures.stopped

pub returns-in_err-do_line-clause-rest : goal.returns-in_err-do_line-clause-rest
returns-in_err-do_line-clause-rest g c = on_err _ c.in_err-do_line.ensures.rest

pub returns-clause-answered : goal.returns-clause-answered
returns-clause-answered g c =
    answered_then c.sync.result (keeper_gives g.K.Keeper.raise_gives c.args.self.now.keeper) c.args.self.now.state c.do_line.new.self.state c.sync.new.self.state c.args.line.now (g.N.Notes.noted c.args.self.now.notes) (g.N.Notes.noted c.do_line.new.self.notes) (g.N.Notes.noted c.sync.new.self.notes)
    (string_bytes c.args.out.now) (string_bytes c.do_line.new.out) c.in_ok-do_line.ensures.answered c.sync.ensures.noted c.sync.ensures.state

pub returns-clause-stopped : goal.returns-clause-stopped
returns-clause-stopped g c =
    let changed = λ (e : c.do_line.new.self.state.lines ≡ c.args.self.now.state.lines). absurd (search rules) in
    unsynced c.sync.result (keeper_gives g.K.Keeper.raise_gives c.args.self.now.keeper) c.args.self.now.state c.do_line.new.self.state c.args.line.now (g.N.Notes.noted c.args.self.now.notes) (g.N.Notes.noted c.do_line.new.self.notes) (g.N.Notes.noted c.sync.new.self.notes)
    (string_bytes c.args.out.now) (string_bytes c.do_line.new.out) c.sync.ensures.stopped c.in_ok-do_line.ensures.answered c.sync.ensures.noted changed

pub returns-clause-first : goal.returns-clause-first
returns-clause-first g c =
    synced_later g.K.Keeper.kept_gives c.args.self.now.keeper c.do_line.new.self.keeper c.sync.new.self.keeper (g.N.Notes.noted c.do_line.new.self.notes) (g.N.Notes.noted c.sync.new.self.notes) (g.N.Notes.synced c.do_line.new.self.notes) (g.N.Notes.synced c.sync.new.self.notes) c.sync.ensures.keeper c.sync.ensures.noted c.sync.ensures.stays c.in_ok-do_line.ensures.first

pub returns-clause-stays : goal.returns-clause-stays
returns-clause-stays g c = grows_trans (g.N.Notes.synced c.args.self.now.notes) (g.N.Notes.synced c.do_line.new.self.notes) (g.N.Notes.synced c.sync.new.self.notes) c.in_ok-do_line.ensures.stays c.sync.ensures.stays

pub returns-clause-rest : goal.returns-clause-rest
returns-clause-rest g c =
    let old = KeepsCore (g.K.Keeper.kept_gives c.args.self.now.keeper) c.args.self.now.state.core in
    let tells = g.K.Keeper.kept_gives c.do_line.new.self.keeper in
    let core = c.do_line.new.self.state.core in
    let new = KeepsAllButOne (g.K.Keeper.kept_gives c.sync.new.self.keeper) c.sync.new.self.state.core in
    on_err {P = old → new} _ (λ keeps.
    subst (λ k. KeepsAllButOne (g.K.Keeper.kept_gives k) c.sync.new.self.state.core) (sym c.sync.ensures.keeper)
    (subst (λ (s : NodeValue). KeepsAllButOne tells s.core) (sym c.sync.ensures.state) (all_but_one tells core (c.in_ok-do_line.ensures.keeps keeps))))

pub returns-clause-synced : goal.returns-clause-synced
returns-clause-synced g c =
    synced_then c.sync.result (g.N.Notes.synced c.args.self.now.notes ≡ g.N.Notes.noted c.args.self.now.notes) (g.N.Notes.synced c.sync.new.self.notes ≡ g.N.Notes.noted c.sync.new.self.notes) c.sync.ensures.synced
