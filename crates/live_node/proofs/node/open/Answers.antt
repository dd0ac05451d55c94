-- The node began; or its start was noted, and memory is wanting.
use Rattle.std.specs.Prelude.{string_bytes}
use Rattle.std.proofs.Common.{rules, ◌≡◌, subst}
use Rattle.exchange_core.specs.Openings.{AreOpeningOf}
use Rattle.keepers.specs.Openings.{TellsOpening}
use Rattle.live_node.proofs.Outliving.{begun_keeps}
use Rattle.live_node.proofs.Stopping.{start_unmade}
use Rattle.live_node.proofs.Telling.{node_begun}
use Rattle.live_node.proofs.node.open.Goals as goal

pub returns-clause-begun : goal.returns-clause-begun
returns-clause-begun g c =
    let shared : c.deref.result.now ≡ c.args.plant.value = search rules in
    let told = subst (λ p. TellsOpening (g.K.Keeper.kept_gives c.raise.new.self) p c.args.resource c.in_ok-opening.opening.items) shared c.in_ok-opening.ensures.told in
    node_begun (g.K.Keeper.raise_gives c.args.keeper.now) (g.K.Keeper.kept_gives c.args.keeper.now) (g.K.Keeper.kept_gives c.raise.new.self) c.args.plant.value c.args.resource c.in_ok-incarnation.incarnation c.in_ok-opening.opening.items c.in_ok-state.state
    (g.N.Notes.noted c.args.notes.now) (g.N.Notes.noted c.note_on_disk.new.notes) (string_bytes c.in_ok-note.note) (string_bytes c.args.out.now) (string_bytes c.push_greetings.new.out) (string_bytes c.push_risen.new.out)
    c.in_ok-incarnation.ensures.given c.in_ok-incarnation.ensures.stays told (search rules) (search rules) (search rules) (search rules) (search rules)

pub returns-clause-keeps : goal.returns-clause-keeps
returns-clause-keeps g c =
    let shared : c.deref.result.now ≡ c.args.plant.value = search rules in
    let told = subst (λ p. TellsOpening (g.K.Keeper.kept_gives c.raise.new.self) p c.args.resource c.in_ok-opening.opening.items) shared c.in_ok-opening.ensures.told in
    let opened = subst (λ p. AreOpeningOf p c.args.resource c.in_ok-opening.opening.items) shared c.in_ok-opening.ensures.opened in
    begun_keeps (g.K.Keeper.kept_gives c.raise.new.self) (g.K.Keeper.kept_gives c.kept_opening.new.keeper) c.args.plant.value c.args.resource c.in_ok-incarnation.incarnation c.in_ok-opening.opening.items c.in_ok-state.state
    c.in_ok-opening.ensures.keeps told opened (search rules)

pub returns-in_err-push_greetings-clause-stopped : goal.returns-in_err-push_greetings-clause-stopped
returns-in_err-push_greetings-clause-stopped g c =
    let shared : c.deref.result.now ≡ c.args.plant.value = search rules in
    let told = subst (λ p. TellsOpening (g.K.Keeper.kept_gives c.raise.new.self) p c.args.resource c.in_ok-opening.opening.items) shared c.in_ok-opening.ensures.told in
    start_unmade c.from_residual-in_err-push_greetings.result (g.K.Keeper.raise_gives c.args.keeper.now) (g.K.Keeper.kept_gives c.args.keeper.now) (g.K.Keeper.kept_gives c.raise.new.self) c.args.plant.value c.args.resource (g.K.Keeper.last c.args.keeper.now) c.in_ok-incarnation.incarnation c.in_ok-opening.opening.items
    (string_bytes c.in_ok-note.note) (g.N.Notes.noted c.args.notes.now) (g.N.Notes.noted c.note_on_disk.new.notes)
    c.from_residual-in_err-push_greetings.ensures.1 c.in_ok-incarnation.ensures.given (search rules) (search rules) c.in_ok-incarnation.ensures.stays told (search rules) (search rules)

pub returns-in_err-push_risen-clause-stopped : goal.returns-in_err-push_risen-clause-stopped
returns-in_err-push_risen-clause-stopped g c =
    let shared : c.deref.result.now ≡ c.args.plant.value = search rules in
    let told = subst (λ p. TellsOpening (g.K.Keeper.kept_gives c.raise.new.self) p c.args.resource c.in_ok-opening.opening.items) shared c.in_ok-opening.ensures.told in
    start_unmade c.from_residual-in_err-push_risen.result (g.K.Keeper.raise_gives c.args.keeper.now) (g.K.Keeper.kept_gives c.args.keeper.now) (g.K.Keeper.kept_gives c.raise.new.self) c.args.plant.value c.args.resource (g.K.Keeper.last c.args.keeper.now) c.in_ok-incarnation.incarnation c.in_ok-opening.opening.items
    (string_bytes c.in_ok-note.note) (g.N.Notes.noted c.args.notes.now) (g.N.Notes.noted c.note_on_disk.new.notes)
    c.from_residual-in_err-push_risen.ensures.1 c.in_ok-incarnation.ensures.given (search rules) (search rules) c.in_ok-incarnation.ensures.stays told (search rules) (search rules)
