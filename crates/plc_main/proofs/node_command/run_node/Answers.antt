-- A node began, and answered its lines; or it didn't begin, or stopped then.
use Rattle.std.proofs.Common.{inl, inr, refl, subst}
use Rattle.std.specs.Prelude.{string_bytes}
use Rattle.std.proofs.KnownBytes.{Consumes-nil, Keeps-refl}
use Rattle.std.proofs.lemmas.Result.{IfOk-weaker, IfErr-weaker}
use Rattle.live_node.specs.LiveNode.{WritesNode}
use Rattle.live_node.specs.NodeAnswers.{a_keeper_gives, HasBegun}
use Rattle.live_node.specs.Stops.{StopsNode}
use Rattle.plc_main.specs.NodeCommand.{RunsNode, StopsRunning}
use Rattle.plc_main.proofs.node_command.run_node.Goals as goal

pub returns-in-Ok-clause-ok : goal.returns-in-Ok-clause-ok
returns-in-Ok-clause-ok g c =
    let raising = a_keeper_gives g.K.Keeper.last g.K.Keeper.raise_gives in
    let raises = g.K.Keeper.raise_gives c.args.keeper in
    let tells = g.K.Keeper.kept_gives c.args.keeper in
    let plant = c.args.prepared.plant.value in
    let resource = c.args.prepared.resource in
    let first = c.in-Ok.node.state in
    let given = g.I.Read.remaining c.args.input.now in
    let left = g.I.Read.remaining c.run_begun.new.input in
    let noted_old = g.N.Notes.noted c.args.notes in
    let noted = g.N.Notes.noted c.in-Ok.node.notes in
    let from = g.W.Write.contents c.args.writer.now in
    let to = g.W.Write.contents c.run_begun.new.writer in
    let begun = string_bytes c.begin.new.out in
    IfOk-weaker c.run_begun.result
    (λ last. WritesNode raising first last.state c.as_str.result.now given left noted (g.N.Notes.noted last.notes) from to)
    (λ last. RunsNode g.K.Keeper.last g.K.Keeper.raise_gives g.K.Keeper.kept_gives c.args.keeper plant resource last.state given left noted_old (g.N.Notes.noted last.notes) from to)
    (λ last h. record {
      first = first;
      begun = begun;
      noted = noted;
      begins = subst (λ o. HasBegun raises tells plant resource first noted_old noted o begun) c.new-begun.ensures.bytes c.in-Ok.ensures.begun;
      writes = subst (λ b. WritesNode raising first last.state b given left noted (g.N.Notes.noted last.notes) from to) c.as_str.ensures.value h;
    })
    c.run_begun.ensures.ok

pub returns-in-Ok-clause-stopped : goal.returns-in-Ok-clause-stopped
returns-in-Ok-clause-stopped g c =
    let raising = a_keeper_gives g.K.Keeper.last g.K.Keeper.raise_gives in
    let raises = g.K.Keeper.raise_gives c.args.keeper in
    let tells = g.K.Keeper.kept_gives c.args.keeper in
    let plant = c.args.prepared.plant.value in
    let resource = c.args.prepared.resource in
    let first = c.in-Ok.node.state in
    let given = g.I.Read.remaining c.args.input.now in
    let left = g.I.Read.remaining c.run_begun.new.input in
    let noted_old = g.N.Notes.noted c.args.notes in
    let noted = g.N.Notes.noted c.in-Ok.node.notes in
    let from = g.W.Write.contents c.args.writer.now in
    let to = g.W.Write.contents c.run_begun.new.writer in
    let begun = string_bytes c.begin.new.out in
    IfErr-weaker c.run_begun.result
    (λ e. StopsNode raising first c.as_str.result.now given left noted (g.N.Notes.noted e.0) (g.N.Notes.synced e.0) from to e.1)
    (λ e. StopsRunning g.K.Keeper.last g.K.Keeper.raise_gives g.K.Keeper.kept_gives c.args.keeper plant resource given left noted_old (g.N.Notes.noted e.0) (g.N.Notes.synced e.0) from to e.1)
    (λ e h. inr (record {
      first = first;
      begun = begun;
      noted = noted;
      begins = subst (λ o. HasBegun raises tells plant resource first noted_old noted o begun) c.new-begun.ensures.bytes c.in-Ok.ensures.begun;
      stops = subst (λ b. StopsNode raising first b given left noted (g.N.Notes.noted e.0) (g.N.Notes.synced e.0) from to e.1) c.as_str.ensures.value h;
    }))
    c.run_begun.ensures.stopped

pub returns-clause-stopped : goal.returns-clause-stopped
returns-clause-stopped g c =
    inl (record {
      why = c.in-Err.stop;
      cause = refl;
      unread = Consumes-nil (g.I.Read.remaining c.args.input.now);
      unwritten = Keeps-refl (g.W.Write.contents c.args.writer.now);
      stops = c.in-Err.ensures.stopped;
    })
