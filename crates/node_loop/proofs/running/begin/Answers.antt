-- Memory was wanting, before a node began or when it had.
use Rattle.std.proofs.Common.{[], inl, inr, refl, subst}
use Rattle.std.specs.Prelude.{string_bytes}
use Rattle.std.proofs.KnownBytes.{Keeps-refl}
use Rattle.lists.proofs.Results.{kept_fault}
use Rattle.plant.specs.PlantValue.{PlantValue}
use Rattle.live_node.specs.NodeAnswers.{HasBegun}
use Rattle.live_node.specs.declared.live_stop.LiveStop.TheVariants.{Node}
use Rattle.live_node.specs.declared.node_stop.NodeStop.TheVariants.{Memory}
use Rattle.node_loop.specs.declared.loop_stop.LoopStop.TheVariants.{Live}
use Rattle.node_loop.specs.Running.{IsUnbegun}
use Rattle.node_loop.proofs.running.begin.Goals as goal

pub returns-in_err-shared-clause-stopped : goal.returns-in_err-shared-clause-stopped
returns-in_err-shared-clause-stopped g c =
    let noted = g.N.Notes.noted c.args.notes in
    kept_fault (Live (Node Memory)) (IsUnbegun g.K.Keeper.last g.K.Keeper.raise_gives g.K.Keeper.kept_gives c.args.keeper c.args.plant.value c.args.resource noted) c.from_residual.result c.from_residual.ensures.1
    (record { why = Memory; noted_then = noted; cause = refl; stops = inl (inl (Keeps-refl noted)) })

pub returns-in_err-node-clause-stopped : goal.returns-in_err-node-clause-stopped
returns-in_err-node-clause-stopped g c =
    let raises = g.K.Keeper.raise_gives c.args.keeper in
    let tells = g.K.Keeper.kept_gives c.args.keeper in
    let noted = g.N.Notes.noted c.args.notes in
    let noted_then = g.N.Notes.noted c.in-Ok.node.notes in
    let state = c.in-Ok.node.state in
    let text = string_bytes c.begin.new.out in
    let begun = subst (λ o. HasBegun raises tells c.in_ok-shared.shared.value c.args.resource state noted noted_then o text) c.new-text.ensures.bytes c.in-Ok.ensures.begun in
    let of_plant = subst (λ (plant : PlantValue). HasBegun raises tells plant c.args.resource state noted noted_then [] text) c.in_ok-shared.ensures begun in
    kept_fault (Live (Node Memory)) (IsUnbegun g.K.Keeper.last g.K.Keeper.raise_gives g.K.Keeper.kept_gives c.args.keeper c.args.plant.value c.args.resource noted) c.from_residual-in_err-node.result c.from_residual-in_err-node.ensures.1
    (record { why = Memory; noted_then = noted_then; cause = refl; stops = inr (refl, state, text, of_plant) })
