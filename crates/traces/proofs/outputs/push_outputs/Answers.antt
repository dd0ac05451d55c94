use Rattle.std.proofs.Common.{◌++◌, [], ◌∷◌, sym, ap, ◌∙◌, add-one, arith}
use Rattle.std.specs.Option.{option_map_or}
use Rattle.lists.proofs.Places.{element_at}
use Rattle.traces.specs.Moments.{made_at}
use Rattle.traces.specs.Outputs.{output_track, task_tracks}
use Rattle.traces.proofs.Tracks.{grown}
use Rattle.traces.proofs.outputs.push_outputs.Goals as goal

pub loop-output-preserved : goal.loop-output-preserved
loop-output-preserved c =
    let plant = c.args.plant.now in
    let moments = made_at c.args.moments.now in
    let task = c.args.task in
    let code = c.args.code.now in
    let output = c.loop-output.output in
    let first = c.args.tracks.now.items in
    let before = task_tracks plant moments task code output in
    let at = element_at code.outputs output (omega (arith, c.loop-output-test.true, c.outputs-output-end.ensures)) in
    grown first before (output_track plant moments task code output at.0 ∷ []) c.loop-output.tracks.items c.push_output.new.tracks.items c.loop-output.invariant (c.in_ok-push_output.ensures at.0 at.1)
    ∙ ap (λ found. first ++ (before ++ option_map_or (λ o. output_track plant moments task code output o ∷ []) found [])) (sym at.1)
    ∙ ap (λ n. first ++ task_tracks plant moments task code n) (sym (add-one output))
