use Rattle.std.proofs.Common.{◌≡◌, ◌++◌, ◌∷◌, [], Some, slice_get, sym, arith, ◌∙◌}
use Rattle.evaluation.specs.Meaning.{output_value}
use Rattle.evaluation.proofs.MappedLists.{found_not_none}
use Rattle.evaluation.proofs.ScannedPrograms.{output_has_value, value_more, kind_more}
use Rattle.evaluation.proofs.outputs.read_outputs.Goals as goal
use Rattle.evaluation.proofs.outputs.read_outputs.Goals.{in-Some+in-Some-output_value+in_ok-push, in-Some+in_default-output_value, in_default}

pub loop-k-preserved : goal.loop-k-preserved
loop-k-preserved c =
    let code = c.args.code.now in
    let states = c.args.states.now in
    let k = c.loop-k.k in
    elim c.match-output.branch [
      | in-Some+in-Some-output_value+in_ok-push w ↦
          (let o = w.in-Some.output in
          let v = w.in-Some-output_value.value in
          let at : slice_get code.outputs k ≡ Some o = sym c.output.ensures ∙ w.in-Some.is in
          let is : output_value states o ≡ Some v = sym w.output_value.ensures ∙ w.in-Some-output_value.is in
          let p = w.in_ok-push.ensures.items in
          let z = w.values-is in
          let new : c.match-output.values.items ≡ c.loop-k.values.items ++ v ∷ [] = cc in
          record {
            values = value_more code states k o v c.loop-k.values.items c.match-output.values.items at is new c.loop-k.invariant.values;
            kinds = kind_more code states k o v c.loop-k.values.items c.match-output.values.items c.requires.fits c.requires.sound at is new c.loop-k.invariant.kinds;
          })
      | in-Some+in_default-output_value w ↦
          (let o = w.in-Some.output in
          let at : slice_get code.outputs k ≡ Some o = sym c.output.ensures ∙ w.in-Some.is in
          let has = output_has_value code states o c.requires.fits (c.requires.sound.each_output k o at) in
          absurd (w.in_default-output_value.not-Some has.0 (w.output_value.ensures ∙ has.1)))
      | in_default w ↦ absurd (found_not_none code.outputs k (omega arith) (sym c.output.ensures ∙ w.in_default.is))
    ]
