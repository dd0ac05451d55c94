use Rattle.std.proofs.Common.{◌≡◌, Bool, List, ◌++◌, ap, subst, ◌∙◌}
use Rattle.std.proofs.lemmas.Result.{IfOk-weaker}
use Rattle.std.specs.Global.{Vec}
use Rattle.gates.specs.Signals.{bit_of}
use Rattle.gates.specs.Gates.{AreValues, IsOrdered}
use Rattle.transition_systems.proofs.InputValues.{laid_out_values}
use Rattle.transition_systems.proofs.runs.values_at.Goals as goal

pub returns : goal.returns
returns c =
    let t = c.args.system.now in
    let state = c.args.state.now in
    let row = c.args.row.now in
    let inputs : c.as_slice.result.now ≡ state ++ row =
    c.as_slice.ensures.value ∙ c.in_ok-extend_from_slice.ensures.items ∙ ap (λ (s : List Bool). s ++ row) c.in_ok-inputs.ensures.items in
    IfOk-weaker c.values.result
    (λ (values : Vec Bool). IsOrdered t.gates → AreValues (bit_of c.as_slice.result.now) t.gates (bit_of values.items)) _
    (λ values are laid_out state_long row_long.
    laid_out_values t state row (bit_of values.items) laid_out state_long row_long
    (subst (λ (bits : List Bool). AreValues (bit_of bits) t.gates (bit_of values.items)) inputs (are laid_out.ordered)))
    c.values.ensures
