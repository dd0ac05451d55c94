use Rattle.std.proofs.Common.{◌≡◌, Some, length, arith}
use Rattle.std.proofs.lemmas.Option.{slice_get-get_or, slice_get_within}
use Rattle.std.specs.Prelude.{slice_get}
use Rattle.gates.specs.declared.gates.Gate.TheVariants.{Off}
use Rattle.gates.specs.Gates.{IsOrdered}
use Rattle.gates.specs.Steps.Values.{first_values}
use Rattle.gates.proofs.ValuesOf.{first_are, ordered_more}
use Rattle.gates.proofs.gates.Gates.is_ordered.Goals as goal

pub loop-number-preserved : goal.loop-number-preserved
loop-number-preserved c =
    ordered_more _ c.loop-number.number _ (slice_get-get_or _ c.loop-number.number Off c.loop-number-test.true)
    (c.is_before.ensures.0 c.if-not-is_before.false) c.loop-number.invariant

pub returns : goal.returns
returns c =
    let ordered : IsOrdered c.args.self.now = λ k g at.
    let here : slice_get c.gates-gates.result.now k ≡ Some g = rw c.gates-gates.ensures at in
    let within = slice_get_within c.gates-gates.result.now k g here in
    c.loop-number.invariant k g (omega arith) here
    in
    record {
      ordered = λ _. ordered;
      values = λ _ inputs. (first_values inputs c.args.self.now (length c.args.self.now), first_are inputs c.args.self.now ordered);
    }
