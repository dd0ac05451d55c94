use Rattle.std.proofs.Common.{◌≡◌, ◌+◌, List, [], ◌∷◌, ◌++◌, Bool, length, get_or, arith, refl, ap, subst, sym, ◌∙◌}
use Rattle.std.proofs.lemmas.List.{length_push}
use Rattle.gates.specs.declared.gates.Gate.{Gate}
use Rattle.gates.specs.declared.gates.Gate.TheVariants.{Off}
use Rattle.gates.specs.Signals.{bit_of}
use Rattle.gates.specs.Gates.{AreValues, IsOrdered}
use Rattle.gates.specs.Steps.Values.{first_values, own_value}
use Rattle.gates.proofs.ValuesOf.{first_are, same_are, values_more}
use Rattle.gates.proofs.gates.Gates.values.Goals as goal

pub loop-gate-preserved : goal.loop-gate-preserved
loop-gate-preserved c =
    let gates = c.gates-gates.result.now in
    let inputs = bit_of c.args.inputs.now in
    let values = c.loop-gate.values.items in
    let item = get_or gates c.loop-gate.gate-index Off in
    let value : c.own-value.result ≡ own_value (bit_of c.args.inputs.now) (bit_of c.loop-gate.values.items) item =
    c.own-value.ensures ∙ ap (λ (bits : List Bool). own_value (bit_of c.args.inputs.now) (bit_of bits) item) c.deref.ensures.value in
    record {
      made = ap length c.in_ok-push.ensures.items ∙ length_push values c.own-value.result ∙ ap (λ n. n + 1) c.loop-gate.invariant.made;
      same = values_more inputs gates values c.push.new.self.items c.loop-gate.gate-index item c.loop-gate-test.true refl
          c.loop-gate.invariant.made c.loop-gate.invariant.same
          (c.in_ok-push.ensures.items ∙ ap (λ (b : Bool). values ++ b ∷ []) value);
    }

pub returns : goal.returns
returns c = λ ordered.
    let gates = c.gates-gates.result.now in
    let inputs = bit_of c.args.inputs.now in
    let values = c.loop-gate.values.items in
    let here : IsOrdered gates = subst IsOrdered (sym c.gates-gates.ensures) ordered in
    let end : c.loop-gate.gate-index ≡ length gates = omega arith in
    let are : AreValues inputs gates (bit_of values) =
    same_are inputs gates (first_values inputs gates (length gates)) (bit_of values)
    (λ k. c.loop-gate.invariant.same k ∙ ap (λ n. first_values inputs gates n k) end) (first_are inputs gates here) in
    subst (λ (gs : List Gate). AreValues inputs gs (bit_of values)) c.gates-gates.ensures are
