use Rattle.std.proofs.Common.{◌≡◌, ℕ, List, length, subst, sym, ◌∙◌}
use Rattle.gates.specs.declared.gates.Gate.{Gate}
use Rattle.gates.specs.declared.signal.Signal.{Signal}
use Rattle.transition_systems.specs.Steps.Inputs.{AreInputs}
use Rattle.transition_systems.proofs.InputValues.{whole}
use Rattle.transition_systems.proofs.shape.is_whole.Goals as goal

pub returns-clause-laid_out : goal.returns-clause-laid_out
returns-clause-laid_out c = λ yes.
    let t = c.args.system.now in
    let gates = c.gates-gates.result.now in
    let count : c.len-count.result ≡ length t.state.items = c.len-count.ensures ∙ t.state.ok.0 in
    record {
      ordered = c.is_ordered.ensures.ordered c.if-not-is_ordered.false;
      states = subst (λ (gs : List Gate). AreInputs gs 0 t.state.items) c.gates-gates.ensures
          (subst (λ (ss : List Signal). AreInputs gates 0 ss) c.deref.ensures.value (c.are_inputs.ensures c.if-not-are_inputs.false));
      inputs = subst (λ (n : ℕ). AreInputs t.gates n t.inputs.items) count
          (subst (λ (gs : List Gate). AreInputs gs c.len-count.result t.inputs.items) c.gates-gates.ensures
          (subst (λ (ss : List Signal). AreInputs gates c.len-count.result ss) c.deref-2.ensures.value (c.are_inputs-2.ensures yes)));
    }

pub returns-clause-whole : goal.returns-clause-whole
returns-clause-whole c = λ yes.
    let t = c.args.system.now in
    let count : c.len-count.result ≡ length t.state.items = c.len-count.ensures ∙ t.state.ok.0 in
    let first : length t.first.items ≡ length t.state.items = sym t.first.ok.0 ∙ sym c.len.ensures ∙ c.if-len-count.false ∙ count in
    let next : length t.next.items ≡ length t.state.items = sym t.next.ok.0 ∙ sym c.len-2.ensures ∙ c.if-len-count-2.false ∙ count in
    let laid_out = returns-clause-laid_out c yes in
    whole t first next (c.is_ordered.ensures.values c.if-not-is_ordered.false) laid_out.states laid_out.inputs
