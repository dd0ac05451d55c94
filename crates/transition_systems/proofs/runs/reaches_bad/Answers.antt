use Rattle.std.proofs.Common.{◌≡◌, ◌+◌, Bool, true, List, drop, length, ap, inl, inr, subst, sym, ◌∙◌}
use Rattle.std.proofs.lemmas.List.{length-map}
use Rattle.gates.specs.declared.signal.Signal.{Signal}
use Rattle.gates.specs.Signals.{bit_of, signal_value}
use Rattle.transition_systems.specs.Systems.{AreValuesAt, bits_at}
use Rattle.transition_systems.specs.Runs.{IsBadAlong}
use Rattle.transition_systems.proofs.RunsOn.{bad_from, values_where}
use Rattle.transition_systems.proofs.runs.reaches_bad.Goals as goal

pub returns-then-value_in : goal.returns-then-value_in
returns-then-value_in c = λ _.
    let t = c.args.system.now in
    let state = c.loop-row.state.items in
    let row = c.row-item.result in
    let v = bit_of c.in_ok-values.values.items in
    let long : length row.items ≡ length t.inputs.items =
    sym row.ok.0 ∙ sym c.len.ensures ∙ c.if-len.false ∙ c.len-in-loop-row.ensures ∙ t.inputs.ok.0 in
    let its = c.as_slice-in-loop-row.ensures.value in
    let rows = c.as_slice-in-loop-row-2.ensures.value in
    let at : AreValuesAt t state row.items v =
    values_where t state c.as_slice-in-loop-row.result.now row.items c.as_slice-in-loop-row-2.result.now v its rows
    (c.in_ok-values.ensures (c.is_whole.ensures.laid_out c.if-not-is_whole.false)
    (ap (λ (s : List Bool). length s) its ∙ c.loop-row.invariant.0) (ap (λ (s : List Bool). length s) rows ∙ long)) in
    let given : signal_value v t.constraint ≡ true =
    ap (λ (bits : List Bool). signal_value (bit_of bits) t.constraint) (sym c.as_slice-in-loop-row-3.ensures.value)
    ∙ sym c.value_in.ensures ∙ c.if-not-value_in.false in
    let bad : signal_value v t.bad ≡ true =
    ap (λ (bits : List Bool). signal_value (bit_of bits) t.bad) (sym c.as_slice-in-loop-row-4.ensures.value)
    ∙ sym c.value_in-in-loop-row.ensures ∙ c.if-value_in.true in
    c.loop-row.invariant.1
    (bad_from t c.args.rows.now c.loop-row.row-index row state v c.loop-row-test.true c.row-item.is at given (inl bad))

pub loop-row-preserved : goal.loop-row-preserved
loop-row-preserved c =
    let t = c.args.system.now in
    let state = c.loop-row.state.items in
    let row = c.row-item.result in
    let v = bit_of c.in_ok-values.values.items in
    let long : length row.items ≡ length t.inputs.items =
    sym row.ok.0 ∙ sym c.len.ensures ∙ c.if-len.false ∙ c.len-in-loop-row.ensures ∙ t.inputs.ok.0 in
    let its = c.as_slice-in-loop-row.ensures.value in
    let rows = c.as_slice-in-loop-row-2.ensures.value in
    let laid_out = c.is_whole.ensures.laid_out c.if-not-is_whole.false in
    let at : AreValuesAt t state row.items v =
    values_where t state c.as_slice-in-loop-row.result.now row.items c.as_slice-in-loop-row-2.result.now v its rows
    (c.in_ok-values.ensures laid_out
    (ap (λ (s : List Bool). length s) its ∙ c.loop-row.invariant.0) (ap (λ (s : List Bool). length s) rows ∙ long)) in
    let given : signal_value v t.constraint ≡ true =
    ap (λ (bits : List Bool). signal_value (bit_of bits) t.constraint) (sym c.as_slice-in-loop-row-3.ensures.value)
    ∙ sym c.value_in.ensures ∙ c.if-not-value_in.false in
    let next : c.in_ok-state-2.state.items ≡ bits_at v t.next.items =
    c.in_ok-state-2.ensures
    ∙ ap (λ (bits : List Bool). bits_at (bit_of bits) c.as_slice-in-loop-row-6.result.now) c.as_slice-in-loop-row-5.ensures.value
    ∙ ap (λ (signals : List Signal). bits_at v signals) c.as_slice-in-loop-row-6.ensures.value in (
      ap (λ (s : List Bool). length s) next ∙ length-map t.next.items (signal_value v)
          ∙ (c.is_whole.ensures.whole c.if-not-is_whole.false).next_fits,
      λ rest.
          c.loop-row.invariant.1
          (bad_from t c.args.rows.now c.loop-row.row-index row state v c.loop-row-test.true c.row-item.is at given
          (inr (subst (λ (s : List Bool). IsBadAlong t s (drop (c.loop-row.row-index + 1) c.args.rows.now)) next rest))),
    )
