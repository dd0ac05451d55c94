use Rattle.std.proofs.Common.{◌≡◌, ◌-◌, ◌++◌, length, length-drop, drop, ap, sym, ◌∙◌, arith}
use Rattle.std.proofs.lemmas.List.{take_all}
use Rattle.scan_gates.proofs.StateBits.{more_behind}
use Rattle.scan_gates.proofs.states.with_inputs.Goals as goal

pub of_signals-new-requires : goal.of_signals-new-requires
of_signals-new-requires c =
    let old = c.args.signals.now.items in
    let all = c.as_slice-all.result.now in
    let from = c.len-before.result in
    let more = c.in_ok-push_inputs.ensures.more in
    let before : from ≡ length old = omega (arith, c.len-before.ensures, c.args.signals.now.ok.0) in
    let long = length-drop from all in
    let whole = take_all (length all - from) (drop from all) (omega (arith, long)) in
    let behind = ap (λ n. drop n all) before ∙ ap (drop (length old)) c.as_slice-all.ensures.value
    ∙ more_behind old c.push_inputs.new.signals.items c.width-width.result more in
    ap length (whole ∙ behind) ∙ more.many ∙ c.width-width.ensures

pub returns-clause-signals : goal.returns-clause-signals
returns-clause-signals c =
    let old = c.args.signals.now.items in
    let all = c.as_slice-all.result.now in
    let from = c.len-before.result in
    let more = c.in_ok-push_inputs.ensures.more in
    let before : from ≡ length old = omega (arith, c.len-before.ensures, c.args.signals.now.ok.0) in
    let long = length-drop from all in
    let whole = take_all (length all - from) (drop from all) (omega (arith, long)) in
    let behind = ap (λ n. drop n all) before ∙ ap (drop (length old)) c.as_slice-all.ensures.value
    ∙ more_behind old c.push_inputs.new.signals.items c.width-width.result more in
    more.is ∙ ap (λ l. old ++ l) (sym (c.of_signals-new.ensures.signals ∙ whole ∙ behind))
