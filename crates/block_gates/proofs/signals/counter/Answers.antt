use Rattle.std.proofs.Common.{◌-◌, ◌≤◌, length, length-drop, drop, ◌∙◌, arith}
use Rattle.std.proofs.lemmas.List.{take_all}
use Rattle.block_gates.proofs.Parts.{first_two}
use Rattle.block_gates.proofs.signals.counter.Goals as goal

pub returns : goal.returns
returns c =
    let signals = c.args.signals.now in
    let enough : 2 ≤ length signals = omega arith in
    let behind = length-drop 2 signals in
    let whole = take_all (length signals - 2) (drop 2 signals) (omega (arith, behind)) in
    first_two signals c.int_word-count.result.bits _ _ enough (c.int_word-count.ensures ∙ whole)
