use Rattle.std.proofs.Common.{◌-◌, ◌≤◌, length, length-drop, drop, ◌∙◌, arith}
use Rattle.std.proofs.lemmas.List.{take_all}
use Rattle.block_gates.proofs.Parts.{first_four}
use Rattle.block_gates.proofs.signals.up_down.Goals as goal

pub returns : goal.returns
returns c =
    let signals = c.args.signals.now in
    let enough : 4 ≤ length signals = omega arith in
    let behind = length-drop 4 signals in
    let whole = take_all (length signals - 4) (drop 4 signals) (omega (arith, behind)) in
    first_four signals c.int_word-count.result.bits _ _ _ _ enough (c.int_word-count.ensures ∙ whole)
