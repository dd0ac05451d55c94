use Rattle.std.proofs.Common.{◌<◌, ◌≤◌, length}
use Rattle.std.proofs.lemmas.List.{take_all, append-nil}
use Rattle.name_faults.specs.Steps.BoxFindings.{box_findings}
use Rattle.name_faults.proofs.BoxesFaults.{pins_first}
use Rattle.name_faults.proofs.box_faults.box_finding.Goals as goal

pub loop-k-init : goal.loop-k-init
loop-k-init c = rw append-nil c.corner_finding-first.ensures

pub loop-k-preserved : goal.loop-k-preserved
loop-k-preserved c =
    let ds = c.args.declarations.now in
    let es = c.args.elements.now in
    let b = c.args.drawn.now in
    let lt : c.loop-k.k < length b.pins = rw c.as_slice-pins.ensures at c.loop-k-test.true in
    let is = rw c.as_slice-pins.ensures at c.index-pins-k.is in
    pins_first ds es b c.loop-k.k c.index-pins-k.result c.loop-k.first c.pin_finding.result c.earlier-first.result lt is c.loop-k.invariant c.pin_finding.ensures c.earlier-first.ensures

pub returns : goal.returns
unfolding box_findings
returns c =
    let b = c.args.drawn.now in
    let past : length b.pins ≤ c.loop-k.k = rw c.as_slice-pins.ensures at c.loop-k-test.false in
    rw (take_all c.loop-k.k b.pins past) at c.loop-k.invariant
