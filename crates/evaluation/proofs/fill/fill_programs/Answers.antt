use Rattle.std.proofs.Common.{◌≡◌, ◌<◌, List, Some, length, slice_get, get_or, sym, arith, subst}
use Rattle.std.proofs.lemmas.Option.{slice_get-get_or}
use Rattle.lists.proofs.Places.{element_at}
use Rattle.task_codes.specs.declared.binding.Binding.{Binding}
use Rattle.evaluation.specs.Steps.Filling.{AreReady}
use Rattle.evaluation.specs.Meaning.{IsFilled}
use Rattle.evaluation.proofs.FilledInputs.{ready, next_fits, fill_more, fill_all, fill_fits}
use Rattle.evaluation.proofs.fill.fill_programs.Goals as goal

pub fill_program-requires-clause-ready : goal.fill_program-requires-clause-ready
fill_program-requires-clause-ready c =
    let code = c.args.code.now in
    let i = c.loop-i.i in
    let states = c.loop-i.states in
    let s = get_or states i c.index-states-i.result in
    let in_code : i < length code.programs = omega arith in
    let in_states : i < length states = omega (arith, c.loop-i.invariant.many, c.requires.fits.many) in
    let p = element_at code.programs i in_code in
    let is : slice_get states i ≡ Some s = slice_get-get_or states i c.index-states-i.result in_states in
    let fits = next_fits code c.args.inputs.now c.args.takes.now i p.0 c.args.states.now states s c.requires.fits c.loop-i.invariant is p.1 in
    subst (λ (bs : List Binding). AreReady c.args.inputs.now c.args.takes.now bs s.slots) (sym c.bindings.ensures)
    (ready code c.args.inputs.now c.args.takes.now i p.0 s.slots c.programs-i-end.ensures.sound c.requires.suits p.1 fits.slots)

pub loop-i-preserved : goal.loop-i-preserved
loop-i-preserved c =
    let code = c.args.code.now in
    let i = c.loop-i.i in
    let states = c.loop-i.states in
    let s = get_or states i c.index-states-i.result in
    let in_states : i < length states = omega (arith, c.loop-i.invariant.many, c.requires.fits.many) in
    let is : slice_get states i ≡ Some s = slice_get-get_or states i c.index-states-i.result in_states in
    fill_more code c.args.inputs.now c.args.takes.now i c.args.states.now states s c.fill_program.new.state c.requires.fits c.loop-i.invariant is
    (subst (λ (bs : List Binding). IsFilled c.args.inputs.now c.args.takes.now bs s c.fill_program.new.state) c.bindings.ensures c.fill_program.ensures.filled)
    c.fill_program.ensures.fits

pub returns-clause-filled : goal.returns-clause-filled
returns-clause-filled c =
    fill_all c.args.code.now c.args.inputs.now c.args.takes.now c.loop-i.i c.args.states.now c.loop-i.states c.loop-i.invariant
    (omega (arith, c.requires.fits.many, c.programs-i-end.ensures.count))

pub returns-clause-fits : goal.returns-clause-fits
returns-clause-fits c =
    fill_fits c.args.code.now c.args.inputs.now c.args.takes.now c.loop-i.i c.args.states.now c.loop-i.states c.requires.fits c.loop-i.invariant
    (omega (arith, c.requires.fits.many, c.programs-i-end.ensures.count))
