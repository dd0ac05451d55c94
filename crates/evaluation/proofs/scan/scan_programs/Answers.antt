use Rattle.std.proofs.Common.{◌≡◌, ◌<◌, ◌+◌, List, Some, length, slice_get, get_or, sym, arith, subst}
use Rattle.std.proofs.lemmas.Option.{slice_get-get_or}
use Rattle.power_flow.specs.StateValue.{StateValue}
use Rattle.power_flow.specs.LadderValue.{LadderValue, Fits}
use Rattle.evaluation.specs.Meaning.{IsScanned}
use Rattle.evaluation.proofs.MappedLists.{InPlace}
use Rattle.evaluation.proofs.ScannedPrograms.{ScansProgram, next_scan_fits, scan_more, scan_all, scan_fits, program_of, has_program}
use Rattle.evaluation.proofs.scan.scan_programs.Goals as goal
use Rattle.evaluation.proofs.scan.scan_programs.Goals.{in-Some, in_default}

pub scan_program-requires : goal.scan_program-requires
scan_program-requires c =
    let code = c.args.code.now in
    let i = c.loop-i.i in
    let states = c.loop-i.states in
    let s = get_or states i c.index-states-i.result in
    let in_states : i < length states = omega (arith, c.loop-i.invariant.many, c.requires.many) in
    let is : slice_get states i ≡ Some s = slice_get-get_or states i c.index-states-i.result in_states in
    let p = program_of code i c.in-Some.ladder.now c.in-Some.ensures in
    subst (λ (l : LadderValue). Fits l s) p.2 (next_scan_fits code c.args.dt i p.0 c.args.states.now states s c.requires c.loop-i.invariant is p.1)

pub loop-i-preserved : goal.loop-i-preserved
loop-i-preserved c =
    let code = c.args.code.now in
    let i = c.loop-i.i in
    let states = c.loop-i.states in
    let dt = c.args.dt in
    elim c.match-ladder.branch [
      | in-Some w ↦
          (let s = get_or states i w.index-states-i.result in
          let t = w.scan_program.new.state in
          let in_states : i < length states = omega (arith, c.loop-i.invariant.many, c.requires.many) in
          let is : slice_get states i ≡ Some s = slice_get-get_or states i w.index-states-i.result in_states in
          let p = program_of code i w.in-Some.ladder.now w.in-Some.ensures in
          subst (λ (x : List StateValue). InPlace (ScansProgram code dt) (i + 1) c.args.states.now x) (sym w.states-is)
          (scan_more code dt i p.0 c.args.states.now states s t c.loop-i.invariant is p.1
          (subst (λ (l : LadderValue). IsScanned l dt s t) (sym p.2) w.scan_program.ensures.scanned)
          (subst (λ (l : LadderValue). Fits l t) (sym p.2) w.scan_program.ensures.fits)))
      | in_default w ↦ absurd (has_program code i (omega arith) w.in_default.ensures)
    ]

pub returns-clause-scanned : goal.returns-clause-scanned
returns-clause-scanned c =
    scan_all c.args.code.now c.args.dt c.loop-i.i c.args.states.now c.loop-i.states c.requires c.loop-i.invariant (omega (arith, c.requires.many, c.programs-i-end.ensures.count))

pub returns-clause-fits : goal.returns-clause-fits
returns-clause-fits c =
    scan_fits c.args.code.now c.args.dt c.loop-i.i c.args.states.now c.loop-i.states c.requires c.loop-i.invariant (omega (arith, c.requires.many, c.programs-i-end.ensures.count))
