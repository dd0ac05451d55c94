use Rattle.std.proofs.Common.{◌≡◌, ◌∙◌, ap, sym, refl, arith, length, Some, slice_get}
use Rattle.std.proofs.lemmas.Option.{slice_get_read, slice_get_within}
use Rattle.task_codes.specs.CodeValue.{CodeValue, ProgramValue}
use Rattle.task_codes.proofs.task_code.TaskCode.output_name.Goals as goal

pub returns-in_err-program : goal.returns-in_err-program
returns-in_err-program c =
    let outputs = c.deref.result.now in
    let output = c.in_ok-output.output.now in
    let got = c.in_ok-output.ensures.lookup in
    let at : slice_get outputs c.args.i ≡ Some output = slice_get_read outputs (length outputs) c.args.i output refl got.3.0 got.1 in
    let is = c.self.invariant.each_output c.args.i output (rw c.deref.ensures.value at at) in
    let within = slice_get_within c.self.inside.programs.items output.program is.program is.run in
    let past = c.in_err-program.ensures.lookup.3 in
    let same = ap length c.deref-2.ensures.value in
    absurd (omega arith)

pub returns-in_err-name : goal.returns-in_err-name
returns-in_err-name c =
    let outputs = c.deref.result.now in
    let programs = c.deref-2.result.now in
    let output = c.in_ok-output.output.now in
    let program = c.in_ok-program.program.now in
    let got = c.in_ok-output.ensures.lookup in
    let had = c.in_ok-program.ensures.lookup in
    let at : slice_get outputs c.args.i ≡ Some output = slice_get_read outputs (length outputs) c.args.i output refl got.3.0 got.1 in
    let at' : slice_get programs output.program ≡ Some program = slice_get_read programs (length programs) output.program program refl had.3.0 had.1 in
    let is = c.self.invariant.each_output c.args.i output (rw c.deref.ensures.value at at) in
    let run = is.run in
    let listed = rw c.deref-2.ensures.value at at' in
    let same : is.program ≡ program = cc in
    let none = rw (c.declarations.ensures.list, c.ladder.ensures) at c.in_err-name.ensures in
    let some : slice_get program.ladder.declarations output.place ≡ Some is.variable = ap (λ (p : ProgramValue). slice_get p.ladder.declarations output.place) (sym same) ∙ is.declared in
    absurd cc

pub returns : goal.returns
returns c =
    let outputs = c.deref.result.now in
    let programs = c.deref-2.result.now in
    let output = c.in_ok-output.output.now in
    let program = c.in_ok-program.program.now in
    let got = c.in_ok-output.ensures.lookup in
    let had = c.in_ok-program.ensures.lookup in
    let at : slice_get outputs c.args.i ≡ Some output = slice_get_read outputs (length outputs) c.args.i output refl got.3.0 got.1 in
    let at' : slice_get programs output.program ≡ Some program = slice_get_read programs (length programs) output.program program refl had.3.0 had.1 in
    record {
      output = output;
      program = program;
      variable = record { name = c.in_ok-name.name.now; declared = c.in_ok-name.field-0-1 };
      placed = ap (λ (v : CodeValue). slice_get v.outputs c.args.i) (sym c.self.view_is) ∙ rw c.deref.ensures.value at at;
      run = ap (λ (v : CodeValue). slice_get v.programs output.program) (sym c.self.view_is) ∙ rw c.deref-2.ensures.value at at';
      declared = rw (c.declarations.ensures.list, c.ladder.ensures) at c.in_ok-name.ensures;
      instance_is = c.name.ensures;
      name_is = refl;
    }
