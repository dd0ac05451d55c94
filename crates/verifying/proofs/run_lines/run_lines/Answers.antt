use Rattle.std.proofs.Common.{string_bytes, ◌∙◌, ap, subst, List, Bool}
use Rattle.power_flow.specs.LadderValue.{LadderValue}
use Rattle.text_commands.specs.Lines.{line_of}
use Rattle.verifying.specs.Runs.{ScansWith}
use Rattle.verifying.specs.Steps.Search.{moment_of}
use Rattle.verifying.proofs.Telling.{lines_begun, lines_more}
use Rattle.verifying.proofs.run_lines.run_lines.Goals as goal

pub loop-row-init : goal.loop-row-init
loop-row-init c = record {
  fits = c.in_ok-state.ensures.fits;
  run = lines_begun c.args.setup.now (moment_of c.in_ok-state.state) (string_bytes c.new-text.result) c.in_ok-state.ensures.first c.new-text.ensures.bytes;
}

pub loop-row-preserved : goal.loop-row-preserved
loop-row-preserved c = record {
  fits = c.in_ok-step.ensures.fits;
  run = lines_more c.args.setup.now c.args.rows.now c.loop-row.row-index c.row-item.result (moment_of c.loop-row.state) (moment_of c.step.new.state) (string_bytes c.loop-row.text) c.as_str.result.now (string_bytes c.push_str.new.self)
      c.loop-row-test.true c.loop-row.invariant.run
      (subst (λ (row : List Bool). ScansWith c.args.setup.now row (moment_of c.loop-row.state) (moment_of c.step.new.state)) c.row-item.is c.in_ok-step.ensures.scans)
      (c.as_str.ensures.value ∙ c.in_ok-line.ensures ∙ ap (λ ds. line_of ds c.step.new.state.slots) c.declarations.ensures.list ∙ ap (λ (l : LadderValue). line_of l.declarations c.step.new.state.slots) c.ladder.ensures)
      c.in_ok-push_str.ensures.bytes;
}
