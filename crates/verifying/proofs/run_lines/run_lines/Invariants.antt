use Rattle.std.proofs.Common.{string_bytes, take}
use Rattle.power_flow.specs.LadderValue.{Fits}
use Rattle.verifying.specs.Steps.Search.{moment_of}
use Rattle.verifying.specs.VerdictLines.{RunLines}
use Rattle.verifying.proofs.run_lines.run_lines.Given as goal

abbrev pub invariant-loop-row : goal.invariant-loop-row
invariant-loop-row l = record {
  fits : Fits l.setup.ladder l.state;
  run : RunLines l.setup (take l.row-index l.rows) (moment_of l.state) (string_bytes l.text);
}
