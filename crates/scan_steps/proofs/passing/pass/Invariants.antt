use Rattle.std.proofs.Common.{◌≡◌, length, drop}
use Rattle.scan_steps.specs.Steps.Passing.{Pass, pass_of, ArePassed}
use Rattle.scan_steps.proofs.passing.pass.Given as goal

abbrev pub invariant-loop-step : goal.invariant-loop-step
invariant-loop-step l = record {
  rows : length l.rows ≡ length l.initial.rows;
  memories : length l.memories ≡ length l.initial.memories;
  links : length l.links ≡ length l.initial.links;
  results : length l.results ≡ length l.initial.results;
  passed : (final : Pass) → ArePassed l.boxes l.slots l.dt (drop l.step-index l.steps) (pass_of l.rows l.memories l.links l.results) final
      → ArePassed l.boxes l.slots l.dt l.steps (pass_of l.initial.rows l.initial.memories l.initial.links l.initial.results) final;
}
