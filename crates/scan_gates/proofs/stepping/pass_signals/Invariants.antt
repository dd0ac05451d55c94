use Rattle.std.proofs.Common.{◌≡◌, ℕ, Bool, length, drop}
use Rattle.gates.specs.Gates.{Agrees}
use Rattle.scan_steps.specs.Steps.Passing.{Pass, ArePassed}
use Rattle.gate_words.specs.Values.{time_at}
use Rattle.scan_gates.specs.Encoded.{slots_at, pass_at}
use Rattle.scan_gates.proofs.stepping.pass_signals.Given as goal

abbrev pub invariant-loop-step : goal.invariant-loop-step
invariant-loop-step l = record {
  rows : length l.rows ≡ length l.initial.rows;
  memories : length l.memories ≡ length l.initial.memories;
  links : length l.links ≡ length l.initial.links;
  results : length l.results ≡ length l.initial.results;
  passed : (v : ℕ → Bool) → Agrees v l.gates → Agrees v l.fn.gates × ((final : Pass)
      → ArePassed l.boxes (slots_at v l.slots) (time_at v l.dt) (drop l.step-index l.steps) (pass_at v l.rows l.memories l.links l.results) final
      → ArePassed l.boxes (slots_at v l.slots) (time_at v l.dt) l.steps (pass_at v l.initial.rows l.initial.memories l.initial.links l.initial.results) final);
}
