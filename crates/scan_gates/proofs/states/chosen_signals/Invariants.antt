use Rattle.std.proofs.Common.{◌≡◌, cond, length, take}
use Rattle.gates.specs.Gates.{IsBuilt}
use Rattle.gates.specs.Signals.{signal_value}
use Rattle.scan_gates.specs.Encoded.{bits_at}
use Rattle.scan_gates.proofs.states.chosen_signals.Given as goal

abbrev pub invariant-loop-place : goal.invariant-loop-place
invariant-loop-place l = record {
  long : length l.new.items ≡ l.place;
  built : IsBuilt l.fn.gates l.gates
      (λ v. bits_at v l.new.items ≡ cond (signal_value v l.condition) (bits_at v (take l.place l.first)) (bits_at v (take l.place l.second)));
}
