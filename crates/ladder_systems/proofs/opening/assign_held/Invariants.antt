use Rattle.std.proofs.Common.{◌≡◌, ℕ, Bool, List, All, drop}
use Rattle.declared_names.specs.declared.declarations.Declaration.{Declaration}
use Rattle.gates.specs.Gates.{Agrees}
use Rattle.scan_gates.specs.Encoded.{slots_at}
use Rattle.verifying.specs.Runs.{CanHold, assigned}
use Rattle.ladder_systems.specs.Steps.States.{AreOf}
use Rattle.ladder_systems.proofs.opening.assign_held.Given as goal

abbrev pub invariant-loop-setting : goal.invariant-loop-setting
invariant-loop-setting l = record {
  slots : (v : ℕ → Bool) → Agrees v l.gates
      → assigned (drop l.setting-index l.held) (slots_at v l.slots) ≡ assigned l.held (slots_at v l.initial.slots);
  of : (ds : List Declaration) → All (CanHold ds) l.held → AreOf ds l.initial.slots → AreOf ds l.slots;
}
