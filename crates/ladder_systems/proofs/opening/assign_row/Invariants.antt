use Rattle.std.proofs.Common.{◌≡◌, ℕ, Bool, List, All, drop}
use Rattle.declared_names.specs.declared.declarations.Declaration.{Declaration}
use Rattle.scan_gates.specs.Encoded.{bits_at, slots_at}
use Rattle.verifying.specs.Runs.{IsBoolAt, assigned, settings_of}
use Rattle.ladder_systems.specs.Steps.States.{AreOf}
use Rattle.ladder_systems.proofs.opening.assign_row.Given as goal

abbrev pub invariant-loop-digit : goal.invariant-loop-digit
invariant-loop-digit l = record {
  slots : (v : ℕ → Bool)
      → assigned (settings_of (drop l.digit l.free) (drop l.digit (bits_at v l.row))) (slots_at v l.slots)
      ≡ assigned (settings_of l.free (bits_at v l.row)) (slots_at v l.initial.slots);
  of : (ds : List Declaration) → All (IsBoolAt ds) l.free → AreOf ds l.initial.slots → AreOf ds l.slots;
}
