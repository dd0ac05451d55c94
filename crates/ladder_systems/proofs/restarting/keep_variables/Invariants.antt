use Rattle.std.proofs.Common.{◌≡◌, ℕ, Bool, List, drop}
use Rattle.declared_names.specs.declared.declarations.Declaration.{Declaration}
use Rattle.scan_gates.specs.Encoded.{slots_at}
use Rattle.text_commands.specs.Restarts.{restarted}
use Rattle.ladder_systems.specs.Steps.States.{AreOf}
use Rattle.ladder_systems.proofs.restarting.keep_variables.Given as goal

abbrev pub invariant-loop-place : goal.invariant-loop-place
invariant-loop-place l = record {
  slots : (v : ℕ → Bool)
      → restarted (drop l.place-index l.kept) (slots_at v l.fresh) (slots_at v l.slots) ≡ restarted l.kept (slots_at v l.initial.fresh) (slots_at v l.slots);
  of : (ds : List Declaration) → AreOf ds l.slots → AreOf ds l.initial.fresh → AreOf ds l.fresh;
}
