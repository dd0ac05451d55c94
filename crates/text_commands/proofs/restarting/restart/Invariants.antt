use Rattle.std.proofs.Common.{◌≡◌, List, take}
use Rattle.declared_names.specs.declared.declarations.Declaration.{Declaration}
use Rattle.scan_steps.specs.Slots.{AreSlotsOf}
use Rattle.text_commands.specs.Restarts.{restarted}
use Rattle.text_commands.proofs.restarting.restart.Given as goal

abbrev pub invariant-loop-place : goal.invariant-loop-place
invariant-loop-place l = (l.fresh ≡ record l.initial.fresh { slots = restarted (take l.place-index l.kept) l.initial.fresh.slots l.state.slots })
    × ((ds : List Declaration) → AreSlotsOf ds l.initial.fresh.slots → AreSlotsOf ds l.fresh.slots)
