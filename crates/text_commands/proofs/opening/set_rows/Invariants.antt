use Rattle.std.proofs.Common.{◌≡◌, List, take}
use Rattle.declared_names.specs.declared.declarations.Declaration.{Declaration}
use Rattle.scan_steps.specs.Slots.{AreSlotsOf}
use Rattle.text_commands.specs.Series.{set_before}
use Rattle.text_commands.proofs.opening.set_rows.Given as goal

abbrev pub invariant-loop-row : goal.invariant-loop-row
invariant-loop-row l = (l.state ≡ record l.initial.state { slots = set_before (take l.row-index l.rows) l.k l.initial.state.slots })
    × ((ds : List Declaration) → AreSlotsOf ds l.initial.state.slots → AreSlotsOf ds l.state.slots)
