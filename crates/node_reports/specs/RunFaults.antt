-- Why threads leave nothing of which a report could be collected.
use Rattle.node_reports.specs.declared.run_fault.RunFault.{RunFault}
use Rattle.node_reports.specs.declared.run_fault.RunFault.TheVariants.{Memory, Spawn, BookDisagrees, Stranger, Doubled, Keeper}

-- memory is wanting, or a keeper doesn't raise its incarnation or tell what it kept
abbrev pub IsRaiseFault : RunFault → Type 0
IsRaiseFault Memory = Unit {0}
IsRaiseFault Spawn = ⊥
IsRaiseFault BookDisagrees = ⊥
IsRaiseFault Stranger = ⊥
IsRaiseFault Doubled = ⊥
IsRaiseFault Keeper = Unit {0}

-- memory is wanting, or a thread isn't started
abbrev pub IsStartFault : RunFault → Type 0
IsStartFault Memory = Unit {0}
IsStartFault Spawn = Unit {0}
IsStartFault BookDisagrees = ⊥
IsStartFault Stranger = ⊥
IsStartFault Doubled = ⊥
IsStartFault Keeper = ⊥

-- one of these: keepers are asked, then threads are started
abbrev pub IsThreadsFault : RunFault → Type 0
IsThreadsFault Memory = Unit {0}
IsThreadsFault Spawn = Unit {0}
IsThreadsFault BookDisagrees = ⊥
IsThreadsFault Stranger = ⊥
IsThreadsFault Doubled = ⊥
IsThreadsFault Keeper = Unit {0}
