-- Why the threads of a run leave nothing, from why a part of it does.
use Rattle.node_reports.specs.declared.run_fault.RunFault.{RunFault}
use Rattle.node_reports.specs.declared.run_fault.RunFault.TheVariants.{Memory, Spawn, BookDisagrees, Stranger, Doubled, Keeper}
use Rattle.node_reports.specs.RunFaults.{IsRaiseFault, IsStartFault, IsThreadsFault}

pub raise_fault : (f : RunFault) → IsRaiseFault f → IsThreadsFault f
raise_fault Memory is = tt
raise_fault Spawn is = tt
raise_fault BookDisagrees is = is
raise_fault Stranger is = is
raise_fault Doubled is = is
raise_fault Keeper is = tt

pub start_fault : (f : RunFault) → IsStartFault f → IsThreadsFault f
start_fault Memory is = tt
start_fault Spawn is = tt
start_fault BookDisagrees is = is
start_fault Stranger is = is
start_fault Doubled is = is
start_fault Keeper is = tt
