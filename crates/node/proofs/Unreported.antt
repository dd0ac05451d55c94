-- Why a run gives no report, from why a part of it gives none.
use Rattle.std.proofs.Common.{◌≡◌, ℕ, List, All, reverse, subst}
use Rattle.plant.specs.PlantValue.{PlantValue}
use Rattle.book.specs.Book.{BookValue}
use Rattle.book.specs.Fits.{AllFit}
use Rattle.node_reports.specs.declared.command.Command.{Command}
use Rattle.node_reports.specs.declared.journal.Journal.{Journal}
use Rattle.node_reports.specs.declared.node_fault.NodeFault.{NodeFault}
use Rattle.node_reports.specs.declared.run_fault.RunFault.{RunFault}
use Rattle.node_reports.specs.declared.run_fault.RunFault.TheVariants.{Memory, Spawn, BookDisagrees, Stranger, Doubled, Keeper}
use Rattle.node_reports.specs.Journals.{firsts_of, IsLawful}
use Rattle.node_reports.specs.RunFaults.{IsThreadsFault}
use Rattle.node_reports.specs.Reports.{IsCollectFault, IsRunFault}

pub threads_fault : (plant : PlantValue) (max_number : ℕ) (commands : List Command) (f : RunFault) → IsThreadsFault f → IsRunFault plant max_number commands f
threads_fault plant max_number commands Memory is = tt
threads_fault plant max_number commands Spawn is = tt
threads_fault plant max_number commands BookDisagrees is = absurd is
threads_fault plant max_number commands Stranger is = absurd is
threads_fault plant max_number commands Doubled is = absurd is
threads_fault plant max_number commands Keeper is = tt

pub collect_fault : (plant : PlantValue) (max_number : ℕ) (commands : List Command) (book : BookValue) (journals : List Journal) (noted : List NodeFault) (f : RunFault)
    → AllFit book.first (reverse book.entries) → All (IsLawful plant (firsts_of journals) max_number) journals → IsCollectFault plant commands book journals noted f → IsRunFault plant max_number commands f
collect_fault plant max_number commands book journals noted Memory fit lawful found = tt
collect_fault plant max_number commands book journals noted Spawn fit lawful found = absurd found
collect_fault plant max_number commands book journals noted BookDisagrees fit lawful found = record { book = book; journals = journals; noted = noted; fit = fit; lawful = lawful; found = found }
collect_fault plant max_number commands book journals noted Stranger fit lawful found = record { book = book; journals = journals; noted = noted; fit = fit; lawful = lawful; found = found }
collect_fault plant max_number commands book journals noted Doubled fit lawful found = record { book = book; journals = journals; noted = noted; fit = fit; lawful = lawful; found = found }
collect_fault plant max_number commands book journals noted Keeper fit lawful found = absurd found

-- so it is of what the collector answers, for the plant that it is handed
pub collect_refused : (plant found : PlantValue) (max_number : ℕ) (commands : List Command) (book : BookValue) (journals : List Journal) (noted : List NodeFault) (f : RunFault) → found ≡ plant
    → AllFit book.first (reverse book.entries) → All (IsLawful plant (firsts_of journals) max_number) journals → IsCollectFault found commands book journals noted f → IsRunFault plant max_number commands f
collect_refused plant found max_number commands book journals noted f same fit lawful fault =
    collect_fault plant max_number commands book journals noted f fit lawful (subst (λ (p : PlantValue). IsCollectFault p commands book journals noted f) same fault)
