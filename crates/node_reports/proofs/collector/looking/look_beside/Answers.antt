-- Each look is one at the journal of its place.
use Rattle.std.proofs.Common.{◌≡◌, ℕ, Some, slice_get, length}
use Rattle.node_reports.specs.declared.journal.Journal.{Journal}
use Rattle.node_reports.specs.declared.collector.looked.Looked.{Looked}
use Rattle.node_reports.specs.Steps.Looking.{IsLooked}
use Rattle.node_reports.proofs.Looking.{each_of, long_as, looks_of}
use Rattle.node_reports.proofs.collector.looking.look_beside.Goals as goal

pub returns : goal.returns
returns g c =
    looks_of c.args.commands.now c.args.entries.now c.args.all.now c.args.journals.now (λ v. v.items) c.map_indices.result (long_as (length c.args.journals.now) c.map_indices.result c.map_indices.ensures.len)
    (each_of _ _ (length c.args.journals.now) (λ (i : ℕ) (l : Looked). (j : Journal) → slice_get c.args.journals.now i ≡ Some j → IsLooked c.args.commands.now c.args.entries.now c.args.all.now j l)
    (λ v. v.items) c.map_indices.result c.map_indices.ensures.each (λ i l post. post))
