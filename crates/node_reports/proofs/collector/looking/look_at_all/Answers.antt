-- The incarnations are those of the journals.
use Rattle.std.proofs.Common.{List, ℕ, IfOk, subst, ◌∙◌}
use Rattle.node_reports.specs.Steps.Looking.{AreLooked}
use Rattle.node_reports.proofs.collector.looking.look_at_all.Goals as goal

pub returns : goal.returns
returns g c =
    subst (λ (all : List (List ℕ)). IfOk c.look_beside.result (λ looked. AreLooked c.args.commands.now c.args.entries.now all c.args.journals.now looked.items))
    (c.as_slice.ensures.value ∙ c.in_ok-incarnations.ensures) c.look_beside.ensures
