-- What the journal made next is by the code of the entry's task, if it is of that task.
use Rattle.std.proofs.Common.{◌≡◌, subst}
use Rattle.std.proofs.lemmas.List.Elements.{All-head}
use Rattle.evaluation.specs.Meaning.{Evaluated}
use Rattle.node_reports.specs.Steps.Comparing.{AreByCodeOf}
use Rattle.node_reports.proofs.collector.agreement.behind.Goals as goal

pub are_equal-requires : goal.are_equal-requires
are_equal-requires c = record {
  one_code = All-head (λ (x : Evaluated). x.name.task ≡ c.args.entry.now.name.task → x.code ≡ c.args.entry.now.code) _ _
      (subst (AreByCodeOf c.args.entry.now) c.in-Some.ensures c.requires);
}
