-- All that was made is by the codes of the entries' tasks.
use Rattle.std.proofs.Common.{◌↔◌, IsTrue, List, All, sym, subst}
use Rattle.evaluation.specs.Meaning.{Evaluated}
use Rattle.node_reports.specs.Reports.{AreInBook}
use Rattle.node_reports.specs.Steps.Comparing.{MadeByCodeOf}
use Rattle.node_reports.proofs.ByPlant.{by_code}
use Rattle.node_reports.proofs.collector.agreeing.agree.Goals as goal

pub all_made-are_made-requires : goal.all_made-are_made-requires
all_made-are_made-requires c =
    subst (All (MadeByCodeOf c.args.journals.now)) (sym c.entries.ensures.value)
    (by_code c.args.plant.now c.args.journals.now c.args.book.now.entries c.requires.journals c.requires.book)

pub agree_if-requires : goal.agree_if-requires
agree_if-requires c = subst (λ (entries : List Evaluated). IsTrue c.all_made-are_made.result ↔ AreInBook entries c.args.journals.now) c.entries.ensures.value c.all_made-are_made.ensures
