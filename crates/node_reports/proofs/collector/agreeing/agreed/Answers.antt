-- What lawful journals made is by the plant's codes.
use Rattle.std.proofs.Common.{◌↔◌, IsTrue, List, sym, subst}
use Rattle.node_reports.specs.declared.journal.Journal.{Journal}
use Rattle.node_reports.specs.Journals.{firsts_of}
use Rattle.node_reports.specs.Reports.{Agree}
use Rattle.node_reports.specs.Steps.Comparing.{MadeOfPlant}
use Rattle.node_reports.proofs.ByPlant.{made_of_plant}
use Rattle.node_reports.proofs.collector.agreeing.agreed.Goals as goal

pub agree-agree-requires-clause-journals : goal.agree-agree-requires-clause-journals
agree-agree-requires-clause-journals c =
    subst (MadeOfPlant c.args.plant.now) (sym c.as_slice.ensures.value) (made_of_plant c.args.plant.now (firsts_of c.args.journals.items) c.args.max_number c.args.journals.items c.requires.lawful)

pub agreed_if-requires-clause-told : goal.agreed_if-requires-clause-told
agreed_if-requires-clause-told c = subst (λ (js : List Journal). IsTrue c.agree-agree.result ↔ Agree c.args.plant.now c.args.book js) c.as_slice.ensures.value c.agree-agree.ensures
