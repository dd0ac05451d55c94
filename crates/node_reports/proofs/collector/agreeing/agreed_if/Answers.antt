-- Where they agree, the clauses hold; else they don't agree.
use Rattle.std.proofs.Common.{All, sym, ◌∙◌, subst}
use Rattle.std.proofs.lemmas.Bool.{false≢true}
use Rattle.node_reports.specs.Reports.{IsFittingBook, AreJournalsOf, AreInBook, RunsAgain, CanBeMadeAgain, Agree}
use Rattle.node_reports.proofs.Remaking.{HasIncarnation}
use Rattle.node_reports.proofs.Reporting.{fitting_book, journals_of, again, made_again}
use Rattle.node_reports.proofs.collector.agreeing.agreed_if.Goals as goal

pub returns-clause-fitting : goal.returns-clause-fitting
returns-clause-fitting c =
    let agree : Agree c.args.plant.now c.args.book c.args.journals.items = c.requires.told.0 c.if-not-agree.false in
    subst (IsFittingBook c.args.book) (sym c.of.ensures) (fitting_book c.args.plant.now c.args.book c.args.journals.items c.entries.ensures.fit agree)

pub returns-clause-journals : goal.returns-clause-journals
returns-clause-journals c =
    let agree : Agree c.args.plant.now c.args.book c.args.journals.items = c.requires.told.0 c.if-not-agree.false in
    subst (AreJournalsOf c.args.plant.now c.args.max_number) (sym c.of.ensures) (journals_of c.args.plant.now c.args.max_number c.args.book c.args.journals.items agree c.requires.lawful)

pub returns-clause-made : goal.returns-clause-made
returns-clause-made c =
    let agree : Agree c.args.plant.now c.args.book c.args.journals.items = c.requires.told.0 c.if-not-agree.false in
    subst (AreInBook c.args.book.entries) (sym c.of.ensures) agree.in_book

pub returns-clause-again : goal.returns-clause-again
returns-clause-again c =
    let agree : Agree c.args.plant.now c.args.book c.args.journals.items = c.requires.told.0 c.if-not-agree.false in
    let bounds : All HasIncarnation c.args.book.entries = subst (All HasIncarnation) c.entries.ensures.value c.all_incarnations_fit.ensures in
    subst (RunsAgain c.args.plant.now c.args.max_number c.args.book) (sym c.of.ensures)
    (again c.args.plant.now c.args.max_number c.args.book c.args.journals.items c.resources-resources.ensures.sound c.entries.ensures.fit agree c.requires.lawful bounds)

pub returns-clause-made_again : goal.returns-clause-made_again
returns-clause-made_again c =
    let agree : Agree c.args.plant.now c.args.book c.args.journals.items = c.requires.told.0 c.if-not-agree.false in
    let bounds : All HasIncarnation c.args.book.entries = subst (All HasIncarnation) c.entries.ensures.value c.all_incarnations_fit.ensures in
    subst (CanBeMadeAgain c.args.plant.now c.args.max_number c.args.book) (sym c.of.ensures)
    (made_again c.args.plant.now c.args.max_number c.args.book c.args.journals.items c.entries.ensures.fit agree c.requires.lawful bounds)

pub returns-clause-agree : goal.returns-clause-agree
returns-clause-agree c = c.requires.told.0 c.if-not-agree.false

pub returns-then-not-agree-clause-fault : goal.returns-then-not-agree-clause-fault
returns-then-not-agree-clause-fault c = λ agree. false≢true (sym c.if-not-agree.true ∙ c.requires.told.1 agree)
