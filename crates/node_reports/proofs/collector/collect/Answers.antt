-- Where the checks pass, the clauses hold; where one doesn't, its fault is told.
use Rattle.std.proofs.Common.{◌≡◌, inl, Bool, true, false, not, IsTrue, List, ℕ, refl, ap, sym, ◌∙◌, subst}
use Rattle.std.proofs.lemmas.Bool.{false≢true}
use Rattle.lists.proofs.Results.{kept_fault}
use Rattle.evaluation.specs.Meaning.{Evaluated}
use Rattle.book.specs.Book.{BookValue}
use Rattle.node_reports.specs.declared.journal.Journal.{Journal}
use Rattle.node_reports.specs.Journals.{firsts_of}
use Rattle.node_reports.specs.Reports.{AreCommanded, AreAnswers, AreTold, IsCollectFault, unanswered_of}
use Rattle.node_reports.specs.Steps.Collecting.{IsToldFault}
use Rattle.node_reports.specs.Steps.Comparing.{MadeOfPlant}
use Rattle.node_reports.specs.Steps.Looking.{IsFound}
use Rattle.node_reports.proofs.ByPlant.{made_of_plant}
use Rattle.node_reports.proofs.Reporting.{agree_fault, told_fault}
use Rattle.node_reports.proofs.collector.collect.Goals as goal

-- what a test of the opposite tells
is_yes : (b : Bool) → not b ≡ false → IsTrue b
is_yes true e = refl
is_yes false e = absurd (false≢true (sym e))

is_no : (b : Bool) → not b ≡ true → IsTrue b → ⊥
is_no true e told = false≢true e
is_no false e told = false≢true told

pub find_out-requires-clause-journals : goal.find_out-requires-clause-journals
find_out-requires-clause-journals g c _ _ =
    subst (MadeOfPlant c.args.plant.now) (sym c.as_slice.ensures.value) (made_of_plant c.args.plant.now (firsts_of c.args.journals.items) c.args.max_number c.args.journals.items c.requires.lawful)

pub agreed_if-requires-clause-told : goal.agreed_if-requires-clause-told
agreed_if-requires-clause-told g c =
    (subst (λ (js : List Journal). IsFound c.args.plant.now c.args.commands.now c.args.book js c.in_ok-found.found) c.as_slice.ensures.value c.in_ok-found.ensures).agree_is

pub returns-in_err-book-clause-fault : goal.returns-in_err-book-clause-fault
returns-in_err-book-clause-fault g c =
    kept_fault c.in_err-book.field-0.0 (IsCollectFault c.args.plant.now c.args.commands.now c.args.book c.args.journals.items c.args.faults.items) _ c.from_residual-in_err-book.ensures.1
    (agree_fault c.args.plant.now c.args.commands.now c.args.book c.args.journals.items c.args.faults.items c.in_err-book.field-0.0 c.in_err-book.ensures.fault)

pub returns-clause-answers : goal.returns-clause-answers
returns-clause-answers g c =
    let commands = c.args.commands.now in
    let book = c.args.book in
    let journals = c.args.journals.items in
    let found = subst (λ (js : List Journal). IsFound c.args.plant.now commands book js c.in_ok-found.found) c.as_slice.ensures.value c.in_ok-found.ensures in
    let commanded : AreCommanded commands book.entries journals = (found.honest_is c.in_ok-book.ensures.agree).0 (is_yes c.in_ok-found.found.are_honest c.if-not-found.false) in
    let rising = found.rising_is.0 (is_yes c.in_ok-found.found.are_rising c.if-not-found-2.false) in
    let entries = ap (λ (b : BookValue). b.entries) c.in_ok-book.ensures.kept.0 in
    let answers : AreAnswers commands book.entries journals c.in_ok-unanswered.unanswered = record {
      commanded = commanded.evaluations;
      obedient = λ k d lt. record { restarts = commanded.restarts k d lt; rising = rising k d lt };
      heard = commanded.heard;
      unanswered_are = c.in_ok-unanswered.ensures.are ∙ ap (unanswered_of commands) (c.entries.ensures.value ∙ entries);
    } in
    subst (λ (js : List Journal). AreAnswers commands c.in_ok-book.field-0.book.entries js c.in_ok-unanswered.unanswered) (sym c.in_ok-book.ensures.kept.1)
    (subst (λ (es : List Evaluated). AreAnswers commands es journals c.in_ok-unanswered.unanswered) (sym entries) answers)

pub returns-then-not-found-clause-fault : goal.returns-then-not-found-clause-fault
returns-then-not-found-clause-fault g c =
    let found = subst (λ (js : List Journal). IsFound c.args.plant.now c.args.commands.now c.args.book js c.in_ok-found.found) c.as_slice.ensures.value c.in_ok-found.ensures in
    (c.in_ok-book.ensures.agree, inl (λ commanded. is_no c.in_ok-found.found.are_honest c.if-not-found.true ((found.honest_is c.in_ok-book.ensures.agree).1 commanded)))

pub returns-in_err-node_faults-clause-fault : goal.returns-in_err-node_faults-clause-fault
returns-in_err-node_faults-clause-fault g c =
    let plant = c.args.plant.now in
    let commands = c.args.commands.now in
    let journals = c.args.journals.items in
    let noted = c.args.faults.items in
    let fault = c.in_err-node_faults.field-0.0 in
    let entries = c.entries.ensures.value ∙ ap (λ (b : BookValue). b.entries) c.in_ok-book.ensures.kept.0 in
    let unanswered_is : c.as_slice-3.result.now ≡ unanswered_of commands c.args.book.entries = c.as_slice-3.ensures ∙ c.in_ok-unanswered.ensures.are ∙ ap (unanswered_of commands) entries in
    let of_unanswered : IsToldFault plant commands c.as_slice-2.result.now (unanswered_of commands c.args.book.entries) noted fault =
    subst (λ (us : List ℕ). IsToldFault plant commands c.as_slice-2.result.now us noted fault) unanswered_is c.in_err-node_faults.ensures.fault in
    let of_journals : IsToldFault plant commands journals (unanswered_of commands c.args.book.entries) noted fault =
    subst (λ (js : List Journal). IsToldFault plant commands js (unanswered_of commands c.args.book.entries) noted fault) (c.as_slice-2.ensures ∙ c.in_ok-book.ensures.kept.1) of_unanswered in
    kept_fault fault (IsCollectFault plant commands c.args.book journals noted) _ c.from_residual-in_err-node_faults.ensures.1 (told_fault plant commands c.args.book journals noted fault c.in_ok-book.ensures.agree of_journals)

pub returns-then-not-found-2-clause-fault : goal.returns-then-not-found-2-clause-fault
returns-then-not-found-2-clause-fault g c =
    let plant = c.args.plant.now in
    let commands = c.args.commands.now in
    let found = subst (λ (js : List Journal). IsFound plant commands c.args.book js c.in_ok-found.found) c.as_slice.ensures.value c.in_ok-found.ensures in
    let kept_book = ap (λ (b : BookValue). b.entries) c.in_ok-book.ensures.kept.0 in
    let kept_journals = c.in_ok-book.ensures.kept.1 in
    let unanswered_is : c.as_slice-3.result.now ≡ unanswered_of commands c.args.book.entries = c.as_slice-3.ensures ∙ c.in_ok-unanswered.ensures.are ∙ ap (unanswered_of commands) (c.entries.ensures.value ∙ kept_book) in
    let of_unanswered : AreTold plant commands c.as_slice-2.result.now (unanswered_of commands c.args.book.entries) c.in_ok-node_faults.node_faults =
    subst (λ (us : List ℕ). AreTold plant commands c.as_slice-2.result.now us c.in_ok-node_faults.node_faults) unanswered_is c.in_ok-node_faults.ensures.told in (
      c.in_ok-book.ensures.agree,
      (found.honest_is c.in_ok-book.ensures.agree).0 (is_yes c.in_ok-found.found.are_honest c.if-not-found.false),
      record {
        listed = c.in_ok-node_faults.node_faults;
        by_ticket = c.in_ok-node_faults.ensures.noted;
        holds = subst (λ (js : List Journal). AreTold plant commands js (unanswered_of commands c.args.book.entries) c.in_ok-node_faults.node_faults) (c.as_slice-2.ensures ∙ kept_journals) of_unanswered;
      },
      λ rising. is_no c.in_ok-found.found.are_rising c.if-not-found-2.true (found.rising_is.1 rising),
    )
