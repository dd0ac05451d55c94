-- What the looks found holds of all journals, and so of the entries.
use Rattle.std.proofs.Common.{◌↔◌, IsTrue, List, All, map, sym, subst}
use Rattle.evaluation.specs.Meaning.{Evaluated}
use Rattle.node_reports.specs.declared.collector.looked.Looked.{Looked}
use Rattle.node_reports.specs.Reports.{incarnations_of}
use Rattle.node_reports.specs.Steps.Comparing.{MadeByCodeOf}
use Rattle.node_reports.specs.Steps.Looking.{AreLooked}
use Rattle.node_reports.proofs.ByPlant.{by_code}
use Rattle.node_reports.proofs.Looking.{in_book_tells, steps_tell, tickets_tell, honest_tells, tells_on}
use Rattle.node_reports.proofs.Reporting.{have_journals, begin_of}
use Rattle.node_reports.proofs.collector.looking.find_out.Goals as goal

pub look_at_all-requires-clause-by_code : goal.look_at_all-requires-clause-by_code
look_at_all-requires-clause-by_code g c _ _ =
    subst (All (MadeByCodeOf c.args.journals.now)) (sym c.entries.ensures.value)
    (by_code c.args.plant.now c.args.journals.now c.args.book.now.entries c.requires.journals c.requires.book)

pub agree_if-requires : goal.agree_if-requires
agree_if-requires g c =
    let looked = subst (λ (es : List Evaluated). AreLooked c.args.commands.now es (map incarnations_of c.args.journals.now) c.args.journals.now c.in_ok-looked.looked.items) c.entries.ensures.value c.in_ok-looked.ensures in
    tells_on (subst (λ (ls : List Looked). IsTrue c.all_made-are_made.result ↔ All (λ (l : Looked). IsTrue l.is_made) ls) c.as_slice.ensures.value c.all_made-are_made.ensures)
    (in_book_tells c.args.commands.now c.args.book.now.entries (map incarnations_of c.args.journals.now) c.args.journals.now c.in_ok-looked.looked.items looked)

pub returns : goal.returns
returns g c =
    let commands = c.args.commands.now in
    let journals = c.args.journals.now in
    let book = c.args.book.now in
    let all = map incarnations_of journals in
    let ls = c.in_ok-looked.looked.items in
    let looked = subst (λ (es : List Evaluated). AreLooked commands es all journals ls) c.entries.ensures.value c.in_ok-looked.ensures in
    record {
      agree_is = c.agree_if.ensures;
      honest_is = λ agree.
          let begin = begin_of c.args.plant.now book journals agree in
          let have = have_journals book.first book.entries journals c.entries.ensures.fit begin.many in
          tells_on (subst (λ (ls : List Looked). IsTrue c.all_honest-are_honest.result ↔ All (λ (l : Looked). IsTrue l.is_honest) ls) c.as_slice-2.ensures.value c.all_honest-are_honest.ensures)
          (tells_on (steps_tell commands book.entries all journals ls looked) (honest_tells c.args.plant.now commands book journals have agree));
      rising_is =
          tells_on (subst (λ (ls : List Looked). IsTrue c.all_rising-are_rising.result ↔ All (λ (l : Looked). IsTrue l.is_rising) ls) c.as_slice-3.ensures.value c.all_rising-are_rising.ensures)
          (tickets_tell commands book.entries all journals ls looked);
    }
