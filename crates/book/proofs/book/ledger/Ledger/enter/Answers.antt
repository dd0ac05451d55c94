-- The tables of one entry more.
use Rattle.std.proofs.Common.{arith, ◌∙◌, ap, map, length}
use Rattle.std.proofs.lemmas.List.{length-map}
use Rattle.book.specs.Steps.Ledger.{noted}
use Rattle.book.proofs.Ledgered.{entered, written-back}
use Rattle.book.proofs.book.ledger.Ledger.enter.Goals as goal

pub returns-clause-ok : goal.returns-clause-ok
returns-clause-ok c = λ first older at tables.
    let rows = c.note_takes.ensures ∙ ap (λ rs. map (noted c.name-name.result.task.resource c.takes-2.result.now c.args.index) rs) c.as_mut_slice.ensures.value in
    entered first older c.args.self.now.present.items c.raise_present.new.present.items c.args.self.now.newest.items c.args.self.now.tasks.items c.add_place.new.rows.items c.args.self.now.takers.items c.make_rows.new.rows.items _ c.args.evaluation.now c.name-name.result
    c.takes.result.now c.takes-2.result.now c.args.index c.name-name.ensures c.takes.ensures.value c.takes-2.ensures.value at tables c.raise_present.ensures c.in_ok-add_place.ensures.ok c.in_ok-make_rows.ensures.same c.in_ok-make_rows.ensures.made
    (written-back c.make_rows.new.rows.items c.note_takes.new.rows c.make_rows.new.rows.len (omega (arith, c.make_rows.new.rows.ok.0))
    (ap length c.note_takes.ensures ∙ length-map c.as_mut_slice.result.now (noted c.name-name.result.task.resource c.takes-2.result.now c.args.index) ∙ ap length c.as_mut_slice.ensures.value) ∙ rows)
