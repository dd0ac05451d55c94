-- Only the task's row changes.
use Rattle.std.proofs.Common.{◌≡◌, ◌∙◌, ◌++◌, ◌∷◌, [], Some, None, ap, sym, subst}
use Rattle.std.specs.List.{position}
use Rattle.std.proofs.lemmas.List.Quantifiers.{position-Some}
use Rattle.std.proofs.lemmas.Result.{on_ok_weaker}
use Rattle.book.specs.declared.book.ledger.task_places.TaskPlaces.{TaskPlaces}
use Rattle.book.specs.Steps.Ledger.{is_row}
use Rattle.book.proofs.Ledgers.{places-more, places-kept, places-new, position-none, on-err}
use Rattle.book.proofs.book.ledger.places.add_place.Goals as goal

pub returns-in_err-push-in-Some-clause-err : goal.returns-in_err-push-in-Some-clause-err
returns-in_err-push-in-Some-clause-err c =
    let at : position (is_row c.args.task) c.args.rows.now.items ≡ Some c.in-Some.i = subst (λ xs. position (is_row c.args.task) xs ≡ Some c.in-Some.i) c.as_slice.ensures.value (sym c.row_of.ensures ∙ c.in-Some.is) in
    let found = position-Some (is_row c.args.task) c.args.rows.now.items c.in-Some.i c.index_mut-row.result.now at in
    on-err c.from_residual.result _ (places-kept c.args.rows.now.items c.in-Some.i c.index_mut-row.result.now (record { task = c.index_mut-row.result.now.task; places = c.push.new.self }) found.0
    (ap (λ (r : TaskPlaces). r.task) c.index_mut-row.ensures.value) (c.in_err-push-in-Some.ensures.items ∙ ap (λ (r : TaskPlaces). r.places.items) c.index_mut-row.ensures.value))

pub returns-in-None-clause-ok : goal.returns-in-None-clause-ok
returns-in-None-clause-ok c =
    let at : position (is_row c.args.task) c.args.rows.now.items ≡ None = subst (λ xs. position (is_row c.args.task) xs ≡ None) c.as_slice.ensures.value (sym c.row_of.ensures ∙ c.in-None.is) in
    on_ok_weaker c.add_row.result (λ w. λ t. rw w.3 (places-new c.args.rows.now.items w.0 c.args.task c.args.place (position-none (is_row c.args.task) c.args.rows.now.items at) w.1 w.2 t)) c.add_row.ensures.ok

pub returns-in_ok-push-in-Some-clause-ok : goal.returns-in_ok-push-in-Some-clause-ok
returns-in_ok-push-in-Some-clause-ok c =
    let at : position (is_row c.args.task) c.args.rows.now.items ≡ Some c.in-Some.i = subst (λ xs. position (is_row c.args.task) xs ≡ Some c.in-Some.i) c.as_slice.ensures.value (sym c.row_of.ensures ∙ c.in-Some.is) in
    let found = position-Some (is_row c.args.task) c.args.rows.now.items c.in-Some.i c.index_mut-row.result.now at in
    places-more c.args.rows.now.items c.in-Some.i c.index_mut-row.result.now (record { task = c.index_mut-row.result.now.task; places = c.push.new.self }) c.args.task c.args.place found.0 found.1 found.2
    (ap (λ (r : TaskPlaces). r.task) c.index_mut-row.ensures.value) (c.in_ok-push-in-Some.ensures.items ∙ ap (λ (r : TaskPlaces). r.places.items ++ c.args.place ∷ []) c.index_mut-row.ensures.value)
