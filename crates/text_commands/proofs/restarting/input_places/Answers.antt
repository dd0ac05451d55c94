use Rattle.std.proofs.Common.{◌<◌, List, length, subst}
use Rattle.declared_names.specs.declared.declarations.Declaration.{Declaration}
use Rattle.text_commands.specs.Stores.{stored_places}
use Rattle.text_commands.proofs.StoredMarks.{one_more}
use Rattle.text_commands.proofs.restarting.input_places.Goals as goal

pub loop-place-preserved : goal.loop-place-preserved
loop-place-preserved c =
    let l = c.args.ladder.now in
    let within =
    subst (λ (ds : List Declaration). c.loop-place.place < length ds) c.declarations.ensures.list
    (subst (λ n. c.loop-place.place < n) c.len-place-end.ensures c.loop-place-test.true) in
    one_more (stored_places l.declarations l.networks) (length l.declarations) c.loop-place.place c.in_ok-marks.marks.items _ _ within c.in_ok-marks.ensures c.loop-place.invariant (rw c.deref.ensures.value at c.in_ok-push_unmarked.ensures)
