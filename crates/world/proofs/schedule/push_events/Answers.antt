-- The tables tell what the resource took last of each producer.
use Rattle.std.proofs.Common.{◌≡◌, ◌∙◌, Some, ap, sym, subst}
use Rattle.std.specs.Prelude.{slice_get}
use Rattle.std.proofs.lemmas.Option.{slice_get-get_or}
use Rattle.evaluation.specs.Meaning.{Evaluated}
use Rattle.world.specs.declared.schedule.tables.Seen.{Seen}
use Rattle.world.specs.Steps.Tables.{before, TellTakes, IsAt}
use Rattle.world.proofs.Schedules.Tables.{seen-inside, takes-told}
use Rattle.world.proofs.schedule.push_events.Goals as goal

pub push_deliveries-requires : goal.push_deliveries-requires
push_deliveries-requires c =
    let book = c.args.book.now in
    let tables = c.args.tables.now in
    let name = c.name-name.result in
    let s : Seen = c.index-2.result.now in
    let named : name ≡ c.args.frame.now.name = c.name-name.ensures ∙ ap (λ (x : Evaluated). x.name) c.evaluation-evaluation.ensures in
    let at : IsAt book c.args.index tables name = subst (IsAt book c.args.index tables) (sym named) c.requires.at in
    let here : slice_get tables.seen.items name.task.resource ≡ Some s =
    slice_get-get_or tables.seen.items name.task.resource s (seen-inside book c.args.index tables name at) ∙ ap Some (sym c.index-2.ensures) in
    subst (TellTakes (before book.entries c.args.index) name) (sym c.as_slice-taken.ensures.value) (takes-told book c.args.index tables name at s here)
