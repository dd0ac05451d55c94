-- The tables tell where the resource's newest entry stands.
use Rattle.std.proofs.Common.{◌≡◌, ◌∙◌, Some, ap, sym}
use Rattle.std.specs.Prelude.{slice_get}
use Rattle.std.specs.Option.{option_and_then}
use Rattle.std.proofs.lemmas.Option.{slice_get-get_or}
use Rattle.world.specs.declared.schedule.tables.Seen.{Seen}
use Rattle.world.specs.Steps.Tables.{if_in}
use Rattle.world.proofs.Schedules.Tables.{seen-inside, newest-told}
use Rattle.world.proofs.schedule.known.newest_of.Goals as goal

pub returns : goal.returns
returns c =
    let book = c.args.book.now in
    let tables = c.args.tables.now in
    let name = c.args.name in
    let s : Seen = c.index.result.now in
    let here : slice_get tables.seen.items name.task.resource ≡ Some s =
    slice_get-get_or tables.seen.items name.task.resource s (seen-inside book c.args.index tables name c.requires) ∙ ap Some (sym c.index.ensures) in
    c.entry_in.ensures
    ∙ ap (λ es. if_in name.incarnation (option_and_then (λ k. slice_get es k) s.newest)) c.entries.ensures.value
    ∙ newest-told book c.args.index tables name c.requires s here
