-- Of the entry's resource one entry more is seen, and of the others the same.
use Rattle.std.proofs.Common.{◌≡◌, ◌∙◌, Some, get_or, refl, ap, sym, subst}
use Rattle.std.proofs.Math.ListN.{set}
use Rattle.std.specs.Prelude.{slice_get}
use Rattle.std.specs.Vec.{with_item}
use Rattle.std.proofs.lemmas.Option.{slice_get-get_or}
use Rattle.evaluation.specs.declared.name.Name.{Name}
use Rattle.evaluation.specs.Meaning.{Evaluated}
use Rattle.world.specs.declared.schedule.tables.Seen.{Seen}
use Rattle.world.specs.Steps.Tables.{SeesMore}
use Rattle.world.proofs.Schedules.Tables.{tells-more}
use Rattle.world.proofs.schedule.tables.Tables.note.Goals as goal

pub returns : goal.returns
returns c = λ book at tells.
    let x : Evaluated = c.args.evaluation.now in
    let old = c.args.self.now in
    let s : Seen = c.index_mut-seen.result.now in
    let new : Seen = c.note_in.new.seen in
    let own : c.name-name.result.task.resource ≡ x.name.task.resource = ap (λ (n : Name). n.task.resource) c.name-name.ensures in
    let here : slice_get old.seen.items x.name.task.resource ≡ Some s =
    slice_get-get_or old.seen.items x.name.task.resource s c.requires ∙ ap Some (ap (λ k. get_or old.seen.items k s) (sym own) ∙ sym c.index_mut-seen.ensures.value) in
    let more : SeesMore s new x.name x.takes c.args.index =
    subst (λ (n : Name). SeesMore s new n x.takes c.args.index) c.name-name.ensures (subst (λ us. SeesMore s new c.name-name.result us c.args.index) c.takes.ensures.value c.in_ok-note_in.ensures) in
    tells-more book c.args.index old c.raise_present.new.present.items (set old.seen.items x.name.task.resource new) x s new at tells c.raise_present.ensures here more refl
    (record { present = c.raise_present.new.present; seen = with_item old.seen c.name-name.result.task.resource new }) refl (ap (λ k. set old.seen.items k new) own)
