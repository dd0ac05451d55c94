use Rattle.std.proofs.Common.{Some, set, refl, sym, ap, ◌∙◌}
use Rattle.std.proofs.lemmas.List.{map-set}
use Rattle.std.proofs.lemmas.Option.{slice_get-get_or}
use Rattle.scan_gates.specs.Encoded.{instance_at, instances_at}
use Rattle.scan_gates.proofs.stepping.obey_numbered.Goals as goal

pub returns : goal.returns
returns c = λ v agrees.
    let made = c.in_ok-results.ensures v agrees in
    let results = c.args.results.now in
    let number = c.args.number in (
      made.0,
      λ memories links. record {
        box = c.index-boxes-number.result;
        at = slice_get-get_or c.args.boxes.now number c.index-boxes-number.result c.requires.number ∙ ap Some (sym c.index-boxes-number.is);
        results = map-set (instance_at v) results number c.in_ok-results.field-0 ∙ ap (set (instances_at v results) number) made.1.0;
        shown = made.1.1;
        memories = refl;
        links = refl;
      },
    )
