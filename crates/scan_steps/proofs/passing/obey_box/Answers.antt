use Rattle.std.proofs.Common.{Some, refl, sym, ap, ◌∙◌, set}
use Rattle.std.proofs.lemmas.Option.{slice_get-get_or}
use Rattle.scan_steps.proofs.passing.obey_box.Goals as goal

pub returns : goal.returns
returns c = λ memories links. record {
  box = c.index-boxes-number.result;
  at = slice_get-get_or c.args.boxes.now c.args.number c.index-boxes-number.result c.requires.number ∙ ap Some (sym c.index-boxes-number.is);
  results = ap (set c.args.results.now c.args.number) c.step_box.ensures.made;
  shown = c.step_box.ensures.shown;
  memories = refl;
  links = refl;
}
