use Rattle.std.proofs.Common.{ℕ, List, length, ap, sym, ◌∙◌}
use Rattle.std.proofs.lemmas.Bool.{eqb-true}
use Rattle.ladder_rows.proofs.Outlines.RowBoxes.{bare_of}
use Rattle.ladder_rows.proofs.boxes.box_rows.Boxes.is_bare.Goals as goal

pub returns : goal.returns
returns c = λ t. bare_of c.args.self.now c.args.row (ap (λ (ns : List ℕ). length ns) (sym c.on_row.ensures) ∙ eqb-true (length c.on_row.result.now) 0 (sym c.is_empty.ensures ∙ t))
