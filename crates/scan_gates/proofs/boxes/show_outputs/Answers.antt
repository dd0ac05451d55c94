use Rattle.std.proofs.Common.{◌∙◌}
use Rattle.scan_gates.specs.Encoded.{bits_at, instance_at}
use Rattle.scan_gates.proofs.Bits.{bits_as_long}
use Rattle.scan_gates.proofs.Marking.{shown_by}
use Rattle.scan_gates.proofs.Results.{on_ok}
use Rattle.scan_gates.proofs.boxes.show_outputs.Goals as goal

pub returns : goal.returns
returns c = on_ok _ _ c.mark_rows.result c.mark_rows.ensures (λ built v agrees.
    let marked = built v agrees in
    let old = c.args.rows.now in
    let mid = c.clear_rows.new.rows in
    let new = c.mark_rows.new.rows in (
      marked.0,
      shown_by c.args.pins.now (instance_at v c.args.shown).outputs (bits_at v old) (bits_at v mid) (bits_at v new)
          (bits_as_long v mid old c.clear_rows.auto.rows) (bits_as_long v new mid c.mark_rows.auto.rows)
          (λ r has. c.clear_rows.ensures.cleared v r has ∙ c.constant.ensures v marked.0) (c.clear_rows.ensures.kept v) marked.1,
    ))
