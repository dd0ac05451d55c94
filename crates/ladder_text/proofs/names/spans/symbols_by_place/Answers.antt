use Rattle.std.proofs.Common.{◌≡◌, ap, arith, ◌∙◌}
use Rattle.ladder_rows.specs.Rows.{Rows, upto, width}
use Rattle.ladder_rows.specs.Boxes.{option_list}
use Rattle.ladder_text.specs.Places.{layout_of}
use Rattle.ladder_text.specs.Names.{symbols, symbol_at}
use Rattle.ladder_text.proofs.names.spans.symbols_by_place.Goals as goal

pub returns : goal.returns
unfolding layout_of symbols
returns c =
    let wide = ap (λ (e : Rows). width e) c.grid.ensures in
    let e : c.loop-column.column ≡ width c.args.marked.now = omega (arith, wide) in
    c.loop-column.invariant ∙ ap (λ n. upto n (λ k. option_list (symbol_at (layout_of c.args.marked.now) c.args.row k))) e
