use Rattle.std.proofs.Common.{◌≡◌, ◌+◌, ◌++◌, ◌∷◌, [], List, ap, sym, subst, arith, ◌∙◌}
use Rattle.ladder_rows.specs.Rows.{Rows, upto, width}
use Rattle.ladder_rows.specs.Boxes.{option_list}
use Rattle.ladder_text.specs.Places.{layout_of, is_symbol}
use Rattle.ladder_text.specs.Names.{symbols, symbol_at, symbol_span}
use Rattle.ladder_rows.specs.declared.span.Span.{Span}
use Rattle.ladder_text.proofs.Words.RowWords.{symbol_begins, symbol_passed, symbol_skipped}
use Rattle.ladder_text.proofs.Words.BareRows.{no_symbols}
use Rattle.ladder_text.specs.Steps.RowSpans.{HasNoSymbol}
use Rattle.std.specs.Prelude.{slice_index_or}
use Rattle.ladder_text.proofs.names.spans.symbols_in.Goals as goal

pub returns : goal.returns
unfolding layout_of symbols
returns c =
    let wide = ap (λ (e : Rows). width e) c.grid-grid.ensures in
    let e : c.loop-column.column ≡ width c.args.marked.now = omega (arith, wide) in
    c.loop-column.invariant.symbols ∙ ap (λ n. upto n (λ k. option_list (symbol_at (layout_of c.args.marked.now) c.args.row k))) e

pub loop-column-preserved-then-is_symbol : goal.loop-column-preserved-then-is_symbol
unfolding layout_of
loop-column-preserved-then-is_symbol c =
    let p = layout_of c.args.marked.now in
    let k = c.loop-column.column in
    let wide = ap (λ (e : Rows). width e) c.grid-grid.ensures in
    let begins = symbol_begins p c.args.row k c.loop-column.invariant.quiet (ap is_symbol (sym c.mark_in.ensures) ∙ sym c.is_symbol.ensures ∙ c.if-is_symbol.true) in
    let done = symbol_passed p c.args.row k (symbol_span (k + 1)) begins in
    record {
      within = omega (arith, wide, done.inside, c.last-last.ensures.last);
      symbols = c.in_ok-push.ensures.items ∙ ap (λ (s : Span). c.loop-column.symbols.items ++ s ∷ []) c.symbol_span.ensures ∙ ap (λ (l : List Span). l ++ symbol_span (k + 1) ∷ []) c.loop-column.invariant.symbols ∙ sym done.symbols;
      quiet = done.quiet;
    }

pub loop-column-preserved : goal.loop-column-preserved
unfolding layout_of
loop-column-preserved c =
    let p = layout_of c.args.marked.now in
    let wide = ap (λ (e : Rows). width e) c.grid-grid.ensures in
    let done = symbol_skipped p c.args.row c.loop-column.column c.loop-column.invariant.quiet (ap is_symbol (sym c.mark_in.ensures) ∙ sym c.is_symbol.ensures ∙ c.if-is_symbol.false) in
    record {
      within = omega (arith, wide, c.last-last.ensures.last);
      symbols = c.loop-column.invariant.symbols ∙ sym done.0;
      quiet = done.1;
    }

pub returns-then-not-may_have_symbols : goal.returns-then-not-may_have_symbols
unfolding layout_of
returns-then-not-may_have_symbols c =
    let cells : c.cells.result.now ≡ slice_index_or c.args.marked.now c.args.row [] = c.cells.ensures ∙ ap (λ (d : Rows). slice_index_or d c.args.row []) c.grid-grid.ensures in
    c.new-symbols.ensures.items ∙ no_symbols (layout_of c.args.marked.now) c.args.row (subst HasNoSymbol cells c.if-not-may_have_symbols.ensures)
