use Rattle.std.proofs.Common.{◌≡◌, ◌+◌, ◌++◌, ◌∷◌, [], List, ap, sym, arith, ◌∙◌}
use Rattle.ladder_rows.specs.Rows.{Rows, upto, width}
use Rattle.ladder_rows.specs.Boxes.{option_list}
use Rattle.ladder_text.specs.Places.{layout_of}
use Rattle.ladder_text.specs.Names.{words, word_at}
use Rattle.ladder_rows.specs.declared.span.Span.{Span}
use Rattle.ladder_text.proofs.Words.RowWords.{word_last, words_more}
use Rattle.ladder_text.proofs.Words.BareRows.{no_words}
use Rattle.std.specs.Prelude.{slice_index_or}
use Rattle.ladder_text.proofs.names.spans.words.Goals as goal

pub returns : goal.returns
unfolding layout_of words
returns c =
    let wide = ap (λ (e : Rows). width e) c.grid-grid.ensures in
    let e : c.loop-column.column ≡ width c.args.marked.now = omega (arith, wide) in
    c.loop-column.invariant.words ∙ ap (λ n. upto n (λ k. option_list (word_at (layout_of c.args.marked.now) c.args.row k))) e

pub loop-column-preserved-then-not-before : goal.loop-column-preserved-then-not-before
unfolding layout_of
loop-column-preserved-then-not-before c =
    let p = layout_of c.args.marked.now in
    let r = c.args.row in
    let k = c.loop-column.column in
    let n = c.word_rest-rest.result in
    let here = sym c.in_word_with-inside-in-loop-column.ensures ∙ c.if-inside.true in
    let before = sym c.loop-column.invariant.inside ∙ c.if-not-before.true in
    let long = c.word_rest-rest.ensures.rest in
    let wide = ap (λ (e : Rows). width e) c.grid-grid.ensures in
    record {
      within = omega (arith, wide, c.word_rest-rest.ensures.within (omega (arith, wide)));
      words = c.in_ok-push.ensures.items ∙ ap (λ (l : List Span). l ++ record { first = k + 1; end = k + 1 + 1 + n } ∷ []) c.loop-column.invariant.words ∙ sym (words_more p r k n here long before);
      inside = c.if-inside.true ∙ sym (word_last p r k n here long);
    }

pub returns-then-not-may_have_words : goal.returns-then-not-may_have_words
unfolding layout_of
returns-then-not-may_have_words c =
    let cells : c.cells-cells.result.now ≡ slice_index_or c.args.marked.now c.args.row [] = c.cells-cells.ensures ∙ ap (λ (d : Rows). slice_index_or d c.args.row []) c.grid-grid.ensures in
    c.new-words.ensures.items ∙ no_words (layout_of c.args.marked.now) c.args.row (λ k. rw (← cells) (c.if-not-may_have_words.ensures k))
