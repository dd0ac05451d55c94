use Rattle.std.proofs.Common.{sym, ◌∙◌, refl}
use Rattle.ladder_text.specs.Places.{layout_of}
use Rattle.ladder_text.specs.Names.{words}
use Rattle.ladder_text.specs.Faults.{stray_name}
use Rattle.ladder_text.proofs.Words.WordOrder.{first_of_words}
use Rattle.ladder_text.proofs.Words.NamedSymbols.{paired_words}
use Rattle.ladder_text.proofs.Faults.FirstPlaces.{no_span}
use Rattle.ladder_text.proofs.names.names_above.stray_in_row.Goals as goal

pub returns-then-is_stray-clause-first : goal.returns-then-is_stray-clause-first
returns-then-is_stray-clause-first c =
    let p = layout_of c.args.worded.now in
    let test = stray_name p c.args.row in
    first_of_words p c.args.row test c.words-word-items.result.now c.loop-word.word-index _ (record { first = 0; end = 0 }) c.words-word-items.ensures c.loop-word-test.true refl c.loop-word.invariant (sym c.is_stray.ensures ∙ c.if-is_stray.true)

pub returns-then-are_names-clause-none : goal.returns-then-are_names-clause-none
returns-then-are_names-clause-none c =
    paired_words (layout_of c.args.worded.now) c.args.row (c.in_ok-above.ensures c.if-above.true) (sym c.are_names.ensures ∙ c.if-are_names.true)

pub returns-then-are_names-clause-first : goal.returns-then-are_names-clause-first
returns-then-are_names-clause-first c =
    let p = layout_of c.args.worded.now in
    no_span (stray_name p c.args.row) (words p c.args.row)
    (paired_words p c.args.row (c.in_ok-above.ensures c.if-above.true) (sym c.are_names.ensures ∙ c.if-are_names.true))
