use Rattle.std.proofs.Common.{◌≡◌, ◌≤◌, ◌<◌, ◌∙◌, sym, ap, refl, length, get_or, rules, tests, Some}
use Rattle.std.specs.List.{slice_get}
use Rattle.std.proofs.lemmas.Option.{slice_get_read}
use Rattle.ladder_rows.specs.Steps.RowBoxes.{word_test, holds}
use Rattle.ladder_rows.proofs.Outlines.RowBoxes.{slice_get-past}
use Rattle.ladder_rows.proofs.boxes.box_rows.takes_word_at.Goals as goal

pub takes_word-requires : goal.takes_word-requires
takes_word-requires c =
    let a = c.args in
    let inside : a.number < length a.boxes.now = search (rules, tests) in
    let here : c.in-Some.outline.now ≡ get_or a.boxes.now a.number c.in-Some.outline.now = search (rules, tests) in
    let e : slice_get a.boxes.now a.number ≡ Some c.in-Some.outline.now = slice_get_read a.boxes.now (length a.boxes.now) a.number c.in-Some.outline.now refl inside here in
    c.requires.each a.number c.in-Some.outline.now e

pub returns-in-Some : goal.returns-in-Some
returns-in-Some c =
    let a = c.args in
    let inside : a.number < length a.boxes.now = search (rules, tests) in
    let here : c.in-Some.outline.now ≡ get_or a.boxes.now a.number c.in-Some.outline.now = search (rules, tests) in
    let e : slice_get a.boxes.now a.number ≡ Some c.in-Some.outline.now = slice_get_read a.boxes.now (length a.boxes.now) a.number c.in-Some.outline.now refl inside here in
    c.takes_word.ensures ∙ sym (ap (holds (word_test a.side a.row a.column)) e)

pub returns-in-None : goal.returns-in-None
returns-in-None c =
    let a = c.args in
    let past : length a.boxes.now ≤ a.number = search (rules, tests) in
    sym (ap (holds (word_test a.side a.row a.column)) (slice_get-past a.boxes.now a.number past))
