use Rattle.std.proofs.Common.{◌-◌, ◌≤◌, ◌∙◌, ap, sym, subst}
use Rattle.std.specs.Prelude.{slice_get}
use Rattle.text_commands.specs.Series.{repeated}
use Rattle.text_commands.proofs.SeriesValues.{begin_is, ends_rise, found_at, found_nowhere}
use Rattle.text_commands.proofs.items.value_in.Goals as goal

pub ends_up_to-number-requires : goal.ends_up_to-number-requires
ends_up_to-number-requires c = ends_rise c.args.items.now c.args.ends.now c.requires

pub returns-in_err-item : goal.returns-in_err-item
returns-in_err-item c =
    c.from_residual.ensures
    ∙ sym (found_nowhere c.args.items.now c.args.ends.now c.ends_up_to-number.result c.args.place c.requires c.ends_up_to-number.ensures.within c.in_err-item.ensures.lookup.3 c.ends_up_to-number.ensures.before)

pub overflow_sub-place : goal.overflow_sub-place
overflow_sub-place c =
    let got = c.in_ok-item.ensures.lookup in
    let begin = c.last_end-begin.ensures ∙ begin_is c.args.items.now c.args.ends.now c.ends_up_to-number.result c.requires c.ends_up_to-number.ensures.within in
    let found = found_at c.args.items.now c.args.ends.now c.ends_up_to-number.result c.args.place c.in_ok-item.item.now c.requires got.3.0 got.1 c.ends_up_to-number.ensures.before c.ends_up_to-number.ensures.behind in
    subst (λ n. n ≤ c.args.place) (sym begin) found.0

pub value-requires : goal.value-requires
value-requires c =
    let got = c.in_ok-item.ensures.lookup in
    let item = c.in_ok-item.item.now in
    let begin = c.last_end-begin.ensures ∙ begin_is c.args.items.now c.args.ends.now c.ends_up_to-number.result c.requires c.ends_up_to-number.ensures.within in
    let found = found_at c.args.items.now c.args.ends.now c.ends_up_to-number.result c.args.place item c.requires got.3.0 got.1 c.ends_up_to-number.ensures.before c.ends_up_to-number.ensures.behind in
    rw begin found.1

pub returns : goal.returns
returns c =
    let got = c.in_ok-item.ensures.lookup in
    let item = c.in_ok-item.item.now in
    let begin = c.last_end-begin.ensures ∙ begin_is c.args.items.now c.args.ends.now c.ends_up_to-number.result c.requires c.ends_up_to-number.ensures.within in
    let found = found_at c.args.items.now c.args.ends.now c.ends_up_to-number.result c.args.place item c.requires got.3.0 got.1 c.ends_up_to-number.ensures.before c.ends_up_to-number.ensures.behind in
    c.value.ensures ∙ ap (λ n. slice_get (repeated item.times item.once) (c.args.place - n)) begin ∙ sym found.2
