use Rattle.std.proofs.Common.{◌++◌, ◌∙◌, ap, sym, string_bytes}
use Rattle.text_lines.specs.Lists.{take_text}
use Rattle.text_lines.specs.Steps.Gaps.{gap_before}
use Rattle.text_lines.proofs.ListTexts.{item_more, all_items, not_empty}
use Rattle.text_lines.proofs.takes.push_takes.Goals as goal

pub loop-i-preserved : goal.loop-i-preserved
loop-i-preserved c =
    let f = take_text c.args.plant.now in
    let line = string_bytes c.loop-i.line in
    let taken = c.index-takes-i.result in
    c.in_ok-push_take.ensures ∙ ap (λ l. l ++ f taken) c.in_ok-push_gap.ensures
    ∙ ap (λ t. line ++ gap_before c.loop-i.i ++ f t) c.index-takes-i.is
    ∙ item_more f c.args.takes.now c.loop-i.i taken line (string_bytes c.args.line.now) c.loop-i-test.true c.loop-i.invariant

pub returns : goal.returns
returns c =
    all_items (take_text c.args.plant.now) c.args.takes.now c.loop-i.i (string_bytes c.loop-i.line) (string_bytes c.args.line.now) c.loop-i-test.false
    (not_empty c.args.takes.now (sym c.is_empty.ensures ∙ c.if-is_empty.false)) c.loop-i.invariant
