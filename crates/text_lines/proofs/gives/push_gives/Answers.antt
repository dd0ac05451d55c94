use Rattle.std.proofs.Common.{◌++◌, ◌∙◌, ap, sym, arith, string_bytes, get_or, false}
use Rattle.std.specs.List.{zip}
use Rattle.std_blocks.specs.declared.value.Value.TheVariants.{Bool}
use Rattle.std.proofs.lemmas.Option.{slice_get-get_or}
use Rattle.text_lines.specs.Lists.{give_text}
use Rattle.text_lines.specs.Steps.Gaps.{gap_before}
use Rattle.text_lines.proofs.ListTexts.{item_more, all_items, not_empty, length-zip, get_or-zip, no_output}
use Rattle.text_lines.proofs.gives.push_gives.Goals as goal

pub loop-i-preserved : goal.loop-i-preserved
loop-i-preserved c =
    let code = c.args.code.now in
    let values = c.args.values.now in
    let i = c.loop-i.i in
    let f = give_text code in
    let line = string_bytes c.loop-i.line in
    let many = length-zip code.outputs values c.requires in
    let o = get_or code.outputs i no_output in
    let at = slice_get-get_or code.outputs i no_output (omega (arith, c.loop-i-test.true, c.requires)) in
    let v = get_or values i (Bool false) in
    c.in_ok-push_give.ensures o at
    ∙ ap (λ l. l ++ f (o, v)) c.in_ok-push_gap.ensures
    ∙ ap (λ t. line ++ gap_before i ++ f t) (sym (get_or-zip code.outputs values i no_output (Bool false) c.requires c.loop-i-test.true))
    ∙ item_more f (zip code.outputs values) i (no_output, Bool false) line (string_bytes c.args.line.now) (omega (arith, c.loop-i-test.true, many)) c.loop-i.invariant

pub returns : goal.returns
returns c =
    let many = length-zip c.args.code.now.outputs c.args.values.now c.requires in
    all_items (give_text c.args.code.now) (zip c.args.code.now.outputs c.args.values.now) c.loop-i.i (string_bytes c.loop-i.line) (string_bytes c.args.line.now) (omega (arith, c.loop-i-test.false, many))
    (omega (arith, many, not_empty c.args.values.now (sym c.is_empty.ensures ∙ c.if-is_empty.false))) c.loop-i.invariant
