use Rattle.std.proofs.Common.{◌+◌, ◌++◌, string_bytes, ap, ◌∙◌}
use Rattle.text_lines.proofs.Sending.{none_made, more_made, sends_on, part_of_less, part_sent, part_left, on_err}
use Rattle.world.specs.RunLines.{evaluation_line}
use Rattle.run_texts.proofs.Reporting.{entries_parted, entry_more}
use Rattle.run_texts.proofs.report_text.write_entries.Goals as write_entries_goals

pub loop-i-init : write_entries_goals.loop-i-init
loop-i-init g c = none_made _ _ c.new-lines.ensures.bytes

pub returns-in_err-push_evaluation-clause-part : write_entries_goals.returns-in_err-push_evaluation-clause-part
returns-in_err-push_evaluation-clause-part g c = on_err _ (part_sent _ _ _ _ _ _ (entries_parted c.args.plant.now c.args.entries.now c.loop-i.i) c.loop-i.invariant)

pub returns-in_err-send_full-clause-part : write_entries_goals.returns-in_err-send_full-clause-part
returns-in_err-send_full-clause-part g c =
    let told = c.in_ok-push_evaluation.ensures ∙ ap (λ x. string_bytes c.loop-i.lines ++ evaluation_line c.args.plant.now (c.loop-i.i + 1) x) (c.evaluation.ensures ∙ c.index-entries-i.is) in
    let made = more_made _ _ _ _ _ _ _ c.loop-i.invariant told (entry_more c.args.plant.now c.args.entries.now c.loop-i.i c.index-entries-i.result c.loop-i-test.true) in
    on_err _ (part_left _ _ _ _ _ _ _ (entries_parted c.args.plant.now c.args.entries.now (c.loop-i.i + 1)) made (part_of_less _ _ _ c.in_err-send_full.ensures.less))

pub loop-i-preserved : write_entries_goals.loop-i-preserved
loop-i-preserved g c =
    let told = c.in_ok-push_evaluation.ensures ∙ ap (λ x. string_bytes c.loop-i.lines ++ evaluation_line c.args.plant.now (c.loop-i.i + 1) x) (c.evaluation.ensures ∙ c.index-entries-i.is) in
    let made = more_made _ _ _ _ _ _ _ c.loop-i.invariant told (entry_more c.args.plant.now c.args.entries.now c.loop-i.i c.index-entries-i.result c.loop-i-test.true) in
    sends_on _ _ _ _ _ _ made c.in_ok-send_full.ensures.ok

pub returns-in_err-write_text-clause-part : write_entries_goals.returns-in_err-write_text-clause-part
returns-in_err-write_text-clause-part g c =
    let part = part_of_less _ _ _ (rw c.as_str.ensures.value at c.in_err-write_text.ensures.prefix) in
    on_err _ (part_left _ _ _ _ _ _ _ (entries_parted c.args.plant.now c.args.entries.now c.loop-i.i) c.loop-i.invariant part)
