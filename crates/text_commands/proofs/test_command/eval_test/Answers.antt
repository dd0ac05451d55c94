use Rattle.std.proofs.Common.{◌≡◌, ◌∙◌, inl, string_bytes}
use Rattle.std.proofs.KnownBytes.{Keeps-refl}
use Rattle.lists.proofs.Results.{kept_fault}
use Rattle.text_commands.specs.declared.text_command_fault.TextCommandFault.TheVariants.{Memory, Write}
use Rattle.text_commands.specs.Giving.{sending_fault}
use Rattle.text_commands.specs.Restarts.{kept_places}
use Rattle.text_commands.specs.Rows.{texts}
use Rattle.text_commands.specs.Sources.{source_of}
use Rattle.text_commands.specs.TestText.{ExplainsTest}
use Rattle.text_commands.proofs.SourceLadders.{drawn_by}
use Rattle.text_commands.proofs.TestReading.{expected_declared, rows_declared}
use Rattle.text_commands.proofs.TestAnswers.{drawings_stopped, drawings_written, rows_stopped, rows_written, test_cut, test_words_refused, test_written}
use Rattle.text_commands.proofs.test_command.eval_test.Goals as eval_test_goals

pub returns-in_err-test-clause-fault : eval_test_goals.returns-in_err-test-clause-fault
returns-in_err-test-clause-fault g c =
    let drawn = drawn_by (source_of c.args.source) c.in_ok-drawn.drawn.ladder.value c.deref-ladder.result.now (string_bytes c.in_ok-drawn.drawn.drawing) c.as_str-drawing.result.now c.in_ok-drawn.drawn.retained.items c.in_ok-drawn.ensures.ok c.deref-ladder.ensures c.as_str-drawing.ensures.value in
    let refused = rw c.declarations.ensures.list at c.in_err-test.ensures.err in
    kept_fault c.in_err-test.field-0.0 (ExplainsTest (source_of c.args.source) (texts c.args.words.now) c.args.restarts.now c.args.dt c.args.form _ _) _ c.from_residual-in_err-test.ensures.1
    (test_words_refused (source_of c.args.source) (texts c.args.words.now) c.args.restarts.now c.args.dt c.args.form _ c.deref-ladder.result.now.declarations c.deref-ladder.result.now.networks c.in_err-test.field-0.0 drawn.0 refused)

pub write_scans-requires-clause-rows : eval_test_goals.write_scans-requires-clause-rows
write_scans-requires-clause-rows g c =
    let read = rw (c.declarations.ensures.list, ← c.deref-2.ensures.value, ← c.deref-expected.ensures.value) at c.in_ok-test.ensures.ok in
    rows_declared c.deref-ladder.result.now.declarations (texts c.args.words.now) c.deref-2.result.now c.deref-expected.result.now read

pub write_scans-requires-clause-expected : eval_test_goals.write_scans-requires-clause-expected
write_scans-requires-clause-expected g c =
    let read = rw (c.declarations.ensures.list, ← c.deref-2.ensures.value, ← c.deref-expected.ensures.value) at c.in_ok-test.ensures.ok in
    expected_declared c.deref-ladder.result.now.declarations (texts c.args.words.now) c.deref-2.result.now c.deref-expected.result.now read

pub returns-in_err-write_scans-in-Rows-clause-fault : eval_test_goals.returns-in_err-write_scans-in-Rows-clause-fault
returns-in_err-write_scans-in-Rows-clause-fault g c =
    let drawn = drawn_by (source_of c.args.source) c.in_ok-drawn.drawn.ladder.value c.deref-ladder.result.now (string_bytes c.in_ok-drawn.drawn.drawing) c.as_str-drawing.result.now c.in_ok-drawn.drawn.retained.items c.in_ok-drawn.ensures.ok c.deref-ladder.ensures c.as_str-drawing.ensures.value in
    let kept : c.deref-3.result.now ≡ kept_places c.deref-ladder.result.now.declarations c.deref-ladder.result.now.networks c.in_ok-drawn.drawn.retained.items = c.deref-3.ensures.value ∙ (rw c.deref.ensures.value at c.in_ok-kept.ensures) in
    let read = rw (c.declarations.ensures.list, ← c.deref-2.ensures.value, ← c.deref-expected.ensures.value) at c.in_ok-test.ensures.ok in
    kept_fault (sending_fault c.in_err-write_scans-in-Rows.field-0.0) (ExplainsTest (source_of c.args.source) (texts c.args.words.now) c.args.restarts.now c.args.dt c.args.form _ _) _ c.from_residual-in_err-write_scans-in-Rows.ensures.1
    (rows_stopped (source_of c.args.source) c.as_str-drawing.result.now (texts c.args.words.now) c.args.restarts.now c.args.dt c.args.form _ _ c.deref-ladder.result.now.declarations c.deref-ladder.result.now.networks c.deref-2.result.now c.deref-expected.result.now c.deref-3.result.now c.in_ok-drawn.drawn.retained.items c.test_scan_count-scans.result
    c.in_err-write_scans-in-Rows.field-0.0 c.in-Rows.is c.test_scan_count-scans.ensures drawn kept read c.in_err-write_scans-in-Rows.ensures.stopped)

pub returns-in-Rows-clause-ok : eval_test_goals.returns-in-Rows-clause-ok
returns-in-Rows-clause-ok g c =
    let drawn = drawn_by (source_of c.args.source) c.in_ok-drawn.drawn.ladder.value c.deref-ladder.result.now (string_bytes c.in_ok-drawn.drawn.drawing) c.as_str-drawing.result.now c.in_ok-drawn.drawn.retained.items c.in_ok-drawn.ensures.ok c.deref-ladder.ensures c.as_str-drawing.ensures.value in
    let kept : c.deref-3.result.now ≡ kept_places c.deref-ladder.result.now.declarations c.deref-ladder.result.now.networks c.in_ok-drawn.drawn.retained.items = c.deref-3.ensures.value ∙ (rw c.deref.ensures.value at c.in_ok-kept.ensures) in
    let read = rw (c.declarations.ensures.list, ← c.deref-2.ensures.value, ← c.deref-expected.ensures.value) at c.in_ok-test.ensures.ok in
    rows_written (source_of c.args.source) c.as_str-drawing.result.now (texts c.args.words.now) c.args.restarts.now c.args.dt c.args.form _ _ c.deref-ladder.result.now.declarations c.deref-ladder.result.now.networks c.deref-2.result.now c.deref-expected.result.now c.deref-3.result.now c.in_ok-drawn.drawn.retained.items c.test_scan_count-scans.result _
    c.in-Rows.is c.test_scan_count-scans.ensures drawn kept read c.in_ok-write_scans-in-Rows.ensures.ok

pub write_drawings-requires-clause-rows : eval_test_goals.write_drawings-requires-clause-rows
write_drawings-requires-clause-rows g c =
    let read = rw (c.declarations.ensures.list, ← c.deref-2.ensures.value, ← c.deref-expected.ensures.value) at c.in_ok-test.ensures.ok in
    rows_declared c.deref-ladder.result.now.declarations (texts c.args.words.now) c.deref-2.result.now c.deref-expected.result.now read

pub write_drawings-requires-clause-expected : eval_test_goals.write_drawings-requires-clause-expected
write_drawings-requires-clause-expected g c =
    let read = rw (c.declarations.ensures.list, ← c.deref-2.ensures.value, ← c.deref-expected.ensures.value) at c.in_ok-test.ensures.ok in
    expected_declared c.deref-ladder.result.now.declarations (texts c.args.words.now) c.deref-2.result.now c.deref-expected.result.now read

pub returns-in_err-write_drawings-in-Drawings-clause-fault : eval_test_goals.returns-in_err-write_drawings-in-Drawings-clause-fault
returns-in_err-write_drawings-in-Drawings-clause-fault g c =
    let drawn = drawn_by (source_of c.args.source) c.in_ok-drawn.drawn.ladder.value c.deref-ladder.result.now (string_bytes c.in_ok-drawn.drawn.drawing) c.as_str-drawing.result.now c.in_ok-drawn.drawn.retained.items c.in_ok-drawn.ensures.ok c.deref-ladder.ensures c.as_str-drawing.ensures.value in
    let kept : c.deref-3.result.now ≡ kept_places c.deref-ladder.result.now.declarations c.deref-ladder.result.now.networks c.in_ok-drawn.drawn.retained.items = c.deref-3.ensures.value ∙ (rw c.deref.ensures.value at c.in_ok-kept.ensures) in
    let read = rw (c.declarations.ensures.list, ← c.deref-2.ensures.value, ← c.deref-expected.ensures.value) at c.in_ok-test.ensures.ok in
    kept_fault (sending_fault c.in_err-write_drawings-in-Drawings.field-0.0) (ExplainsTest (source_of c.args.source) (texts c.args.words.now) c.args.restarts.now c.args.dt c.args.form _ _) _ c.from_residual-in_err-write_drawings-in-Drawings.ensures.1
    (drawings_stopped (source_of c.args.source) c.as_str-drawing.result.now (texts c.args.words.now) c.args.restarts.now c.args.dt c.args.form c.in-Drawings.color _ _ c.deref-ladder.result.now.declarations c.deref-ladder.result.now.networks c.deref-2.result.now c.deref-expected.result.now c.deref-3.result.now c.in_ok-drawn.drawn.retained.items c.test_scan_count-scans.result
    c.in_err-write_drawings-in-Drawings.field-0.0 c.in-Drawings.is c.test_scan_count-scans.ensures drawn kept read c.in_err-write_drawings-in-Drawings.ensures.stopped)

pub returns-in-Drawings-clause-ok : eval_test_goals.returns-in-Drawings-clause-ok
returns-in-Drawings-clause-ok g c =
    let drawn = drawn_by (source_of c.args.source) c.in_ok-drawn.drawn.ladder.value c.deref-ladder.result.now (string_bytes c.in_ok-drawn.drawn.drawing) c.as_str-drawing.result.now c.in_ok-drawn.drawn.retained.items c.in_ok-drawn.ensures.ok c.deref-ladder.ensures c.as_str-drawing.ensures.value in
    let kept : c.deref-3.result.now ≡ kept_places c.deref-ladder.result.now.declarations c.deref-ladder.result.now.networks c.in_ok-drawn.drawn.retained.items = c.deref-3.ensures.value ∙ (rw c.deref.ensures.value at c.in_ok-kept.ensures) in
    let read = rw (c.declarations.ensures.list, ← c.deref-2.ensures.value, ← c.deref-expected.ensures.value) at c.in_ok-test.ensures.ok in
    drawings_written (source_of c.args.source) c.as_str-drawing.result.now (texts c.args.words.now) c.args.restarts.now c.args.dt c.args.form c.in-Drawings.color _ _ c.deref-ladder.result.now.declarations c.deref-ladder.result.now.networks c.deref-2.result.now c.deref-expected.result.now c.deref-3.result.now c.in_ok-drawn.drawn.retained.items c.test_scan_count-scans.result _
    c.in-Drawings.is c.test_scan_count-scans.ensures drawn kept read c.in_ok-write_drawings-in-Drawings.ensures.ok

pub trace_test-requires-clause-rows : eval_test_goals.trace_test-requires-clause-rows
trace_test-requires-clause-rows g c =
    let read = rw (c.declarations.ensures.list, ← c.deref-2.ensures.value, ← c.deref-expected.ensures.value) at c.in_ok-test.ensures.ok in
    rows_declared c.deref-ladder.result.now.declarations (texts c.args.words.now) c.deref-2.result.now c.deref-expected.result.now read

pub trace_test-requires-clause-expected : eval_test_goals.trace_test-requires-clause-expected
trace_test-requires-clause-expected g c =
    let read = rw (c.declarations.ensures.list, ← c.deref-2.ensures.value, ← c.deref-expected.ensures.value) at c.in_ok-test.ensures.ok in
    expected_declared c.deref-ladder.result.now.declarations (texts c.args.words.now) c.deref-2.result.now c.deref-expected.result.now read

pub returns-in_err-text-in-Chart-clause-fault : eval_test_goals.returns-in_err-text-in-Chart-clause-fault
returns-in_err-text-in-Chart-clause-fault g c =
    kept_fault Memory (ExplainsTest (source_of c.args.source) (texts c.args.words.now) c.args.restarts.now c.args.dt c.args.form _ _) _ c.from_residual-in_err-text-in-Chart.ensures.1 (inl (Keeps-refl _))

pub returns-in_err-write_text-in-Chart-clause-fault : eval_test_goals.returns-in_err-write_text-in-Chart-clause-fault
returns-in_err-write_text-in-Chart-clause-fault g c =
    let drawn = drawn_by (source_of c.args.source) c.in_ok-drawn.drawn.ladder.value c.deref-ladder.result.now (string_bytes c.in_ok-drawn.drawn.drawing) c.as_str-drawing.result.now c.in_ok-drawn.drawn.retained.items c.in_ok-drawn.ensures.ok c.deref-ladder.ensures c.as_str-drawing.ensures.value in
    let kept : c.deref-3.result.now ≡ kept_places c.deref-ladder.result.now.declarations c.deref-ladder.result.now.networks c.in_ok-drawn.drawn.retained.items = c.deref-3.ensures.value ∙ (rw c.deref.ensures.value at c.in_ok-kept.ensures) in
    let read = rw (c.declarations.ensures.list, ← c.deref-2.ensures.value, ← c.deref-expected.ensures.value) at c.in_ok-test.ensures.ok in
    let less = rw c.as_str.ensures.value at c.in_err-write_text-in-Chart.ensures.prefix in
    kept_fault Write (ExplainsTest (source_of c.args.source) (texts c.args.words.now) c.args.restarts.now c.args.dt c.args.form _ _) _ c.from_residual-in_err-write_text-in-Chart.ensures.1
    (test_cut (source_of c.args.source) c.as_str-drawing.result.now (texts c.args.words.now) c.args.restarts.now c.args.dt c.args.form _ _ c.deref-ladder.result.now.declarations c.deref-ladder.result.now.networks c.deref-2.result.now c.deref-expected.result.now c.deref-3.result.now c.in_ok-drawn.drawn.retained.items
    (string_bytes c.in_ok-text-in-Chart.text) c.in_ok-text-in-Chart.found drawn kept read c.in_ok-text-in-Chart.ensures less)

pub returns-clause-ok : eval_test_goals.returns-clause-ok
returns-clause-ok g c =
    let drawn = drawn_by (source_of c.args.source) c.in_ok-drawn.drawn.ladder.value c.deref-ladder.result.now (string_bytes c.in_ok-drawn.drawn.drawing) c.as_str-drawing.result.now c.in_ok-drawn.drawn.retained.items c.in_ok-drawn.ensures.ok c.deref-ladder.ensures c.as_str-drawing.ensures.value in
    let kept : c.deref-3.result.now ≡ kept_places c.deref-ladder.result.now.declarations c.deref-ladder.result.now.networks c.in_ok-drawn.drawn.retained.items = c.deref-3.ensures.value ∙ (rw c.deref.ensures.value at c.in_ok-kept.ensures) in
    let read = rw (c.declarations.ensures.list, ← c.deref-2.ensures.value, ← c.deref-expected.ensures.value) at c.in_ok-test.ensures.ok in
    let whole = rw c.as_str.ensures.value at c.in_ok-write_text-in-Chart.ensures.whole in
    test_written (source_of c.args.source) c.as_str-drawing.result.now (texts c.args.words.now) c.args.restarts.now c.args.dt c.args.form _ _ c.deref-ladder.result.now.declarations c.deref-ladder.result.now.networks c.deref-2.result.now c.deref-expected.result.now c.deref-3.result.now c.in_ok-drawn.drawn.retained.items
    (string_bytes c.in_ok-text-in-Chart.text) c.in_ok-text-in-Chart.found drawn kept read c.in_ok-text-in-Chart.ensures whole

pub returns-in_err-kept-clause-fault : eval_test_goals.returns-in_err-kept-clause-fault
returns-in_err-kept-clause-fault g c =
    kept_fault Memory (ExplainsTest (source_of c.args.source) (texts c.args.words.now) c.args.restarts.now c.args.dt c.args.form _ _) _ c.from_residual-in_err-kept.ensures.1 (inl (Keeps-refl _))
