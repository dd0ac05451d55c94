use Rattle.std.proofs.Common.{◌≡◌, ◌∙◌, inl, string_bytes}
use Rattle.std.proofs.KnownBytes.{Keeps-refl}
use Rattle.lists.proofs.Results.{kept_fault}
use Rattle.text_commands.specs.declared.text_command_fault.TextCommandFault.TheVariants.{Memory, Write}
use Rattle.text_commands.specs.Restarts.{kept_places}
use Rattle.text_commands.specs.Rows.{texts}
use Rattle.text_commands.specs.Sources.{source_of}
use Rattle.text_commands.specs.TestText.{ExplainsTest}
use Rattle.text_commands.proofs.SourceLadders.{drawn_by}
use Rattle.text_commands.proofs.TestReading.{expected_declared, rows_declared}
use Rattle.text_commands.proofs.TestAnswers.{test_cut, test_words_refused}
use Rattle.text_commands.proofs.TracedAnswers.{traced_written}
use Rattle.text_commands.proofs.traced_command.eval_whole.Goals as eval_whole_goals

pub returns-in_err-test-clause-fault : eval_whole_goals.returns-in_err-test-clause-fault
returns-in_err-test-clause-fault g c =
    let drawn = drawn_by (source_of c.args.source) c.in_ok-drawn.drawn.ladder.value c.deref-ladder.result.now (string_bytes c.in_ok-drawn.drawn.drawing) c.as_str-drawing.result.now c.in_ok-drawn.drawn.retained.items c.in_ok-drawn.ensures.ok c.deref-ladder.ensures c.as_str-drawing.ensures.value in
    let refused = rw c.declarations.ensures.list at c.in_err-test.ensures.err in
    kept_fault c.in_err-test.field-0.0 (ExplainsTest (source_of c.args.source) (texts c.args.words.now) c.args.restarts.now c.args.dt c.args.form _ _) _ c.from_residual-in_err-test.ensures.1
    (test_words_refused (source_of c.args.source) (texts c.args.words.now) c.args.restarts.now c.args.dt c.args.form _ c.deref-ladder.result.now.declarations c.deref-ladder.result.now.networks c.in_err-test.field-0.0 drawn.0 refused)

pub trace_whole-requires-clause-rows : eval_whole_goals.trace_whole-requires-clause-rows
trace_whole-requires-clause-rows g c =
    let read = rw (c.declarations.ensures.list, ← c.deref-2.ensures.value, ← c.deref-expected.ensures.value) at c.in_ok-test.ensures.ok in
    rows_declared c.deref-ladder.result.now.declarations (texts c.args.words.now) c.deref-2.result.now c.deref-expected.result.now read

pub trace_whole-requires-clause-expected : eval_whole_goals.trace_whole-requires-clause-expected
trace_whole-requires-clause-expected g c =
    let read = rw (c.declarations.ensures.list, ← c.deref-2.ensures.value, ← c.deref-expected.ensures.value) at c.in_ok-test.ensures.ok in
    expected_declared c.deref-ladder.result.now.declarations (texts c.args.words.now) c.deref-2.result.now c.deref-expected.result.now read

pub returns-in_err-text-clause-fault : eval_whole_goals.returns-in_err-text-clause-fault
returns-in_err-text-clause-fault g c =
    kept_fault Memory (ExplainsTest (source_of c.args.source) (texts c.args.words.now) c.args.restarts.now c.args.dt c.args.form _ _) _ c.from_residual-in_err-text.ensures.1 (inl (Keeps-refl _))

pub returns-in_err-write_text-clause-fault : eval_whole_goals.returns-in_err-write_text-clause-fault
returns-in_err-write_text-clause-fault g c =
    let drawn = drawn_by (source_of c.args.source) c.in_ok-drawn.drawn.ladder.value c.deref-ladder.result.now (string_bytes c.in_ok-drawn.drawn.drawing) c.as_str-drawing.result.now c.in_ok-drawn.drawn.retained.items c.in_ok-drawn.ensures.ok c.deref-ladder.ensures c.as_str-drawing.ensures.value in
    let kept : c.deref-3.result.now ≡ kept_places c.deref-ladder.result.now.declarations c.deref-ladder.result.now.networks c.in_ok-drawn.drawn.retained.items = c.deref-3.ensures.value ∙ (rw c.deref.ensures.value at c.in_ok-kept.ensures) in
    let read = rw (c.declarations.ensures.list, ← c.deref-2.ensures.value, ← c.deref-expected.ensures.value) at c.in_ok-test.ensures.ok in
    let less = rw c.as_str.ensures.value at c.in_err-write_text.ensures.prefix in
    kept_fault Write (ExplainsTest (source_of c.args.source) (texts c.args.words.now) c.args.restarts.now c.args.dt c.args.form _ _) _ c.from_residual-in_err-write_text.ensures.1
    (test_cut (source_of c.args.source) c.as_str-drawing.result.now (texts c.args.words.now) c.args.restarts.now c.args.dt c.args.form _ _ c.deref-ladder.result.now.declarations c.deref-ladder.result.now.networks c.deref-2.result.now c.deref-expected.result.now c.deref-3.result.now c.in_ok-drawn.drawn.retained.items
    (string_bytes c.in_ok-text.text) c.in_ok-text.traced.difference drawn kept read c.in_ok-text.ensures.test less)

pub returns-clause-ok : eval_whole_goals.returns-clause-ok
returns-clause-ok g c =
    let drawn = drawn_by (source_of c.args.source) c.in_ok-drawn.drawn.ladder.value c.deref-ladder.result.now (string_bytes c.in_ok-drawn.drawn.drawing) c.as_str-drawing.result.now c.in_ok-drawn.drawn.retained.items c.in_ok-drawn.ensures.ok c.deref-ladder.ensures c.as_str-drawing.ensures.value in
    let kept : c.deref-3.result.now ≡ kept_places c.deref-ladder.result.now.declarations c.deref-ladder.result.now.networks c.in_ok-drawn.drawn.retained.items = c.deref-3.ensures.value ∙ (rw c.deref.ensures.value at c.in_ok-kept.ensures) in
    let read = rw (c.declarations.ensures.list, ← c.deref-2.ensures.value, ← c.deref-expected.ensures.value) at c.in_ok-test.ensures.ok in
    let whole = rw c.as_str.ensures.value at c.in_ok-write_text.ensures.whole in
    traced_written (source_of c.args.source) c.as_str-drawing.result.now (texts c.args.words.now) c.args.restarts.now c.args.dt c.args.form _ _ _ c.deref-ladder.result.now.declarations c.deref-ladder.result.now.networks c.deref-2.result.now c.deref-expected.result.now c.deref-3.result.now c.in_ok-drawn.drawn.retained.items
    (string_bytes c.in_ok-text.text) c.in_ok-text.traced drawn kept read c.in_ok-text.ensures whole

pub returns-in_err-kept-clause-fault : eval_whole_goals.returns-in_err-kept-clause-fault
returns-in_err-kept-clause-fault g c =
    kept_fault Memory (ExplainsTest (source_of c.args.source) (texts c.args.words.now) c.args.restarts.now c.args.dt c.args.form _ _) _ c.from_residual-in_err-kept.ensures.1 (inl (Keeps-refl _))
