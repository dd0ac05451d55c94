-- One more file.
use Rattle.std.proofs.Common.{◌≡◌, ◌∙◌, ℕ, List, Some, slice_get, Vec, Global, ap, sym, subst}
use Rattle.std.proofs.lemmas.Bool.{eq-eqb, eqb-true}
use Rattle.std.proofs.lemmas.Option.{slice_get-get_or}
use Rattle.audit.specs.declared.journal_file.JournalFile.{JournalFile}
use Rattle.audit.specs.declared.line.Place.{Place}
use Rattle.audit.specs.Readings.{AreRunsOf}
use Rattle.audit.proofs.RunLines.{file_more, without_none, without_some}
use Rattle.audit.proofs.reading.all_runs.Goals as goal
use Rattle.audit.proofs.reading.all_runs.Goals.{then-is_empty+in_ok-push, else-is_empty}

pub loop-file-preserved : goal.loop-file-preserved
loop-file-preserved c =
    let files = c.args.files.now in
    let at : slice_get files c.loop-file.file ≡ Some c.index-files-file.result =
    slice_get-get_or files c.loop-file.file c.index-files-file.result c.loop-file-test.true ∙ ap (λ f. Some f) (sym c.index-files-file.is) in
    file_more c.args.plant.now files c.loop-file.file c.loop-file.runs.items c.in_ok-found.found.items c.append.new.self.items c.loop-file.without_start.items c.if-is_empty.without_start.items c.index-files-file.result
    at c.loop-file.invariant (subst (λ (text : List ℕ). AreRunsOf c.args.plant.now c.loop-file.file text c.in_ok-found.found.items) (c.as_slice.ensures.value ∙ ap (λ (f : JournalFile). f.text.items) (sym c.index-files-file.is)) c.in_ok-found.ensures) c.in_ok-append.ensures.items
    (elim c.if-is_empty.branch [
      | then-is_empty+in_ok-push w ↦
          without_none c.loop-file.file c.in_ok-found.found.items c.loop-file.without_start.items c.if-is_empty.without_start.items (sym c.in_ok-found.found.ok.0 ∙ eqb-true c.in_ok-found.found.len 0 (sym c.is_empty.ensures ∙ w.if-is_empty.true))
          (ap (λ (v : Vec Place Global). v.items) w.without_start-is ∙ w.in_ok-push.ensures.items)
      | else-is_empty w ↦
          ap (λ (v : Vec Place Global). v.items) w.without_start-is
          ∙ without_some c.loop-file.file c.in_ok-found.found.items c.loop-file.without_start.items
          (λ none. let e = sym (eq-eqb c.in_ok-found.found.len 0 (c.in_ok-found.found.ok.0 ∙ none)) ∙ sym c.is_empty.ensures ∙ w.if-is_empty.false in cc)
    ])
