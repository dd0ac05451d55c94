-- The audit is written whole or in part.
use Rattle.std.proofs.Common.{◌≡◌, ◌↔◌, ◌∙◌, Bool, true, IsTrue, [], ap, sym, refl, subst}
use Rattle.std.proofs.KnownBytes.{Appends-trans}
use Rattle.lists.proofs.Results.{kept_fault}
use Rattle.text_lines.specs.declared.send_fault.SendFault.TheVariants.{Write, Memory}
use Rattle.run_texts.specs.AuditText.{audit_lines, is_all_shown, last_line, TellsAuditPart}
use Rattle.run_texts.proofs.ReportTelling.{some_last, lines_partly, lines_alone, last_partly, all_shown}
use Rattle.node_reports.specs.Reports.{setting_of}
use Rattle.run_texts.proofs.Replaying.{entries_of_plant}
use Rattle.run_texts.proofs.audit_telling.tell_audit.Goals as tell_audit_goals

pub replay-requires-clause-of_plant : tell_audit_goals.replay-requires-clause-of_plant
replay-requires-clause-of_plant g c = entries_of_plant (setting_of c.args.plant.value 4294967295 c.args.audited.now.journals) c.args.audited.now.book.entries c.requires.made_again

pub returns-in_err-write_audit-clause-fault : tell_audit_goals.returns-in_err-write_audit-clause-fault
returns-in_err-write_audit-clause-fault g c =
    let plant = c.args.plant.value in
    let audited = c.args.audited.now in
    kept_fault _ (TellsAuditPart plant c.args.files.now audited _ _) _ c.from_residual.ensures.1 (lines_partly (audit_lines plant c.args.files.now audited) (last_line (is_all_shown audited) true) _ _ _ (some_last (is_all_shown audited)) (rw c.deref.ensures at c.in_err-write_audit.ensures.part))

pub returns-in_err-equal-clause-fault : tell_audit_goals.returns-in_err-equal-clause-fault
returns-in_err-equal-clause-fault g c =
    let plant = c.args.plant.value in
    let audited = c.args.audited.now in
    kept_fault Memory (TellsAuditPart plant c.args.files.now audited _ _) _ c.from_residual-in_err-equal.ensures.1 (lines_alone (audit_lines plant c.args.files.now audited) (last_line (is_all_shown audited) true) _ _ (rw c.deref.ensures at c.in_ok-write_audit.ensures.ok))

pub returns-in_err-write_text-clause-fault : tell_audit_goals.returns-in_err-write_text-clause-fault
returns-in_err-write_text-clause-fault g c =
    let plant = c.args.plant.value in
    let audited = c.args.audited.now in
    let shown = ap (λ b. last_line b c.in_ok-equal.equal) c.is_all_shown-is_shown.ensures in
    let line = c.last_line.ensures ∙ shown ∙ ap (last_line (is_all_shown audited)) (c.in_ok-equal.ensures.equal (rw c.as_slice.ensures c.requires.again)) in
    let part = rw line at c.in_err-write_text.ensures.prefix in
    kept_fault Write (TellsAuditPart plant c.args.files.now audited _ _) _ c.from_residual-in_err-write_text.ensures.1
    (last_partly (audit_lines plant c.args.files.now audited) (last_line (is_all_shown audited) true) _ _ _ (rw c.deref.ensures at c.in_ok-write_audit.ensures.ok) part)

pub returns-clause-ok : tell_audit_goals.returns-clause-ok
returns-clause-ok g c =
    let plant = c.args.plant.value in
    let audited = c.args.audited.now in
    let shown = ap (λ b. last_line b c.in_ok-equal.equal) c.is_all_shown-is_shown.ensures in
    let line = c.last_line.ensures ∙ shown ∙ ap (last_line (is_all_shown audited)) (c.in_ok-equal.ensures.equal (rw c.as_slice.ensures c.requires.again)) in
    record {
      appended = Appends-trans _ _ _ (audit_lines plant c.args.files.now audited) _ (rw c.deref.ensures at c.in_ok-write_audit.ensures.ok) (rw line at c.in_ok-write_text.ensures.whole);
      shown_is = subst (λ (b : Bool). IsTrue b ↔ ((audited.unshown.items ≡ []) × (audited.without.items ≡ []))) (sym c.is_all_shown-is_shown.ensures)
          (all_shown audited.unshown.items audited.without.items _ _ refl refl);
    }
