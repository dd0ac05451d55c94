use Rattle.std.proofs.Common.{◌<◌, sym, ◌∙◌, refl, Option, ap, ℕ, arith}
use Rattle.std.specs.Option.{is_some}
use Rattle.ladder_rows.specs.declared.span.Span.{Span}
use Rattle.ladder_text.specs.Places.{layout_of}
use Rattle.ladder_text.specs.Faults.{name_missing}
use Rattle.ladder_text.specs.Names.{things}
use Rattle.ladder_text.proofs.Words.NamedSymbols.{paired_things}
use Rattle.ladder_text.proofs.Faults.FirstPlaces.{no_span, span_found, span_passed, any_found, any_passed}
use Rattle.ladder_text.proofs.names.names_above.unnamed_in_row.Goals as goal
use Rattle.ladder_text.proofs.names.names_above.unnamed_in_row.Goals.{then-is_unnamed, else-is_unnamed}

pub loop-thing-preserved : goal.loop-thing-preserved
loop-thing-preserved c =
    let test = name_missing (layout_of c.args.worded.now) c.args.row in
    let xs = c.deref-thing-items.result.now in
    let i = c.loop-thing.thing-index in
    let h = c.loop-thing-test.true in
    let before = c.loop-thing.invariant in
    let none : Span = record { first = 0; end = 0 } in
    elim c.if-is_unnamed.branch [
      | then-is_unnamed w ↦
          let t = sym c.is_unnamed.ensures ∙ w.if-is_unnamed.true in
          record {
            any = ap (λ (o : Option ℕ). is_some o) w.first-is ∙ sym (any_found test xs i none h t);
            first = rw w.first-is (span_found test xs i _ none c.loop-thing.first w.least.result h refl before.first t w.least.ensures);
          }
      | else-is_unnamed w ↦
          let t = sym c.is_unnamed.ensures ∙ w.if-is_unnamed.false in
          record {
            any = ap (λ (o : Option ℕ). is_some o) w.first-is ∙ before.any ∙ sym (any_passed test xs i none h t);
            first = rw w.first-is (span_passed test xs i _ none c.loop-thing.first h refl before.first t);
          }
    ]

pub returns-then-above-clause-none : goal.returns-then-above-clause-none
returns-then-above-clause-none c =
    let some : 0 < c.args.row = omega arith in
    paired_things (layout_of c.args.worded.now) c.args.row some (c.in_ok-above.ensures c.if-above.true)

pub returns-then-above-clause-first : goal.returns-then-above-clause-first
returns-then-above-clause-first c =
    let p = layout_of c.args.worded.now in
    let some : 0 < c.args.row = omega arith in
    no_span (name_missing p c.args.row) (things p c.args.row) (paired_things p c.args.row some (c.in_ok-above.ensures c.if-above.true))
