use Rattle.std.proofs.Common.{◌∙◌, ◌++◌, List, ap, refl}
use Rattle.std.specs.List.{filter_map}
use Rattle.std.proofs.lemmas.List.{take_all}
use Rattle.ladder_rows.specs.declared.span.Span.{Span}
use Rattle.drawings.specs.Symbols.{Contact, Coil}
use Rattle.ladder_text.specs.Places.{layout_of}
use Rattle.ladder_text.specs.Names.{contact_here, coil_here}
use Rattle.ladder_text.proofs.Words.SpanRows.{filter_map-step_behind, row_contacts_by_symbol, row_coils_by_symbol}
use Rattle.ladder_text.proofs.symbols.Symbols.push_row.Goals as goal

pub loop-near-preserved : goal.loop-near-preserved
loop-near-preserved c =
    let p = layout_of c.args.worded.now in
    let r = c.args.row in
    let items = c.symbols-symbol-items.result.now in
    let none : Span = record { first = 0; end = 0 } in (
      filter_map-step_behind (λ (s : Span). contact_here p r s.first) items c.loop-near.near none _ c.args.self.now.contacts.items c.loop-near.self.contacts.items c.push.new.self.contacts.items
          c.loop-near-test.true refl c.loop-near.invariant.0 c.in_ok-push.ensures.contacts,
      filter_map-step_behind (λ (s : Span). coil_here p r s.first) items c.loop-near.near none _ c.args.self.now.coils.items c.loop-near.self.coils.items c.push.new.self.coils.items
          c.loop-near-test.true refl c.loop-near.invariant.1 c.in_ok-push.ensures.coils,
    )

pub returns-clause-contacts : goal.returns-clause-contacts
returns-clause-contacts c =
    let p = layout_of c.args.worded.now in
    let r = c.args.row in
    let all = take_all c.loop-near.near c.symbols-symbol-items.result.now c.loop-near-test.false in
    c.loop-near.invariant.0
    ∙ ap (λ (l : List Contact). c.args.self.now.contacts.items ++ l) (ap (filter_map (λ (s : Span). contact_here p r s.first)) (all ∙ c.symbols-symbol-items.ensures) ∙ row_contacts_by_symbol p r)

pub returns-clause-coils : goal.returns-clause-coils
returns-clause-coils c =
    let p = layout_of c.args.worded.now in
    let r = c.args.row in
    let all = take_all c.loop-near.near c.symbols-symbol-items.result.now c.loop-near-test.false in
    c.loop-near.invariant.1
    ∙ ap (λ (l : List Coil). c.args.self.now.coils.items ++ l) (ap (filter_map (λ (s : Span). coil_here p r s.first)) (all ∙ c.symbols-symbol-items.ensures) ∙ row_coils_by_symbol p r)
