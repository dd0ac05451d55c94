use Rattle.std.proofs.Common.{rules, ◌≡◌, ◌∙◌, Bool, true, false, not, refl, sym, arith}
use denote.Enum.Bare.{same_true}
use Rattle.drawings.specs.contracts.mark.Mark.{the_type}
use Rattle.network.specs.Links.{place}
use Rattle.network.specs.Steps.Listed.{stand_for}
use Rattle.network.proofs.Listed.ElementOrder.{elements_top, elements_skip, elements_next}
use Rattle.network.proofs.Listed.Sharing.{no_element_blank}
use Rattle.network.proofs.listing.elements.push_column.Goals.{then-ne+in_ok-push_at, else-ne}
use Rattle.network.proofs.listing.elements.push_column.Goals as goal

not_false : (b : Bool) → not b ≡ false → b ≡ true
not_false true h = refl
not_false false h = let e : true ≡ false = h in cc

pub loop-row-init : goal.loop-row-init
loop-row-init c = record {
  elements = elements_top c.args.drawing.now c.requires.sound c.args.column (stand_for c.args.drawing.now c.args.elements.now.items) c.requires.before;
  symbols = c.requires.symbols;
}

pub loop-row-preserved : goal.loop-row-preserved
loop-row-preserved c =
    let g = c.args.drawing.now in
    let row = c.loop-row.row in
    let column = c.args.column in
    elim c.if-ne.branch [
      | then-ne+in_ok-push_at w ↦ record { elements = rw w.elements-is w.in_ok-push_at.ensures.elements; symbols = rw w.symbols-is w.in_ok-push_at.ensures.symbols }
      | else-ne w ↦ record {
        elements = rw w.elements-is (elements_skip g row column (stand_for c.args.drawing.now c.loop-row.elements.items)
            (no_element_blank g c.requires.sound (place row column) (sym c.mark.ensures ∙ same_true the_type (search rules) _ _ (not_false _ (sym c.ne.ensures ∙ w.if-ne.false)))) c.loop-row.invariant.elements);
        symbols = rw w.symbols-is c.loop-row.invariant.symbols;
      }
    ]

pub returns-clause-elements : goal.returns-clause-elements
returns-clause-elements c = elements_next c.args.drawing.now c.requires.sound c.loop-row.row c.args.column (stand_for c.args.drawing.now c.loop-row.elements.items) (let rows = c.rows-row-end.ensures.rows in omega arith) c.loop-row.invariant.elements
