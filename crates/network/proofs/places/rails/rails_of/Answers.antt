use Rattle.std.proofs.Common.{rules, ◌∙◌, sym, arith}
use denote.Enum.Bare.{same_true, same_false}
use Rattle.drawings.specs.contracts.mark.Mark.{the_type}
use Rattle.network.proofs.Ordered.LeftRails.{rails_none, rails_skip, rails_more, rails_all}
use Rattle.network.proofs.places.rails.rails_of.Goals.{then-eq+in_ok-push, else-eq}
use Rattle.network.proofs.places.rails.rails_of.Goals as goal

pub loop-row-init : goal.loop-row-init
loop-row-init c = rw c.new-rails.ensures.items (rails_none c.args.drawing.now c.requires)

pub loop-row-preserved : goal.loop-row-preserved
loop-row-preserved c =
    let g = c.args.drawing.now in
    let n = c.loop-row.row in
    let left = c.left-column.ensures in
    let mark = rw left at c.mark.ensures in
    elim c.if-eq.branch [
      | then-eq+in_ok-push w ↦ rw (w.rails-is, w.in_ok-push.ensures.items, left) (rails_more g c.loop-row.rails.items n
          (sym mark ∙ same_true the_type (search rules) _ _ (sym c.eq.ensures ∙ w.if-eq.true)) c.loop-row.invariant)
      | else-eq w ↦ rw w.rails-is (rails_skip g c.loop-row.rails.items n
          (λ e. same_false the_type _ _ (sym c.eq.ensures ∙ w.if-eq.false) (mark ∙ e)) c.loop-row.invariant)
    ]

pub returns : goal.returns
returns c = rails_all c.args.drawing.now c.requires c.loop-row.rails.items c.loop-row.row (let rows = c.rows-row-end.ensures.rows in omega arith) c.loop-row.invariant
