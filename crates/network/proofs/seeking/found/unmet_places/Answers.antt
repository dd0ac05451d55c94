use Rattle.std.proofs.Common.{◌≡◌, ◌∙◌, ◌<◌, Option, Some, None, true, false, not, ℕ, length, slice_get, get_or, refl, sym, ap, arith}
use Rattle.std.specs.Option.{is_some}
use Rattle.std.proofs.lemmas.Option.{slice_get-get_or}
use Rattle.network.specs.Steps.Listed.{element_seen}
use Rattle.network.proofs.Basics.{some_is}
use Rattle.network.proofs.Sought.FirstFound.{unmet_skip, unmet_more}
use Rattle.network.proofs.seeking.found.unmet_places.Goals.{then-is_none+in_ok-push, else-is_none}
use Rattle.network.proofs.seeking.found.unmet_places.Goals as goal

is_none_from : (o : Option ℕ) → is_some o ≡ false → o ≡ None
is_none_from None e = refl
is_none_from (Some k) e = absurd (cc)

is_none_not : (o : Option ℕ) → is_some o ≡ true → o ≡ None → ⊥
is_none_not None e h = cc
is_none_not (Some k) e h = cc

pub loop-k-preserved : goal.loop-k-preserved
loop-k-preserved c =
    let es = c.args.elements.now in
    let ranks = c.args.ranks.now in
    let k = c.loop-k.k in
    let lt : k < length ranks = (let a = c.loop-k-test.true in let b = c.requires in let l = c.len-k-end.ensures in omega arith) in
    let read : slice_get ranks k ≡ Some (get_or ranks k None) = slice_get-get_or ranks k None lt in
    elim c.if-is_none.branch [
      | then-is_none+in_ok-push w ↦
          (let e = element_seen w.at.result in
          let at : slice_get es k ≡ Some e = w.at.ensures in
          rw (w.places-is, w.in_ok-push.ensures.items, w.first_place.ensures) (unmet_more es ranks k c.loop-k.places.items e at
          (read ∙ ap Some (is_none_from (get_or ranks k None) (c.is_none.ensures ∙ ap not w.if-is_none.true))) c.loop-k.invariant))
      | else-is_none w ↦ rw w.places-is (unmet_skip es ranks k c.loop-k.places.items
          (λ h. is_none_not (get_or ranks k None) (c.is_none.ensures ∙ ap not w.if-is_none.false) (some_is (get_or ranks k None) None (sym read ∙ h))) c.loop-k.invariant)
    ]
