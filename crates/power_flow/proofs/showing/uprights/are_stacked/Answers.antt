use Rattle.std.proofs.Common.{◌≡◌, ◌+◌, true, false, inl, refl, sym, ap, ◌∙◌, arith}
use Rattle.std.proofs.lemmas.Bool.{OnTrue_from}
use Rattle.std.proofs.lemmas.Option.{slice_get_within}
use Rattle.lists.proofs.Places.{some_same}
use Rattle.network.specs.Apart.{first_place}
use Rattle.power_flow.proofs.Networks.ElementSteps.{at_number}
use Rattle.power_flow.proofs.ShownPower.Stacked.{stacked_here, stacked_is}
use Rattle.power_flow.proofs.showing.uprights.are_stacked.Goals as goal

pub overflow_add-below : goal.overflow_add-below
overflow_add-below c =
    let e = c.index-elements-k.result in
    let there = at_number c.args.elements.now c.args.k e e c.requires.within c.index-elements-k.is refl in
    let page = c.requires.page c.args.k e (first_place e) there (inl refl) in
    let row = page.0 in
    rw c.first_place-at.ensures (omega arith)

pub returns-then-not-stands_at-clause-stacked : goal.returns-then-not-stands_at-clause-stacked
returns-then-not-stands_at-clause-stacked c = (
  λ yes. absurd (let clash : false ≡ true = yes in cc),
  λ s.
      let es = c.args.elements.now in
      let e = c.index-elements-k-2.result in
      let other = c.index-elements-k.result in
      let there = at_number es c.args.k e e c.requires.within c.index-elements-k-2.is refl in
      let same : other ≡ e = some_same (sym (at_number es c.args.k other other c.requires.within c.index-elements-k.is refl) ∙ there) in
      let yes : c.stands_at.result ≡ true = c.stands_at.ensures.1 (stacked_here es c.args.k e c.first_place-at.result there (c.first_place-at.ensures ∙ ap first_place same) s).0 in
      let no : c.stands_at.result ≡ false = c.if-not-stands_at.true in
      let clash : false ≡ true = sym no ∙ yes in
      clash,
)

pub returns-clause-stacked : goal.returns-clause-stacked
returns-clause-stacked c =
    let es = c.args.elements.now in
    let e = c.index-elements-k-2.result in
    let other = c.index-elements-k.result in
    let there = at_number es c.args.k e e c.requires.within c.index-elements-k-2.is refl in
    let same : other ≡ e = some_same (sym (at_number es c.args.k other other c.requires.within c.index-elements-k.is refl) ∙ there) in
    let yes : c.stands_at.result ≡ true = c.if-not-stands_at.false in (
      λ next. stacked_is es c.args.k e c.first_place-at.result there (c.stands_at.ensures.0 yes) (c.stands_at-2.ensures.0 next),
      λ s. c.stands_at-2.ensures.1 (stacked_here es c.args.k e c.first_place-at.result there (c.first_place-at.ensures ∙ ap first_place same) s).1,
    )

pub returns-clause-within : goal.returns-clause-within
returns-clause-within c = OnTrue_from _ _ (λ yes. let next = c.stands_at-2.ensures.0 yes in slice_get_within c.args.elements.now (c.args.k + 1) next.0 next.1)
