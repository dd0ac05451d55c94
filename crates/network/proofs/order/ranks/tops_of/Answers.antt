use Rattle.std.proofs.Common.{◌≡◌, ◌+◌, ◌<◌, ◌∙◌, ℕ, Option, Some, None, List, length, refl, sym, ap, arith, get_or, slice_get, inl, inr}
use Rattle.std.proofs.lemmas.Option.{slice_get-get_or, slice_get_within}
use Rattle.drawings.specs.declared.place.Place.{Place}
use Rattle.network.specs.declared.element.Element.{Element}
use Rattle.network.specs.declared.joining.row_table.InRow.{InRow}
use Rattle.network.specs.Links.{place, Takes}
use Rattle.network.specs.Steps.Pairs.{AreTakers}
use Rattle.network.proofs.Basics.{some_is}
use Rattle.network.proofs.Ordered.Ranking.{ranks_none, tops_none, tops_skip, tops_had, tops_more, tops_all}
use Rattle.network.proofs.order.ranks.tops_of.Goals as goal
use Rattle.network.proofs.order.ranks.tops_of.Goals.{in-Some+in_ok-push_top, in_default}

-- whoever takes state in the row is the one of the table
one_taker : (es : List Element) (column : ℕ) (takers : List (Option InRow)) → AreTakers es column takers (length es) → (r : ℕ) (t : InRow) → slice_get takers r ≡ Some (Some t)
    → (i : ℕ) (f : Element) → i < length es → slice_get es i ≡ Some f → Takes f (place r column) → ◌≡◌ {A = Option ℕ} (Some t.element) (Some i)
one_taker es column takers are r t at i f lt at' takes =
    ap (λ (x : InRow). Some x.element) (some_is t (record { element = i; column = column }) (some_is (Some t) (Some (record { element = i; column = column })) (sym at ∙ are.whole i f r lt at' takes)))

no_taker : (es : List Element) (column : ℕ) (takers : List (Option InRow)) → AreTakers es column takers (length es) → (r : ℕ) → slice_get takers r ≡ Some None
    → (i : ℕ) (f : Element) → i < length es → slice_get es i ≡ Some f → Takes f (place r column) → ⊥
no_taker es column takers are r none i f lt at' takes =
    let h : ◌≡◌ {A = Option InRow} None (Some (record { element = i; column = column })) = some_is None (Some (record { element = i; column = column })) (sym none ∙ are.whole i f r lt at' takes) in cc

pub loop-rail-init : goal.loop-rail-init
loop-rail-init c = record {
  tops = λ g es sound are rails takers labels. rw c.new-tops.ensures.items (tops_none g es c.args.labels.now c.args.rails.now);
  table = rw c.new-tops.ensures.items (ranks_none c.args.table.now c.requires.none);
}

pub loop-rail-preserved : goal.loop-rail-preserved
loop-rail-preserved c = record {
  tops = λ g es sound are rails takers labels.
      let ls = c.args.labels.now in
      let rs = c.args.rails.now in
      let tops = c.loop-rail.tops.items in
      let n = c.loop-rail.rail-index in
      let p : Place = get_or rs n (record { row = 0; column = 0 }) in
      let at : slice_get rs n ≡ Some p = slice_get-get_or rs n (record { row = 0; column = 0 }) c.loop-rail-test.true in
      let done = c.loop-rail.invariant.tops g es sound are rails takers labels in
      let left = (rails.each n p at).column in
      let q : Place = place p.row (g.left + 1) in
      let next : g.left + 1 ≡ p.column + 1 = omega arith in
      elim c.match-at.branch [
        | in-Some+in_ok-push_top w ↦
            (let t = w.in-Some.taker in
            let there : slice_get c.args.takers.now p.row ≡ Some (Some t) = c.at.ensures ∙ ap Some w.in-Some.is in
            let is = takers.found p.row t there in
            let only = λ (i : ℕ) (f : Element) (at_f : slice_get es i ≡ Some f) (takes : Takes f q). one_taker es (g.left + 1) c.args.takers.now takers p.row t there i f (slice_get_within es i f at_f) at_f takes in
            rw w.tops-is (elim w.in_ok-push_top.ensures.tops [
              | inl had ↦ rw had.1 (tops_had g sound es are ls labels rs rails tops n p at done q refl next t.element is.0 is.1 is.3 only had.0)
              | inr new ↦ rw new.1 (tops_more g sound es are ls labels rs rails tops n p at done q refl next t.element is.0 is.1 is.3 only new.0)
            ]))
        | in_default w ↦
            (let none : slice_get c.args.takers.now p.row ≡ Some None = c.at.ensures ∙ ap Some w.in_default.is in
            rw w.tops-is (tops_skip g sound es are ls labels rs rails tops n p at done q refl next (λ i f at_f takes. no_taker es (g.left + 1) c.args.takers.now takers p.row none i f (slice_get_within es i f at_f) at_f takes)))
      ];
  table = elim c.match-at.branch [
    | in-Some+in_ok-push_top w ↦ rw (w.tops-is, w.table-is) w.in_ok-push_top.ensures.table
    | in_default w ↦ rw (w.tops-is, w.table-is) c.loop-rail.invariant.table
  ];
}

pub returns-clause-tops : goal.returns-clause-tops
returns-clause-tops c = λ g es sound are rails takers labels.
    tops_all g es c.args.labels.now c.args.rails.now rails c.loop-rail.tops.items c.loop-rail.rail-index c.loop-rail-test.false (c.loop-rail.invariant.tops g es sound are rails takers labels)
