-- A program has one ladder: a drawing has one list of networks, whatever the number of its first line is.
use Rattle.std.proofs.Common.{◌≡◌, ℕ, zero, suc, ◌<◌, inl, inr, List, map, Some, Contains, slice_get, refl, sym, ap, ◌∙◌, subst, arith}
use Rattle.std.proofs.lemmas.Bool.{cases_lt}
use Rattle.std.proofs.lemmas.Option.{slice_get_within}
use Rattle.lists.proofs.Places.{some_same}
use Rattle.lists.proofs.Members.{contains_at, at_contains}
use Rattle.lists.specs.Rising.{IsRising, IsOneWay}
use Rattle.drawings.specs.declared.place.Place.{Place}
use Rattle.drawings.specs.Picture.{Picture}
use Rattle.ladder_rows.specs.Rows.{rows_of}
use Rattle.ladder_text.specs.Places.{layout_of}
use Rattle.ladder_text.specs.Picture.{picture_of}
use Rattle.network.specs.declared.element.Element.{Element}
use Rattle.network.specs.Apart.{first_place, Precedes}
use Rattle.network.specs.GraphValue.{GraphValue, diagram}
use Rattle.network.specs.Networks.{IsElementOf, MeetsAt, IsTop, AreLeftRails, AreNetworks, StandsAt, HasFaultlessNetworks}
use Rattle.power_flow.specs.LadderValue.{LadderValue, diagrams}
use Rattle.power_flow.specs.Waiting.{HasJustRoom}
use Rattle.plant.specs.Ladders.{OneLadder}
use Rattle.plant.proofs.OneLadder.{IsSameDrawing, turned, element_kept, chain_kept, rail_kept, meets_kept, same_layout}
use Rattle.plant.proofs.RisingLists.{AreWithin, rising_same}

top_kept : (g h : Picture) → IsSameDrawing g h → (e : Element) (row : ℕ) → IsTop g e row → IsTop h e row
top_kept g h s e row t = record { meets = meets_kept g h s e row t.meets; topmost = λ r m. t.topmost r (meets_kept h g (turned g h s) e r m) }

-- what meets the left rail has a topmost row
has_top : (g : Picture) (e : Element) (n row : ℕ) → row < n → MeetsAt g e row → ((r : ℕ) → IsTop g e r → ⊥) → ⊥
has_top g e zero row lt meets none = omega arith
has_top g e (suc n) row lt meets none = none row (record {
  meets = meets;
  topmost = λ r m. elim (cases_lt r row) [ inl above ↦ absurd (has_top g e n r (omega arith) m none) | inr le ↦ omega arith ];
})

precedes_back : (p q : Place) → Precedes p q → Precedes q p → ⊥
precedes_back p q (inl a) (inl b) = omega arith
precedes_back p q (inl a) (inr b) = omega (arith, b.0)
precedes_back p q (inr a) (inl b) = omega (arith, a.0)
precedes_back p q (inr a) (inr b) = omega (arith, a.1, b.1)

-- the left rail, by row
rails_same : (g h : Picture) → IsSameDrawing g h → (ps qs : List Place) → AreLeftRails g ps → AreLeftRails h qs → ps ≡ qs
rails_same g h s ps qs one other =
    rising_same (λ (p q : Place). p.row < q.row) ps qs (λ i j p q lt at at'. one.rising i j p q lt at at') (λ i j p q lt at at'. other.rising i j p q lt at at') (λ p q in' also a b. omega arith)
    (λ p in'. let at = at_contains ps p in' in other.whole p (rail_kept g h s p (one.each at.0 p at.1)))
    (λ p in'. let at = at_contains qs p in' in one.whole p (rail_kept h g (turned g h s) p (other.each at.0 p at.1)))

-- the one network's top is above the other's
abbrev IsAbove : Picture → List Element → List Element → Type 0
IsAbove g es fs = (e f : Element) (r s : ℕ) → Contains es e → Contains fs f → IsTop g e r → IsTop g f s → r < s

above_networks : (g : Picture) (graph : GraphValue) → AreNetworks g graph → IsRising (IsAbove g) graph.networks
above_networks g graph built k l es fs lt at at' e f r s in' also top other =
    let i = at_contains es e in' in
    let j = at_contains fs f also in
    built.order k l i.0 j.0 e f r s lt (es, at, i.1) (fs, at', j.1) top other

above_kept : (g h : Picture) → IsSameDrawing g h → (es fs : List Element) → IsAbove h es fs → IsAbove g es fs
above_kept g h s es fs above e f r t in' also top other = above e f r t in' also (top_kept g h s e r top) (top_kept g h s f t other)

-- of two networks one is above the other
one_way : (g : Picture) (graph : GraphValue) → AreNetworks g graph → HasFaultlessNetworks g → IsOneWay (IsAbove g) graph.networks
one_way g graph built free es fs in' also a b =
    let k = at_contains graph.networks es in' in
    let l = at_contains graph.networks fs also in
    let e = head k.0 es k.1 in
    let f = head l.0 fs l.1 in
    met e.0 e.2 (λ r top. met f.0 f.2 (λ s other. let up = a e.0 f.0 r s e.1 f.1 top other in let down = b f.0 e.0 s r f.1 e.1 other top in omega arith))
  where
    head : (k : ℕ) (es : List Element) → slice_get graph.networks k ≡ Some es → (e : Element) × Contains es e × IsElementOf g e
    head k es at =
        let first = built.filled k (slice_get_within graph.networks k es at) in
        let here' : slice_get es 0 ≡ Some first.0 = ap (λ (xs : List Element). slice_get xs 0) (some_same (sym at ∙ first.1.1)) ∙ first.1.2 in
        (first.0, contains_at es 0 first.0 here', built.drawn k 0 first.0 first.1)

    met : (e : Element) → IsElementOf g e → ((r : ℕ) → IsTop g e r → ⊥) → ⊥
    met e is none = free.attached (first_place e) (e, is, (λ row meets. has_top g e (suc row) row (omega arith) meets none), refl)

module _ (g h : Picture) (same : IsSameDrawing g h) (one other : GraphValue) (built : AreNetworks g one) (rebuilt : AreNetworks h other) where
  -- the elements of a network of the other drawing are those of one of this drawing
  found_in : (k l i j : ℕ) (es fs : List Element) (e : Element) → slice_get one.networks k ≡ Some es → slice_get other.networks l ≡ Some fs → slice_get es i ≡ Some e → slice_get fs j ≡ Some e → AreWithin es fs
  found_in k l i j es fs e at at' at_e at_f f in' =
      let n = at_contains es f in' in
      let placed : StandsAt one k n.0 f = (es, at, n.1) in
      let chained = (built.joined k k i n.0 e f (es, at, at_e) placed).0 refl in
      let there = rebuilt.whole f (element_kept g h same f (built.drawn k n.0 f placed)) in
      let joined : l ≡ there.0 = (rebuilt.joined l there.0 j there.1 e f (fs, at', at_f) there.2).1 (chain_kept g h same chained) in
      let list : fs ≡ there.2.0 = some_same (sym at' ∙ ap (slice_get other.networks) joined ∙ there.2.1) in
      subst (λ (xs : List Element). Contains xs f) (sym list) (contains_at there.2.0 there.1 f there.2.2)

in_order : (g : Picture) (graph : GraphValue) → AreNetworks g graph → (k : ℕ) (es : List Element) → slice_get graph.networks k ≡ Some es → IsRising (λ (e f : Element). Precedes (first_place e) (first_place f)) es
in_order g graph built k es at i j e f lt at_e at_f = built.elements k i j e f lt (es, at, at_e) (es, at, at_f)

-- a network of the one is one of the other
network_kept : (g h : Picture) → IsSameDrawing g h → (one other : GraphValue) → AreNetworks g one → AreNetworks h other → AreWithin one.networks other.networks
network_kept g h same one other built rebuilt es in' =
    let k = at_contains one.networks es in' in
    let first = built.filled k.0 (slice_get_within one.networks k.0 es k.1) in
    let at_first : slice_get es 0 ≡ Some first.0 = ap (λ (xs : List Element). slice_get xs 0) (some_same (sym k.1 ∙ first.1.1)) ∙ first.1.2 in
    let there = rebuilt.whole first.0 (element_kept g h same first.0 (built.drawn k.0 0 first.0 first.1)) in
    let fs = there.2.0 in
    let list : es ≡ fs = rising_same (λ (e f : Element). Precedes (first_place e) (first_place f)) es fs (in_order g one built k.0 es k.1) (in_order h other rebuilt there.0 fs there.2.1)
    (λ e f in'' also a b. precedes_back (first_place e) (first_place f) a b)
    (found_in g h same one other built rebuilt k.0 there.0 0 there.1 es fs first.0 k.1 there.2.1 at_first there.2.2)
    (found_in h g (turned g h same) other one rebuilt built there.0 k.0 there.1 0 fs es first.0 there.2.1 k.1 there.2.2 at_first) in
    subst (Contains other.networks) (sym list) (contains_at other.networks there.0 fs there.2.1)

pub one_graph : (g h : Picture) → IsSameDrawing g h → (one other : GraphValue) → AreNetworks g one → AreNetworks h other → HasFaultlessNetworks g → (one.rails ≡ other.rails) × (one.networks ≡ other.networks)
one_graph g h same one other built rebuilt free = (
  rails_same g h same one.rails other.rails built.rails rebuilt.rails,
  rising_same (IsAbove g) one.networks other.networks (above_networks g one built)
      (λ k l es fs lt at at'. above_kept g h same es fs (above_networks h other rebuilt k l es fs lt at at'))
      (one_way g one built free) (network_kept g h same one other built rebuilt) (network_kept h g (turned g h same) other one rebuilt built),
)

-- ladders are equal where their declarations and networks are
abbrev pub SameLadders : Type 0
SameLadders = (l m : LadderValue) → HasJustRoom l → HasJustRoom m → l.declarations ≡ m.declarations → l.networks ≡ m.networks → l ≡ m

pub ladder_once : SameLadders → OneLadder
ladder_once equal p l m a b =
    let layout = layout_of (rows_of p.body) in
    let graph = one_graph (picture_of a.first_line layout) (picture_of b.first_line layout) (same_layout a.first_line b.first_line layout) a.graph b.graph a.built b.built a.networks_faultless in
    let networks : diagrams a.graph ≡ diagrams b.graph =
    ap (λ rails. map (diagram rails) a.graph.networks) graph.0 ∙ ap (map (diagram b.graph.rails)) graph.1 in
    equal l m a.room b.room (a.declared ∙ sym b.declared) (a.networks_are ∙ networks ∙ sym b.networks_are)
