-- A body that has a ladder isn't refused. Its networks don't depend on the line that it begins on.
use Rattle.std.proofs.Common.{◌≡◌, ℕ, zero, suc, ◌+◌, List, [], ◌∷◌, map, Some, Contains, refl, sym, ap, ◌∙◌, subst}
use Rattle.std.specs.Prelude.{All, Any, slice_get, slice_index_or}
use Rattle.std.specs.Option.{option_map}
use Rattle.std.proofs.lemmas.Option.{slice_get-map, slice_get_within, get_or_from_slice_get}
use Rattle.std.proofs.lemmas.List.Elements.{All-head}
use Rattle.lists.proofs.Places.{some_same}
use Rattle.lists.proofs.Members.{any_at, any_found, contains_at, at_contains, all_from_places, all_last}
use Rattle.drawings.specs.declared.mark.Mark.{Mark}
use Rattle.drawings.specs.declared.mark.Mark.TheVariants.{Blank}
use Rattle.drawings.specs.declared.place.Place.{Place}
use Rattle.drawings.specs.declared.drawn_box.Side.{Side}
use Rattle.drawings.specs.declared.drawn_box.Side.TheVariants.{Left, Right}
use Rattle.drawings.specs.Picture.{Picture, mark_at}
use Rattle.ladder_rows.specs.Rows.{rows_of}
use Rattle.ladder_text.specs.Places.{Layout, layout_of}
use Rattle.ladder_text.specs.Picture.{picture_of}
use Rattle.network.specs.declared.element.Element.{Element}
use Rattle.network.specs.declared.element.Element.TheVariants.{Wire, Join, Upright, Contact, Coil, Box}
use Rattle.network.specs.declared.fault.GraphFaultKind.{GraphFaultKind}
use Rattle.network.specs.declared.fault.GraphFaultKind.TheVariants as graph
use Rattle.network.specs.Links.{place, Takes, Diagram}
use Rattle.network.specs.GraphValue.{GraphValue, diagram}
use Rattle.network.specs.Networks.{IsElementOf, Chained, IsLeftRail, MeetsAt, AreNetworks, StandsAt, IsUnattachedAt, IsTooTallAt, IsTwiceAt, HasFaultlessNetworks, IsFirstGraphFaultAt}
use Rattle.network.specs.Networks.Chained.{here, along}
use Rattle.plant_grammar.specs.declared.grammar.tree.Program.{Program}
use Rattle.name_faults.specs.declared.bind_fault.BindKind.{BindKind}
use Rattle.name_faults.specs.declared.bind_fault.BindKind.TheVariants.{UnknownName, WrongKind, WritesInput, UnknownPin, PinMissing, LiteralOutOfRange, Memory}
use Rattle.name_faults.specs.BindFaults.{IsBox, HasLine, HasLinedPin, EndsBefore, BeginsBehind, IsWrongKind, wrong_read, wrong_stored, wrong_literal, literal_stored, wrong_line, wrong_box, IsFaultOf}
use Rattle.name_faults.specs.Binding.{IsBoundNetwork, CanBind}
use Rattle.power_flow.specs.LadderValue.{diagrams}
use Rattle.plant_grammar.specs.Grammar.{TextValue}
use Rattle.plant_grammar.specs.Lawful.{variables}
use Rattle.plant.specs.declared.plant_fault.BodyFault.{BodyFault}
use Rattle.plant.specs.declared.plant_fault.BodyFault.TheVariants as body
use Rattle.plant.specs.declared.plant_fault.PlantFault.{PlantFault}
use Rattle.plant.specs.Ladders.{HasLadder}
use Rattle.plant.specs.BodyFaults.{drawing_line, picture_in, RefusesBody, IsFirstBodyFault}

-- two drawings differ in their first line's number at most
pub record IsSameDrawing (g h : Picture) : Type 0 where
  pub left : g.left ≡ h.left
  pub marks : g.marks ≡ h.marks
  pub contacts : g.contacts ≡ h.contacts
  pub coils : g.coils ≡ h.coils
  pub boxes : g.boxes ≡ h.boxes

pub turned : (g h : Picture) → IsSameDrawing g h → IsSameDrawing h g
turned g h s = record { left = sym s.left; marks = sym s.marks; contacts = sym s.contacts; coils = sym s.coils; boxes = sym s.boxes }

same_mark : (g h : Picture) → IsSameDrawing g h → (r c : ℕ) → mark_at g r c ≡ mark_at h r c
unfolding mark_at
same_mark g h s r c = ap (λ (ms : List (List Mark)). slice_index_or (slice_index_or ([] ∷ ms) r []) c Blank) s.marks

-- the elements
pub element_kept : (g h : Picture) → IsSameDrawing g h → (e : Element) → IsElementOf g e → IsElementOf h e
element_kept g h s (Wire at) is = sym (same_mark g h s at.row at.column) ∙ is
element_kept g h s (Join at) is = sym (same_mark g h s at.row at.column) ∙ is
element_kept g h s (Upright at) is = sym (same_mark g h s at.row at.column) ∙ is
element_kept g h s (Contact x) is = rw (← s.contacts) is
element_kept g h s (Coil x) is = rw (← s.coils) is
element_kept g h s (Box b) is = rw (← s.boxes) is

-- their chains
pub chain_kept : (g d : Picture) → IsSameDrawing g d → {e f : Element} → Chained g e f → Chained d e f
chain_kept g d s here = here
chain_kept g d s (along {e} {f} {h} one is linked) = along (chain_kept g d s one) (element_kept g d s h is) linked

-- where they meet the left rail
pub rail_kept : (g h : Picture) → IsSameDrawing g h → (p : Place) → IsLeftRail g p → IsLeftRail h p
rail_kept g h s p is = record { column = is.column ∙ s.left; mark = sym (same_mark g h s p.row p.column) ∙ is.mark }

pub meets_kept : (g h : Picture) → IsSameDrawing g h → (e : Element) (row : ℕ) → MeetsAt g e row → MeetsAt h e row
meets_kept g h s e row (rail, f, chain, takes) = (
  subst (λ (n : ℕ). IsLeftRail h (place row n)) s.left (rail_kept g h s (place row g.left) rail),
  f,
  chain_kept g h s chain,
  subst (λ (n : ℕ). Takes f (place row (n + 1))) s.left takes,
)

-- the faults of their networks
unattached_kept : (g h : Picture) → IsSameDrawing g h → (p : Place) → IsUnattachedAt g p → IsUnattachedAt h p
unattached_kept g h s p (e, is, never, at) = (e, element_kept g h s e is, (λ row meets. never row (meets_kept h g (turned g h s) e row meets)), at)

tall_kept : (g h : Picture) → IsSameDrawing g h → (p : Place) → IsTooTallAt g p → IsTooTallAt h p
tall_kept g h s p (e, f, k, is, one, two, far, at) = (e, f, k, element_kept g h s e is, chain_kept g h s one, chain_kept g h s two, far, at)

twice_kept : (g h : Picture) → IsSameDrawing g h → (p : Place) → IsTwiceAt g p → IsTwiceAt h p
twice_kept g h s p (b, c, in', also, first, named, at) = (b, c, rw (← s.boxes) in', rw (← s.boxes) also, first, named, at)

no_graph_fault : (g h : Picture) → IsSameDrawing g h → (k : GraphFaultKind) (p : Place) → IsFirstGraphFaultAt g k p → HasFaultlessNetworks h → ⊥
no_graph_fault g h s graph.Unattached p at none = none.attached p (unattached_kept g h s p at.such)
no_graph_fault g h s graph.TooTall p at none = none.low p (tall_kept g h s p at.1.such)
no_graph_fault g h s graph.InstanceTwice p at none = none.named_once p (twice_kept g h s p at.2.such)
no_graph_fault g h s graph.Memory p at none = at

-- what one list has, the other has
abbrev AreWithin : {X : Type 0} → List X → List X → Type 0
AreWithin {X} xs ys = (x : X) → Contains xs x → Contains ys x

any_within : {X : Type 0} (P Q : X → Type 0) (xs ys : List X) → AreWithin xs ys → ((x : X) → P x → Q x) → Any P xs → Any Q ys
any_within P Q xs ys within go any =
    let one = any_found P xs any in
    let other = at_contains ys one.1 (within one.1 (contains_at xs one.0 one.1 one.2)) in
    any_at Q ys other.0 one.1 other.1 (go one.1 one.3)

-- a fault of names in a network is one in each that has all of its elements
line_within : (es fs : List Element) → AreWithin es fs → (side : Side) (p : Place) → HasLine es side p → HasLine fs side p
line_within es fs within Left p line = any_within (EndsBefore p) (EndsBefore p) es fs within (λ e ends. ends) line
line_within es fs within Right p line = any_within (BeginsBehind p) (BeginsBehind p) es fs within (λ e begins. begins) line

box_within : (es fs : List Element) → AreWithin es fs → (p : Place) (e : Element) → IsBox (HasLinedPin es p) e → IsBox (HasLinedPin fs p) e
box_within es fs within p (Wire at) is = is
box_within es fs within p (Join at) is = is
box_within es fs within p (Upright at) is = is
box_within es fs within p (Contact c) is = is
box_within es fs within p (Coil c) is = is
box_within es fs within p (Box b) (k, pin, field, at, own, other, line) = (k, pin, field, at, own, other, line_within es fs within pin.side p line)

kind_within : (q : Program) (es fs : List Element) → AreWithin es fs → (e : Element) (p : Place) → IsWrongKind (variables q) es e p → IsWrongKind (variables q) fs e p
kind_within q es fs within e p (wrong_read text want r c) = wrong_read text want r c
kind_within q es fs within e p (wrong_stored text want r c) = wrong_stored text want r c
kind_within q es fs within e p (wrong_literal v k l other) = wrong_literal v k l other
kind_within q es fs within e p (literal_stored v want l) = literal_stored v want l
kind_within q es fs within e p (wrong_line is) = wrong_line (box_within es fs within p e is)
kind_within q es fs within e p (wrong_box is) = wrong_box is

fault_within : (q : Program) (es fs : List Element) → AreWithin es fs → (k : BindKind) (p : Place) (e : Element) → IsFaultOf (variables q) es k e p → IsFaultOf (variables q) fs k e p
fault_within q es fs within UnknownName p e is = is
fault_within q es fs within WrongKind p e is = kind_within q es fs within e p is
fault_within q es fs within WritesInput p e is = is
fault_within q es fs within UnknownPin p e is = is
fault_within q es fs within PinMissing p e is = is
fault_within q es fs within LiteralOutOfRange p e is = is
fault_within q es fs within Memory p e is = is

bound_within : (q : Program) (es fs : List Element) → AreWithin es fs → IsBoundNetwork (variables q) fs → IsBoundNetwork (variables q) es
unfolding IsBoundNetwork
bound_within q es fs within bound k p fault = bound k p (any_within (λ e. IsFaultOf (variables q) es k e p) (λ e. IsFaultOf (variables q) fs k e p) es fs within (fault_within q es fs within k p) fault)

-- The networks of one drawing have the elements of the other's.
module _ (g h : Picture) (same : IsSameDrawing g h) (one other : GraphValue) (built : AreNetworks g one) (rebuilt : AreNetworks h other) where
  -- a network of the other drawing lies within one of this drawing
  network_within : (k : ℕ) (es : List Element) → slice_get other.networks k ≡ Some es → (l : ℕ) × (fs : List Element) × (slice_get one.networks l ≡ Some fs) × AreWithin es fs
  network_within k es at =
      let head = rebuilt.filled k (slice_get_within other.networks k es at) in
      let e = head.0 in
      let stands = built.whole e (element_kept h g (turned g h same) e (rebuilt.drawn k 0 e head.1)) in
      let fs = stands.2.0 in (
        stands.0,
        fs,
        stands.2.1,
        (λ f in'.
            let there = at_contains es f in' in
            let placed : StandsAt other k there.0 f = (es, at, there.1) in
            let chained = (rebuilt.joined k k 0 there.0 e f head.1 placed).0 refl in
            let here' = built.whole f (element_kept h g (turned g h same) f (rebuilt.drawn k there.0 f placed)) in
            let joined : stands.0 ≡ here'.0 = (built.joined stands.0 here'.0 stands.1 here'.1 e f stands.2 here'.2).1 (chain_kept h g (turned g h same) chained) in
            let list : fs ≡ here'.2.0 = some_same (sym stands.2.1 ∙ ap (slice_get one.networks) joined ∙ here'.2.1) in
            subst (λ (xs : List Element). Contains xs f) (sym list) (contains_at here'.2.0 here'.1 f here'.2.2)),
      )

  bound_again : (q : Program) → CanBind (variables q) (diagrams one) → CanBind (variables q) (diagrams other)
  bound_again q bound =
      all_from_places (λ (d : Diagram). IsBoundNetwork (variables q) d.elements) (diagrams other) (λ k d at.
      let made : option_map (diagram other.rails) (slice_get other.networks k) ≡ Some d = sym (slice_get-map (diagram other.rails) other.networks k) ∙ at in
      let net = network_of other.rails other.networks k d at in
      let found = network_within k net.0 net.1 in
      let there : slice_get (diagrams one) found.0 ≡ Some (diagram one.rails found.1) = slice_get-map (diagram one.rails) one.networks found.0 ∙ ap (option_map (diagram one.rails)) found.2 in
      let free : IsBoundNetwork (variables q) found.1 = all_at_place (λ (d : Diagram). IsBoundNetwork (variables q) d.elements) (diagrams one) bound found.0 (diagram one.rails found.1) there in
      subst (λ (es : List Element). IsBoundNetwork (variables q) es) net.2 (bound_within q net.0 found.1 found.3 free))
    where
      all_at_place : {X : Type 0} (P : X → Type 0) (xs : List X) → All P xs → (k : ℕ) (x : X) → slice_get xs k ≡ Some x → P x
      all_at_place P xs each k x at = subst P (get_or_from_slice_get xs k x x at) (each k x (slice_get_within xs k x at))

      network_of : (rails : List Place) (nets : List (List Element)) (k : ℕ) (d : Diagram) → slice_get (map (diagram rails) nets) k ≡ Some d → (es : List Element) × (slice_get nets k ≡ Some es) × (es ≡ d.elements)
      network_of rails [] k d at = cc
      network_of rails (es ∷ nets) zero d at = (es, refl, ap (λ (x : Diagram). x.elements) (some_same at))
      network_of rails (es ∷ nets) (suc k) d at = network_of rails nets k d at

-- two readings of one layout
pub same_layout : (m n : ℕ) (p : Layout) → IsSameDrawing (picture_of m p) (picture_of n p)
unfolding picture_of
same_layout m n p = record { left = refl; marks = refl; contacts = refl; coils = refl; boxes = refl }

-- what refuses a body refuses each ladder of it
no_ladder : (t : TextValue) (why : BodyFault) (line : ℕ) → RefusesBody t why line → HasLadder t.program → ⊥
no_ladder t (body.Drawing k) line refused l = refused.0 l.1.well_drawn
no_ladder t (body.Graph k) line refused l =
    no_graph_fault (picture_in t) (picture_of l.1.first_line (layout_of (rows_of t.program.body))) (same_layout (drawing_line t) l.1.first_line (layout_of (rows_of t.program.body))) k refused.1.0 refused.1.1 l.1.networks_faultless
no_ladder t (body.Bind k) line refused l =
    let p = layout_of (rows_of t.program.body) in
    let names = refused.1.1 in
    names.refused (bound_again (picture_of l.1.first_line p) (picture_in t) (same_layout l.1.first_line (drawing_line t) p) l.1.graph names.graph l.1.built names.built t.program l.1.bound)

-- the first body that is refused has no ladder
pub first_without : (texts : List TextValue) (fault : PlantFault) → IsFirstBodyFault texts fault → All (λ (t : TextValue). HasLadder t.program) texts → ⊥
first_without texts fault first each =
    let HasItsLadder : TextValue → Type 0 = λ t. HasLadder t.program in
    let behind : All HasItsLadder (first.faulty ∷ first.behind) = all_last HasItsLadder first.before (first.faulty ∷ first.behind) (subst (All HasItsLadder) first.parts each) in
    no_ladder first.faulty first.fault_is.why fault.line first.fault_is.refused (All-head HasItsLadder first.faulty first.behind behind)
