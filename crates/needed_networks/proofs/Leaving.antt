-- A network that is left out changes nothing that matters.
use Rattle.std.proofs.Common.{◌≡◌, ℕ, ◌+◌, inl, inr, List, [], ◌∷◌, Bool, Option, Some, None, Contains, MatchOption, length, slice_get, set, length-set, refl, sym, ap, ◌∙◌, subst}
use Rattle.std.specs.List.{AllByRecursion, flat_map, enumerate_from}
use Rattle.std.specs.Option.{option_map, option_map_or}
use Rattle.lists.proofs.Each.{each-append}
use Rattle.lists.proofs.Members.{cons_first, cons_later}
use Rattle.lists.proofs.Places.{slice_get-set_other}
use Rattle.drawings.specs.declared.drawn_box.DrawnBox.{DrawnBox}
use Rattle.drawings.specs.declared.drawn_box.DrawnPin.{DrawnPin}
use Rattle.drawings.specs.declared.drawn_box.Operand.{Operand}
use Rattle.drawings.specs.declared.drawn_box.Side.{Side}
use Rattle.drawings.specs.declared.drawn_box.Side.TheVariants.{Left, Right}
use Rattle.network.specs.declared.element.Element.{Element}
use Rattle.network.specs.declared.element.Element.TheVariants.{Wire, Join, Upright, Contact, Coil, Box}
use Rattle.network.specs.Links.{Diagram}
use Rattle.std_blocks.specs.declared.value.Value.{Value}
use Rattle.std_blocks.specs.declared.value.Value.TheVariants.{Bool as BoolValue}
use Rattle.declared_names.specs.declared.declarations.Declaration.{Declaration}
use Rattle.declared_names.specs.Names.{place_of}
use Rattle.scan_steps.specs.declared.slot.Slot.{Slot}
use Rattle.scan_steps.specs.declared.slot.Slot.TheVariants.{Variable}
use Rattle.scan_steps.specs.Conducting.{bit_at}
use Rattle.power_flow.specs.Values.{value_at}
use Rattle.power_flow.specs.Meaning.{Moment, NetworkMeaning, side_stores, result_stores, coil_stores, coil_value, store, stored, stores}
use Rattle.needed_networks.specs.Needs.{IsIdle, IsOutside, Changes, PinStores}
use Rattle.needed_networks.specs.Slices.{AreAgreed}

-- the places of all stores are idle
abbrev AreIdle : List Bool → List (ℕ × Value) → Type 0
AreIdle idle all = AllByRecursion (λ (s : ℕ × Value). IsIdle idle s.0) all

length_stored : (xs : List Slot) (all : List (ℕ × Value)) → length (stored xs all) ≡ length xs
length_stored xs [] = refl
length_stored xs (s ∷ all) = length_stored (set xs s.0 (Variable s.1)) all ∙ length-set xs s.0 (Variable s.1)

stored_idle : (idle : List Bool) (xs : List Slot) (all : List (ℕ × Value)) (k : ℕ) → AreIdle idle all → (IsIdle idle k → ⊥) → slice_get (stored xs all) k ≡ slice_get xs k
stored_idle idle xs [] k idles matters = refl
stored_idle idle xs (s ∷ all) k idles matters =
    stored_idle idle (set xs s.0 (Variable s.1)) all k idles.1 matters
    ∙ slice_get-set_other xs s.0 k (Variable s.1) (λ is. matters (subst (IsIdle idle) (sym is) idles.0))

store_idle : (idle : List Bool) (o : Option ℕ) (v : Option Value) → ((k : ℕ) → o ≡ Some k → IsIdle idle k) → AreIdle idle (store o v)
store_idle idle None v idles = tt
store_idle idle (Some k) None idles = tt
store_idle idle (Some k) (Some v) idles = (idles k refl, tt)

side_idle : (ds : List Declaration) (idle : List Bool) (slots : List Slot) (b : DrawnBox) (pin : DrawnPin) (side : Side) → pin.side ≡ side
    → ((k : ℕ) → PinStores ds pin k → IsIdle idle k) → AreIdle idle (side_stores ds slots b pin side)
side_idle ds idle slots b pin Left is idles = tt
side_idle ds idle slots b pin Right is idles = go pin.operand refl
  where
    go : (o : Option Operand) → pin.operand ≡ o → AreIdle idle (option_map_or (λ w. store (place_of ds w.text) (value_at ds slots b.instance pin.name)) o [])
    go None e = tt
    go (Some w) e =
        let P : ℕ → Option Operand → Type 0 = λ k o. MatchOption o ⊥ (λ q. place_of ds q.text ≡ Some k) in
        store_idle idle (place_of ds w.text) (value_at ds slots b.instance pin.name) (λ k at. idles k (is, subst (P k) (sym e) at))

pins_idle : (ds : List Declaration) (idle : List Bool) (slots : List Slot) (b : DrawnBox) (pins : List DrawnPin) → ((pin : DrawnPin) (k : ℕ) → Contains pins pin → PinStores ds pin k → IsIdle idle k)
    → AreIdle idle (flat_map (λ pin. side_stores ds slots b pin pin.side) pins)
pins_idle ds idle slots b [] idles = tt
pins_idle ds idle slots b (pin ∷ pins) idles =
    each-append (λ (s : ℕ × Value). IsIdle idle s.0) (side_stores ds slots b pin pin.side) (flat_map (λ pin. side_stores ds slots b pin pin.side) pins)
    (side_idle ds idle slots b pin pin.side refl (λ k stores. idles pin k (cons_first pin pins) stores))
    (pins_idle ds idle slots b pins (λ other k in' stores. idles other k (cons_later pin pins other in') stores))

result_idle : (ds : List Declaration) (idle : List Bool) (slots : List Slot) (e : Element) → ((k : ℕ) → Changes ds e k → IsIdle idle k) → AreIdle idle (result_stores ds slots e)
result_idle ds idle slots (Wire at) idles = tt
result_idle ds idle slots (Join at) idles = tt
result_idle ds idle slots (Upright at) idles = tt
result_idle ds idle slots (Contact c) idles = tt
result_idle ds idle slots (Coil c) idles = tt
result_idle ds idle slots (Box b) idles = pins_idle ds idle slots b b.pins (λ pin k in' stores. idles k (inr (in'.0, pin, in'.1, in'.2, stores)))

results_idle : (ds : List Declaration) (idle : List Bool) (slots : List Slot) (es : List Element) → ((e : Element) (k : ℕ) → Contains es e → Changes ds e k → IsIdle idle k)
    → AreIdle idle (flat_map (result_stores ds slots) es)
results_idle ds idle slots [] idles = tt
results_idle ds idle slots (e ∷ es) idles =
    each-append (λ (s : ℕ × Value). IsIdle idle s.0) (result_stores ds slots e) (flat_map (result_stores ds slots) es)
    (result_idle ds idle slots e (λ k changes. idles e k (cons_first e es) changes))
    (results_idle ds idle slots es (λ other k in' changes. idles other k (cons_later e es other in') changes))

coil_idle : (ds : List Declaration) (idle : List Bool) (old : Moment) (links : List Bool) (n : ℕ) (e : Element) → ((k : ℕ) → Changes ds e k → IsIdle idle k)
    → AreIdle idle (coil_stores ds old links n e)
coil_idle ds idle old links n (Wire at) idles = tt
coil_idle ds idle old links n (Join at) idles = tt
coil_idle ds idle old links n (Upright at) idles = tt
coil_idle ds idle old links n (Contact c) idles = tt
coil_idle ds idle old links n (Coil c) idles = store_idle idle (place_of ds c.name) (option_map BoolValue (coil_value c.kind (bit_at links n) (bit_at old.memories n))) idles
coil_idle ds idle old links n (Box b) idles = tt

coils_idle : (ds : List Declaration) (idle : List Bool) (old : Moment) (links : List Bool) (n : ℕ) (es : List Element) → ((e : Element) (k : ℕ) → Contains es e → Changes ds e k → IsIdle idle k)
    → AreIdle idle (flat_map (λ e. coil_stores ds old links e.0 e.1) (enumerate_from n es))
coils_idle ds idle old links n [] idles = tt
coils_idle ds idle old links n (e ∷ es) idles =
    each-append (λ (s : ℕ × Value). IsIdle idle s.0) (coil_stores ds old links n e) (flat_map (λ e. coil_stores ds old links e.0 e.1) (enumerate_from (n + 1) es))
    (coil_idle ds idle old links n e (λ k changes. idles e k (cons_first e es) changes))
    (coils_idle ds idle old links (n + 1) es (λ other k in' changes. idles other k (cons_later e es other in') changes))

stores_idle : (ds : List Declaration) (idle : List Bool) (d : Diagram) (old : Moment) (between : List Slot) (links : List Bool) → IsOutside ds idle d → AreIdle idle (stores ds d old between links)
unfolding stores
stores_idle ds idle d old between links outside =
    each-append (λ (s : ℕ × Value). IsIdle idle s.0) (flat_map (result_stores ds between) d.elements) (flat_map (λ e. coil_stores ds old links e.0 e.1) (enumerate_from 0 d.elements))
    (results_idle ds idle between d.elements outside) (coils_idle ds idle old links 0 d.elements outside)

-- the slots after it agree where those before it did
pub leaves : (ds : List Declaration) (idle : List Bool) (d : Diagram) (dt : ℕ) (old new : Moment) (ys : List Slot) → IsOutside ds idle d → AreAgreed idle old.slots ys
    → NetworkMeaning ds d dt old new → AreAgreed idle new.slots ys
leaves ds idle d dt old new ys outside agreed m = record {
  long = agreed.long ∙ sym ((m.blocks).same_length) ∙ sym (length_stored m.between (stores ds d old m.between m.links)) ∙ sym (ap length m.slots);
  same = λ k matters.
      ap (λ s. slice_get s k) m.slots
      ∙ stored_idle idle m.between (stores ds d old m.between m.links) k (stores_idle ds idle d old m.between m.links outside) matters
      ∙ (m.blocks).others k (λ b i in' at was. matters (outside (Box b) k in' (inl at)))
      ∙ agreed.same k matters;
}
