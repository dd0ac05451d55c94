-- Symbols that are found by their places.
use Rattle.std.proofs.Common.{◌≡◌, ℕ, zero, suc, ◌+◌, Bool, true, false, cond, Option, None, MatchOption, ◌∷◌, refl, ◌⊎◌, inl, inr, List, [], Some, slice_get, sym, subst, ap, ◌∙◌, arith}
use Rattle.std.specs.List.{position, position_from}
use Rattle.std.proofs.lemmas.Iterator.Adapters.{position_from-zero}
use Rattle.lists.proofs.Members.{contains_at, at_contains}
use Rattle.lists.proofs.Mapped.{mapped_at}
use Rattle.network.specs.Steps.Numbers.{IsIndex, IsNoSpot}
use Rattle.drawings.specs.Picture.{Picture, IsSound, mark_at}
use Rattle.drawings.specs.declared.mark.Mark.{Mark}
use Rattle.drawings.specs.declared.mark.Mark.TheVariants.{ContactPart, CoilPart, BoxPart}
use Rattle.drawings.specs.declared.place.Place.{Place}
use Rattle.drawings.specs.Symbols.{Contact as ContactRecord, Coil as CoilRecord}
use Rattle.drawings.specs.declared.symbol.Symbol.{Symbol}
use Rattle.drawings.specs.declared.drawn_box.DrawnBox.{DrawnBox}
use Rattle.network.specs.declared.element.Element.{Element}
use Rattle.network.specs.declared.element.Element.TheVariants.{Contact, Coil, Box}
use Rattle.network.specs.declared.places.numbering.Spot.{Spot}
use Rattle.network.specs.declared.listing.symbol_rows.SymbolRow.{SymbolRow}
use Rattle.network.specs.Links.{place}
use Rattle.network.specs.Apart.{first_place, Has}
use Rattle.network.specs.Networks.{IsElementOf}
use Rattle.network.specs.Steps.Listing.{IsTheElementAt, IsNoElementAt}
use Rattle.network.specs.Steps.Symbols.{symbol_places, box_places, IsInside, IsBehind, BeginNowhereInside, AllElsewhere, IsNumberOf, is_symbol_at, TellsNumber, GainsInside}
use Rattle.network.proofs.Basics.{some_is, get_map}
use Rattle.network.proofs.Spots.{same_place, other_place}
use Rattle.network.proofs.Listed.Sharing.{mark_of, has_mark, begins, shared, the_element}

-- what is known of the position that is found for a test, counted from n
abbrev Sought : {X : Type 0} → (X → Bool) → List X → ℕ → Option ℕ → Type 0
Sought {X} p xs n r = MatchOption r ((k : ℕ) (x : X) → slice_get xs k ≡ Some x → p x ≡ false) (λ m. (k : ℕ) × (x : X) × (m ≡ n + k) × (slice_get xs k ≡ Some x) × (p x ≡ true))

sought_none : {X : Type 0} (p : X → Bool) (y : X) (ys : List X) → p y ≡ false → ((k : ℕ) (x : X) → slice_get ys k ≡ Some x → p x ≡ false)
    → (k : ℕ) (x : X) → slice_get (y ∷ ys) k ≡ Some x → p x ≡ false
sought_none p y ys f none zero x at = ap p (sym (some_is y x at)) ∙ f
sought_none p y ys f none (suc k) x at = none k x at

sought_later : {X : Type 0} (p : X → Bool) (y : X) (ys : List X) (n : ℕ) (r : Option ℕ) → p y ≡ false → Sought p ys (n + 1) r → Sought p (y ∷ ys) n r
sought_later p y ys n None f none = sought_none p y ys f none
sought_later p y ys n (Some m) f w = (suc w.0, w.1, (let e = w.2 in omega arith), w.3, w.4)

sought : {X : Type 0} (p : X → Bool) (xs : List X) (n : ℕ) → Sought p xs n (position_from p n xs)
sought p [] n = λ k x at. absurd (cc)
sought {X = X} p (y ∷ ys) n = by (p y) refl (sought p ys (n + 1)) where
  by : (b : Bool) → p y ≡ b → Sought p ys (n + 1) (position_from p (n + 1) ys) → Sought p (y ∷ ys) n (cond b (Some n) (position_from p (n + 1) ys))
  by true t rest = (0, y, omega arith, refl, t)
  by false f rest = sought_later p y ys n (position_from p (n + 1) ys) f rest

sought_symbol : {Kind : Type 0} (symbols : List (Symbol Kind)) (at : Place) (r : Option ℕ) → Sought (is_symbol_at at) symbols 0 r
    → TellsNumber (symbol_places symbols) at r
sought_symbol {Kind = Kind} symbols at None none = λ k h.
    let w = mapped_at (λ (s : Symbol Kind). place s.row s.column) symbols k at h in
    other_place (place w.0.row w.0.column) at (sym (none k w.0 w.1)) w.2
sought_symbol {Kind = Kind} symbols at (Some m) w =
    let same : m ≡ w.0 = (let e = w.2 in omega arith) in
    rw same (get_map (λ (s : Symbol Kind). place s.row s.column) symbols w.0 w.1 w.3 ∙ ap Some (same_place (place w.1.row w.1.column) at (sym w.4)))

-- the position that is found is the number of a symbol
pub symbol_position : {Kind : Type 0} (symbols : List (Symbol Kind)) (at : Place) (r : Option ℕ) → r ≡ position (is_symbol_at at) symbols
    → TellsNumber (symbol_places symbols) at r
symbol_position symbols at r e =
    sought_symbol symbols at r (subst (Sought (is_symbol_at at) symbols 0) (sym (position_from-zero (is_symbol_at at) symbols) ∙ sym e) (sought (is_symbol_at at) symbols 0))

-- what has the number of a place
pub symbol_there : {Kind : Type 0} (symbols : List (Symbol Kind)) (at : Place) (k : ℕ) → IsNumberOf (symbol_places symbols) at k
    → (s : Symbol Kind) × (slice_get symbols k ≡ Some s) × (place s.row s.column ≡ at)
symbol_there {Kind = Kind} symbols at k h = mapped_at (λ (s : Symbol Kind). place s.row s.column) symbols k at h

-- behind the place at which a symbol was found
pub found_behind : (old new : List SymbolRow) (at : Place) (k : ℕ) → ((p : Place) → IsInside new p → IsInside old p ⊎ IsBehind at p) → GainsInside old new at (Some k)
found_behind old new at k each p inside = elim (each p inside) [
  | inl was ↦ inl was
  | inr behind ↦ inr (behind, refl)
]

module _ (g : Picture) (sound : IsSound g) (at : Place) where
  -- what begins at a place of the index
  pub box_there : (boxes : List Spot) → IsIndex (box_places g.boxes) boxes → (m k : ℕ) → slice_get boxes m ≡ Some (record { place = at; element = k })
      → (b : DrawnBox) × (slice_get g.boxes k ≡ Some b) × (place b.top b.left ≡ at)
  box_there boxes are m k h = mapped_at (λ (b : DrawnBox). place b.top b.left) g.boxes k at (are.owned m _ h)

  other_mark : (f : Element) (mark : Mark) → IsElementOf g f → first_place f ≡ at → mark_at g at.row at.column ≡ mark → mark_of f ≡ mark
  other_mark f mark is begins' e = sym (has_mark g sound f at is (begins g sound f at begins')) ∙ e

  pub no_contact : mark_at g at.row at.column ≡ ContactPart → AllElsewhere (symbol_places g.contacts) at → IsNoElementAt g at
  no_contact mark never (Contact c) is begins' =
      let k = at_contains g.contacts c is in
      never k.0 (get_map (λ (c : ContactRecord). place c.row c.column) g.contacts k.0 c k.1 ∙ ap Some begins')
  no_contact mark never f is begins' = let m = other_mark f ContactPart is begins' mark in cc

  pub no_coil : mark_at g at.row at.column ≡ CoilPart → AllElsewhere (symbol_places g.coils) at → IsNoElementAt g at
  no_coil mark never (Coil c) is begins' =
      let k = at_contains g.coils c is in
      never k.0 (get_map (λ (c : CoilRecord). place c.row c.column) g.coils k.0 c k.1 ∙ ap Some begins')
  no_coil mark never f is begins' = let m = other_mark f CoilPart is begins' mark in cc

  pub no_box : mark_at g at.row at.column ≡ BoxPart → (boxes : List Spot) → IsIndex (box_places g.boxes) boxes → IsNoSpot boxes at → IsNoElementAt g at
  no_box mark boxes are never (Box b) is begins' =
      let k = at_contains g.boxes b is in
      let w = are.whole k.0 (place b.top b.left) (get_map (λ (b : DrawnBox). place b.top b.left) g.boxes k.0 b k.1) in
      never w.0 (w.1.0, w.1.1, w.1.2 ∙ begins')
  no_box mark boxes are never f is begins' = let m = other_mark f BoxPart is begins' mark in cc

  pub a_contact : (k : ℕ) (c : ContactRecord) → slice_get g.contacts k ≡ Some c → place c.row c.column ≡ at → IsTheElementAt g at (Contact c)
  a_contact k c there is = the_element g sound (Contact c) at (contains_at g.contacts k c there) is

  pub a_coil : (k : ℕ) (c : CoilRecord) → slice_get g.coils k ≡ Some c → place c.row c.column ≡ at → IsTheElementAt g at (Coil c)
  a_coil k c there is = the_element g sound (Coil c) at (contains_at g.coils k c there) is

  pub a_box : (k : ℕ) (b : DrawnBox) → slice_get g.boxes k ≡ Some b → place b.top b.left ≡ at → IsTheElementAt g at (Box b)
  a_box k b there is = the_element g sound (Box b) at (contains_at g.boxes k b there) is

  -- no element begins behind the first place of one that has the place too
  none_behind : (e : Element) → IsElementOf g e → first_place e ≡ at → (p : Place) → IsBehind at p → Has e p → IsNoElementAt g p
  none_behind e is begins' p behind has f is' begins'' =
      let one : e ≡ f = shared g sound e f p is is' has (begins g sound f p begins'') in
      let same : at.column ≡ p.column = ap (λ (x : Place). x.column) (sym begins' ∙ ap first_place one ∙ begins'') in
      let after = behind.1 in
      omega arith

  -- where a contact or coil was found, no other element begins inside it
  inside_element : (e : Element) → IsElementOf g e → first_place e ≡ at → ((p : Place) → IsBehind at p → Has e p)
      → (old new : List SymbolRow) (found : Option ℕ) → BeginNowhereInside g old → GainsInside old new at found → BeginNowhereInside g new
  inside_element e is begins' has old new found were each p inside = elim (each p inside) [
    | inl was ↦ were p was
    | inr behind ↦ none_behind e is begins' p behind.0 (has p behind.0)
  ]

  pub inside_contact : (k : ℕ) (c : ContactRecord) → slice_get g.contacts k ≡ Some c → place c.row c.column ≡ at → (old new : List SymbolRow) (found : Option ℕ)
      → BeginNowhereInside g old → GainsInside old new at found → BeginNowhereInside g new
  inside_contact k c there is old new found were each =
      inside_element (Contact c) (the_element g sound (Contact c) at (contains_at g.contacts k c there) is).drawn is
      (λ p behind. let b : IsBehind (place c.row c.column) p = subst (λ q. IsBehind q p) (sym is) behind in inr (inl (b.0, (let l = b.1 in omega arith), b.2)))
      old new found were each

  pub inside_coil : (k : ℕ) (c : CoilRecord) → slice_get g.coils k ≡ Some c → place c.row c.column ≡ at → (old new : List SymbolRow) (found : Option ℕ)
      → BeginNowhereInside g old → GainsInside old new at found → BeginNowhereInside g new
  inside_coil k c there is old new found were each =
      inside_element (Coil c) (the_element g sound (Coil c) at (contains_at g.coils k c there) is).drawn is
      (λ p behind. let b : IsBehind (place c.row c.column) p = subst (λ q. IsBehind q p) (sym is) behind in inr (inl (b.0, (let l = b.1 in omega arith), b.2)))
      old new found were each

  -- where nothing was found, the rows keep what they had
  pub inside_none : (old new : List SymbolRow) → BeginNowhereInside g old → GainsInside old new at None → BeginNowhereInside g new
  inside_none old new were each p inside = elim (each p inside) [
    | inl was ↦ were p was
    | inr behind ↦ (let none = behind.1 in cc)
  ]
