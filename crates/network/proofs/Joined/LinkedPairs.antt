-- The pairs of elements between which state passes, and the labels made from them.
use Rattle.std.proofs.Common.{◌≡◌, ℕ, ◌+◌, ◌-◌, ◌<◌, ◌≤◌, ◌⊎◌, ◌↔◌, inl, inr, List, [], ◌∷◌, ◌++◌, Option, Some, None, Contains, All, take, drop, get_or, set, slice_get, slice_index, length, refl, sym, ap, ◌∙◌, arith}
use Rattle.std.proofs.lemmas.Bool.{cases_eq, cases_lt}
use Rattle.std.proofs.lemmas.List.{append-nil, drop_all, take_all}
use Rattle.std.proofs.lemmas.List.Elements.{Contains-append_left, Contains-push, Contains-push_cases, Contains-get_or}
use Rattle.std.proofs.lemmas.Option.{slice_get_within, slice_get-get_or}
use Rattle.drawings.specs.Picture.{Picture, IsSound}
use Rattle.drawings.specs.declared.place.Place.{Place}
use Rattle.drawings.specs.declared.drawn_box.DrawnBox.{DrawnBox}
use Rattle.drawings.specs.declared.drawn_box.DrawnPin.{DrawnPin}
use Rattle.drawings.specs.declared.drawn_box.Side.TheVariants.{Left}
use Rattle.network.specs.declared.element.Element.{Element}
use Rattle.network.specs.declared.element.Element.TheVariants.{Wire, Join, Upright, Contact, Coil, Box}
use Rattle.network.specs.declared.joining.labels.Pair.{Pair}
use Rattle.network.specs.declared.joining.row_table.InRow.{InRow}
use Rattle.network.specs.Links.{place, Gives, Takes, Stands, IsPinPlace}
use Rattle.network.specs.Apart.{first_place, Has, Precedes}
use Rattle.network.specs.Networks.{IsElementOf, AreLinked, Chained}
use Rattle.network.specs.Networks.Chained.{here, along}
use Rattle.network.specs.Steps.Joined.{Joined, IsWithin}
use Rattle.network.specs.Steps.Joined.Joined.{here as joined_here, along as joined_along, back as joined_back}
use Rattle.network.specs.Steps.Listing.{AreElementsOf}
use Rattle.network.specs.Steps.Pairs.{AreLaidOut, IsPairOf, pair_of, Enters, Leaves, AreLast, AreTakers, IsLeftPair, IsUnder, IsUpperPair, IsNewPair, Adds, ArePairsTo, AreLabels}
use Rattle.network.specs.Steps.Rows.{in_row, Puts}
use Rattle.network.proofs.Basics.{some_is, one_at}
use Rattle.network.proofs.Elements.{place_same, stands_first}
use Rattle.network.proofs.Joined.RowTables.{IsPinTo, pin_to_wide, pin_to_here, pin_to_cases, pin_to_skip, puts_as, puts_one}
use Rattle.network.proofs.Joined.Spreading.{Joined-trans}
use Rattle.network.proofs.Listed.Sharing.{same_number}

-- pairs are added
pub adds_none : (P : Pair → Type 0) (pairs : List Pair) → ((m : Pair) → P m → ⊥) → Adds P pairs pairs
adds_none P pairs never = record { kept = λ m in'. in'; each = λ m in'. inl in'; added = λ m such. absurd (never m such) }

pub adds_as : (P Q : Pair → Type 0) (old new : List Pair) → ((m : Pair) → P m → Q m) → ((m : Pair) → Q m → P m) → Adds P old new → Adds Q old new
adds_as P Q old new there back adds = record {
  kept = adds.kept;
  each = λ m in'. elim (adds.each m in') [ inl was ↦ inl was | inr is ↦ inr (there m is) ];
  added = λ m such. adds.added m (back m such);
}

pub adds_one : (P : Pair → Type 0) (n : Pair) (pairs : List Pair) → P n → ((m : Pair) → P m → m ≡ n) → Adds P pairs (pairs ++ n ∷ [])
adds_one P n pairs such only = record {
  kept = λ m in'. Contains-append_left pairs (n ∷ []) m in';
  each = λ m in'. elim (Contains-push_cases pairs n m in') [ inl old ↦ inl old | inr e ↦ inr (rw (← e) such) ];
  added = λ m is. rw (only m is) (Contains-push pairs n);
}

pub adds_then : (P Q : Pair → Type 0) (old mid new : List Pair) → Adds P old mid → Adds Q mid new → Adds (λ m. P m ⊎ Q m) old new
adds_then P Q old mid new one two = record {
  kept = λ m in'. two.kept m (one.kept m in');
  each = λ m in'. elim (two.each m in') [ inl was ↦ elim (one.each m was) [ inl old' ↦ inl old' | inr p ↦ inr (inl p) ] | inr q ↦ inr (inr q) ];
  added = λ m such. elim such [ inl p ↦ two.kept m (one.added m p) | inr q ↦ two.added m q ];
}

-- the pair on the left of a place, if its column is next
pub left_pair : (last : List (Option InRow)) (at : Place) (k : ℕ) (t : InRow) (pairs : List Pair) → slice_get last at.row ≡ Some (Some t) → at.column ≡ t.column + 1
    → Adds (IsLeftPair last at k) pairs (pairs ++ record { one = t.element; other = k } ∷ [])
left_pair last at k t pairs there next = adds_one (IsLeftPair last at k) (pair_of t.element k) pairs (t, there, next, refl)
    (λ m is. is.3 ∙ ap (λ (x : InRow). pair_of x.element k) (some_is is.0 t (some_is (Some is.0) (Some t) (sym is.1 ∙ there))))

pub no_left_pair : (last : List (Option InRow)) (at : Place) (k : ℕ) (t : InRow) (pairs : List Pair) → slice_get last at.row ≡ Some (Some t) → (at.column ≡ t.column + 1 → ⊥) → Adds (IsLeftPair last at k) pairs pairs
no_left_pair last at k t pairs there far = adds_none (IsLeftPair last at k) pairs
    (λ m is. far (is.2 ∙ ap (λ (x : InRow). x.column + 1) (some_is is.0 t (some_is (Some is.0) (Some t) (sym is.1 ∙ there)))))

pub nothing_left : (last : List (Option InRow)) (at : Place) (k : ℕ) (pairs : List Pair) → slice_get last at.row ≡ Some None → Adds (IsLeftPair last at k) pairs pairs
nothing_left last at k pairs none = adds_none (IsLeftPair last at k) pairs
    (λ m is. let h : ◌≡◌ {A = Option InRow} None (Some is.0) = some_is None (Some is.0) (sym none ∙ is.1) in cc)

-- the pair with the element before, if it has an upright above
pub upper_pair : (es : List Element) (at : Place) (k j : ℕ) (e : Element) (pairs : List Pair) → k ≡ j + 1 → slice_get es j ≡ Some e → IsUnder e at
    → Adds (IsUpperPair es at k) pairs (pairs ++ record { one = j; other = k } ∷ [])
upper_pair es at k j e pairs next there under = adds_one (IsUpperPair es at k) (pair_of j k) pairs (j, e, next, there, under, refl)
    (λ m is. is.5 ∙ ap (λ i. pair_of i k) (let n = is.2 in omega arith))

pub no_upper_pair : (es : List Element) (at : Place) (k j : ℕ) (e : Element) (pairs : List Pair) → k ≡ j + 1 → slice_get es j ≡ Some e → (IsUnder e at → ⊥) → Adds (IsUpperPair es at k) pairs pairs
no_upper_pair es at k j e pairs next there never = adds_none (IsUpperPair es at k) pairs
    (λ m is. never (moved is.1 e (one_at es is.0 j is.1 e (let n = is.2 in omega arith) is.3 there) is.4))
  where
    moved : (x y : Element) → x ≡ y → IsUnder x at → IsUnder y at
    moved x y e h = rw (← e) h

pub first_alone : (es : List Element) (at : Place) (k : ℕ) (pairs : List Pair) → k ≡ 0 → Adds (IsUpperPair es at k) pairs pairs
first_alone es at k pairs first = adds_none (IsUpperPair es at k) pairs (λ m is. let n = is.2 in omega arith)

-- the pairs of each kind of element
module _ (es : List Element) (last : List (Option InRow)) (k : ℕ) (old new : List Pair) where
  lefts : (e : Element) (at : Place) → ((p : Place) → at ≡ p → Enters e p) → ((p : Place) → Enters e p → at ≡ p) → ((p : Place) → Stands e p → ⊥) → Adds (IsLeftPair last at k) old new → Adds (IsNewPair es last e k) old new
  lefts e at enters entered none adds = adds_as (IsLeftPair last at k) (IsNewPair es last e k) old new
      (λ m is. inl (at, enters at refl, is))
      (λ m h. elim h [ inl one ↦ moved one.0 at (sym (entered one.0 one.1)) m one.2 | inr up ↦ absurd (none up.0 up.1) ])
      adds
    where
      moved : (p q : Place) → p ≡ q → (m : Pair) → IsLeftPair last p k m → IsLeftPair last q k m
      moved p q e m h = rw (← e) h

  pub wire_pairs : (at : Place) → Adds (IsLeftPair last at k) old new → Adds (IsNewPair es last (Wire at) k) old new
  wire_pairs at adds = lefts (Wire at) at (λ p e. e) (λ p e. e) (λ p n. n) adds

  pub symbol_pairs : (e : Element) (at : Place) → ((p : Place) → at ≡ p → Enters e p) → ((p : Place) → Enters e p → at ≡ p) → ((p : Place) → Stands e p → ⊥) → Adds (IsLeftPair last at k) old new → Adds (IsNewPair es last e k) old new
  symbol_pairs e at enters entered none adds = lefts e at enters entered none adds

  pub upright_pairs : (at : Place) → Adds (IsUpperPair es at k) old new → Adds (IsNewPair es last (Upright at) k) old new
  upright_pairs at adds = adds_as (IsUpperPair es at k) (IsNewPair es last (Upright at) k) old new
      (λ m is. inr (at, refl, is))
      (λ m h. elim h [ inl one ↦ absurd one.1 | inr up ↦ moved up.0 at (sym up.1) m up.2 ])
      adds
    where
      moved : (p q : Place) → p ≡ q → (m : Pair) → IsUpperPair es p k m → IsUpperPair es q k m
      moved p q e m h = rw (← e) h

  pub join_pairs : (at : Place) (mid : List Pair) → Adds (IsLeftPair last at k) old mid → Adds (IsUpperPair es at k) mid new → Adds (IsNewPair es last (Join at) k) old new
  join_pairs at mid one two = adds_as (λ m. IsLeftPair last at k m ⊎ IsUpperPair es at k m) (IsNewPair es last (Join at) k) old new
      (λ m h. elim h [ inl l ↦ inl (at, refl, l) | inr u ↦ inr (at, refl, u) ])
      (λ m h. elim h [ inl l ↦ inl (moved l.0 at (sym l.1) m l.2) | inr u ↦ inr (moved' u.0 at (sym u.1) m u.2) ])
      (adds_then (IsLeftPair last at k) (IsUpperPair es at k) old mid new one two)
    where
      moved : (p q : Place) → p ≡ q → (m : Pair) → IsLeftPair last p k m → IsLeftPair last q k m
      moved p q e m h = rw (← e) h

      moved' : (p q : Place) → p ≡ q → (m : Pair) → IsUpperPair es p k m → IsUpperPair es q k m
      moved' p q e m h = rw (← e) h

  pub box_pairs : (b : DrawnBox) → Adds (λ m. (p : Place) × IsPinPlace Left b p × IsLeftPair last p k m) old new → Adds (IsNewPair es last (Box b) k) old new
  box_pairs b adds = adds_as (λ m. (p : Place) × IsPinPlace Left b p × IsLeftPair last p k m) (IsNewPair es last (Box b) k) old new
      (λ m is. inl is)
      (λ m h. elim h [ inl one ↦ one | inr up ↦ absurd up.1 ])
      adds

  -- what is known of the element at k
  pub of_element : (e : Element) → slice_get es k ≡ Some e → Adds (IsNewPair es last e k) old new → (f : Element) → slice_get es k ≡ Some f → Adds (IsNewPair es last f k) old new
  of_element e at adds f at' = rw (one_at es k k f e refl at' at) adds

-- the pairs of one pin more
pub pins_pair : (last : List (Option InRow)) (b : DrawnBox) (k n : ℕ) (pin : DrawnPin) (old mid new : List Pair) → slice_get b.pins n ≡ Some pin → pin.side ≡ Left → Adds (IsLeftPair last (place pin.row b.left) k) mid new
    → Adds (λ m. (p : Place) × IsPinTo Left b n p × IsLeftPair last p k m) old mid → Adds (λ m. (p : Place) × IsPinTo Left b (n + 1) p × IsLeftPair last p k m) old new
pins_pair last b k n pin old mid new at is two one = adds_as (λ m. ((p : Place) × IsPinTo Left b n p × IsLeftPair last p k m) ⊎ IsLeftPair last (place pin.row b.left) k m) _ old new
    (λ m h. elim h [ inl was ↦ (was.0, pin_to_wide Left b n was.0 was.1, was.2) | inr l ↦ (place pin.row b.left, pin_to_here Left b n pin at is (place pin.row b.left) refl, l) ])
    (λ m h. elim (pin_to_cases Left b n pin at h.0 h.1) [ inl was ↦ inl (h.0, was, h.2) | inr e ↦ inr (moved h.0 (place pin.row b.left) (sym e) m h.2) ])
    (adds_then _ (IsLeftPair last (place pin.row b.left) k) old mid new one two)
  where
    moved : (p q : Place) → p ≡ q → (m : Pair) → IsLeftPair last p k m → IsLeftPair last q k m
    moved p q e m h = rw (← e) h

pub pins_skip : (last : List (Option InRow)) (b : DrawnBox) (k n : ℕ) (pin : DrawnPin) (old mid : List Pair) → slice_get b.pins n ≡ Some pin → (pin.side ≡ Left → ⊥)
    → Adds (λ m. (p : Place) × IsPinTo Left b n p × IsLeftPair last p k m) old mid → Adds (λ m. (p : Place) × IsPinTo Left b (n + 1) p × IsLeftPair last p k m) old mid
pins_skip last b k n pin old mid at other adds = adds_as (λ m. (p : Place) × IsPinTo Left b n p × IsLeftPair last p k m) _ old mid
    (λ m h. (h.0, pin_to_wide Left b n h.0 h.1, h.2)) (λ m h. (h.0, pin_to_skip Left b n pin at other h.0 h.1, h.2)) adds

-- where state leaves and enters
leaves_gives : (e : Element) (p : Place) → Leaves e p → Gives e p
leaves_gives (Wire at) p h = h
leaves_gives (Join at) p h = h
leaves_gives (Upright at) p h = h
leaves_gives (Contact c) p h = let r = ap (λ (x : Place). x.row) h in let d = ap (λ (x : Place). x.column) h in ((omega arith), (omega arith), (omega arith))
leaves_gives (Coil c) p h = let r = ap (λ (x : Place). x.row) h in let d = ap (λ (x : Place). x.column) h in ((omega arith), (omega arith), (omega arith))
leaves_gives (Box b) p h = h

gives_leaves : (e : Element) (p : Place) → Gives e p → (c : ℕ) × Leaves e (place p.row c) × (p.column ≤ c)
gives_leaves (Wire at) p h = (p.column, h, omega arith)
gives_leaves (Join at) p h = (p.column, h, omega arith)
gives_leaves (Upright at) p h = absurd h
gives_leaves (Contact c) p h = (c.column + 2, ap (λ r. place r (c.column + 2)) (sym h.0), (let l = h.2 in omega arith))
gives_leaves (Coil c) p h = (c.column + 2, ap (λ r. place r (c.column + 2)) (sym h.0), (let l = h.2 in omega arith))
gives_leaves (Box b) p h = (p.column, h, omega arith)

enters_takes : (e : Element) (p : Place) → Enters e p → Takes e p
enters_takes (Wire at) p h = h
enters_takes (Join at) p h = h
enters_takes (Upright at) p h = h
enters_takes (Contact c) p h = let r = ap (λ (x : Place). x.row) h in let d = ap (λ (x : Place). x.column) h in ((omega arith), (omega arith), (omega arith))
enters_takes (Coil c) p h = let r = ap (λ (x : Place). x.row) h in let d = ap (λ (x : Place). x.column) h in ((omega arith), (omega arith), (omega arith))
enters_takes (Box b) p h = h

-- state comes to a place of an element from its left, or from another place of it
abbrev IsBehind : Element → Place → Type 0
IsBehind e p = (q : Place) × Has e q × (q.row ≡ p.row) × (p.column ≡ q.column + 1)

symbol_enters : (e : Element) (row column : ℕ) (p : Place) → ((q : Place) → (q.row ≡ row) × (column ≤ q.column) × (q.column ≤ column + 2) → Gives e q) → (p.row ≡ row) × (column ≤ p.column) × (p.column ≤ column + 2)
    → (place row column ≡ p) ⊎ IsBehind e p
symbol_enters e row column p gives h = elim (cases_eq p.column column) [
  | inl same ↦ inl (place_same (place row column) p (sym h.0) (sym same))
  | inr ne ↦ inr (place p.row (p.column - 1), inr (inl (gives (place p.row (p.column - 1)) (h.0, (let l = h.1 in omega arith), (let l = h.2 in omega arith)))), refl, (let l = h.1 in omega arith))
]

takes_enters : (e : Element) (p : Place) → Takes e p → Enters e p ⊎ IsBehind e p
takes_enters (Wire at) p h = inl h
takes_enters (Join at) p h = inl h
takes_enters (Upright at) p h = absurd h
takes_enters (Contact c) p h = symbol_enters (Contact c) c.row c.column p (λ q is. is) h
takes_enters (Coil c) p h = symbol_enters (Coil c) c.row c.column p (λ q is. is) h
takes_enters (Box b) p h = inl h

has_gives : (e : Element) (p : Place) → Gives e p → Has e p
has_gives e p h = inr (inl h)

has_takes : (e : Element) (p : Place) → Takes e p → Has e p
has_takes e p h = inr (inr (inl h))

-- one taker is put
takes_row : (e : Element) (p : Place) → ((b : DrawnBox) → e ≡ Box b → ⊥) → Takes e p → p.row ≡ (first_place e).row
takes_row (Wire at) p other h = let r = ap (λ (x : Place). x.row) h in omega arith
takes_row (Join at) p other h = let r = ap (λ (x : Place). x.row) h in omega arith
takes_row (Upright at) p other h = absurd h
takes_row (Contact c) p other h = h.0
takes_row (Coil c) p other h = h.0
takes_row (Box b) p other h = absurd (other b refl)

pub taker_put : (e : Element) (k column row : ℕ) (old new : List (Option InRow)) → ((b : DrawnBox) → e ≡ Box b → ⊥) → row ≡ (first_place e).row → row < length old → Takes e (place row column)
    → new ≡ set old row (Some (in_row k column)) → Puts (λ p. Takes e p × (p.column ≡ column)) k old new
taker_put e k column row old new other is within takes made = rw made (puts_as (λ p. place row column ≡ p) (λ p. Takes e p × (p.column ≡ column)) k old (set old row (Some (in_row k column)))
    (λ p same. (rw (← same) takes, sym (ap (λ (x : Place). x.column) same)))
    (λ p h. place_same (place row column) p (is ∙ sym (takes_row e p other h.0)) (sym h.1))
    (puts_one (place row column) k old within))

none_there : (table : List (Option InRow)) → ((r : ℕ) (t : Option InRow) → slice_get table r ≡ Some t → t ≡ None) → (r : ℕ) (t : InRow) → slice_get table r ≡ Some (Some t) → ⊥
none_there table none r t at = let h = none r (Some t) at in cc

pub last_none : (es : List Element) (table : List (Option InRow)) → ((r : ℕ) (t : Option InRow) → slice_get table r ≡ Some t → t ≡ None) → AreLast es table 0
last_none es table none = record { found = λ r t at. absurd (none_there table none r t at); whole = λ k e p lt. absurd (omega arith) }

pub takers_none : (es : List Element) (column : ℕ) (table : List (Option InRow)) → ((r : ℕ) (t : Option InRow) → slice_get table r ≡ Some t → t ≡ None) → AreTakers es column table 0
takers_none es column table none = record { found = λ r t at. absurd (none_there table none r t at); whole = λ k e r lt. absurd (omega arith) }

-- state passes to an element where it begins or on the right of that
takes_behind : (e : Element) (p : Place) → Takes e p → (first_place e).column ≤ p.column
takes_behind (Wire at) p h = let r = ap (λ (x : Place). x.column) h in omega arith
takes_behind (Join at) p h = let r = ap (λ (x : Place). x.column) h in omega arith
takes_behind (Upright at) p h = absurd h
takes_behind (Contact c) p h = h.1
takes_behind (Coil c) p h = h.1
takes_behind (Box b) p h = let r = h.0 in omega arith

precedes_column : (p q : Place) → Precedes p q → p.column ≤ q.column
precedes_column p q (inl h) = omega arith
precedes_column p q (inr h) = let r = h.0 in omega arith

module _ (rows : ℕ) (es : List Element) (laid : AreLaidOut rows es) (n : ℕ) (e : Element) (at_e : slice_get es n ≡ Some e) where
  -- where an element begins behind a column, neither it nor a later one takes state there
  pub takers_all : (column : ℕ) (table : List (Option InRow)) → n < length es → column < (first_place e).column → AreTakers es column table n → AreTakers es column table (length es)
  takers_all column table within behind done = record {
    found = λ r t at. (let w = done.found r t at in (w.0, w.1, (let lt = w.2 in omega arith), w.3));
    whole = λ k f r lt at takes. elim (cases_lt k n) [
      | inl earlier ↦ done.whole k f r earlier at takes
      | inr later ↦ absurd (too_far k f r later at takes)
    ];
  }
    where
      begins_behind : (k : ℕ) (f : Element) → n ≤ k → slice_get es k ≡ Some f → (first_place e).column ≤ (first_place f).column
      begins_behind k f later at = elim (cases_eq k n) [
        | inl same ↦ (let q = ap (λ x. (first_place x).column) (one_at es k n f e same at at_e) in omega arith)
        | inr ne ↦ precedes_column (first_place e) (first_place f) (laid.rising n k e f (omega arith) at_e at)
      ]

      too_far : (k : ℕ) (f : Element) (r : ℕ) → n ≤ k → slice_get es k ≡ Some f → Takes f (place r column) → ⊥
      too_far k f r later at takes =
          let a = begins_behind k f later at in
          let b = takes_behind f (place r column) takes in
          omega arith

  pub last_more : (old new : List (Option InRow)) → Puts (Leaves e) n old new → AreLast es old n → AreLast es new (n + 1)
  last_more old new puts done = record {
    found = λ r t at. elim (puts.each r t at) [
      | inl was ↦ (let w = done.found r t was in (w.0, w.1, (let lt = w.2 in omega arith), w.3))
      | inr is ↦ (e, ap (slice_get es) is.0 ∙ at_e, (let i = is.0 in omega arith), leaves_gives e (place r t.column) is.1)
    ];
    whole = λ k f p lt at gives. elim (cases_eq k n) [
      | inl same ↦ (let w = gives_leaves e p (moved f (one_at es k n f e same at at_e) p gives) in (in_row n w.0, puts.put (place p.row w.0) w.1, w.2))
      | inr ne ↦ earlier k f p (omega arith) at gives
    ];
  }
    where
      moved : (f : Element) → f ≡ e → (p : Place) → Gives f p → Gives e p
      moved f same p h = rw (← same) h

      earlier : (k : ℕ) (f : Element) (p : Place) → k < n → slice_get es k ≡ Some f → Gives f p → (t : InRow) × (slice_get new p.row ≡ Some (Some t)) × (p.column ≤ t.column)
      earlier k f p lt at gives =
          let w = done.whole k f p lt at gives in
          elim (puts.kept p.row w.0 w.1) [
            | inl still ↦ (w.0, still, w.2)
            | inr over ↦ (
              in_row n over.0,
              over.2,
              (let less = laid.right k n f e p (place p.row over.0) lt at at_e (has_gives f p gives) (has_gives e (place p.row over.0) (leaves_gives e (place p.row over.0) over.1)) refl in omega arith),
            )
          ]

  pub takers_more : (column : ℕ) (old new : List (Option InRow)) → Puts (λ p. Takes e p × (p.column ≡ column)) n old new → AreTakers es column old n → AreTakers es column new (n + 1)
  takers_more column old new puts done = record {
    found = λ r t at. elim (puts.each r t at) [
      | inl was ↦ (let w = done.found r t was in (w.0, w.1, (let lt = w.2 in omega arith), w.3))
      | inr is ↦ (e, ap (slice_get es) is.0 ∙ at_e, (let i = is.0 in omega arith), column_moved e r t.column column is.1.1 is.1.0)
    ];
    whole = λ k f r lt at takes. elim (cases_eq k n) [
      | inl same ↦ puts.put (place r column) (moved f (one_at es k n f e same at at_e) (place r column) takes, refl) ∙ ap (λ i. Some (Some (in_row i column))) (sym same)
      | inr ne ↦ earlier k f r (omega arith) at takes
    ];
  }
    where
      column_moved : (f : Element) (r a b : ℕ) → a ≡ b → Takes f (place r a) → Takes f (place r b)
      column_moved f r a b same h = rw (← same) h

      moved : (f : Element) → f ≡ e → (p : Place) → Takes f p → Takes e p
      moved f same p h = rw (← same) h

      earlier : (k : ℕ) (f : Element) (r : ℕ) → k < n → slice_get es k ≡ Some f → Takes f (place r column) → slice_get new r ≡ Some (Some (record { element = k; column = column }))
      earlier k f r lt at takes = elim (puts.kept r (record { element = k; column = column }) (done.whole k f r lt at takes)) [
        | inl still ↦ still
        | inr over ↦ absurd (let c = over.1.1 in
            let less = laid.right k n f e (place r column) (place r over.0) lt at at_e (has_takes f (place r column) takes) (has_takes e (place r over.0) over.1.0) refl in omega arith)
      ]

  pub pairs_more : (last : List (Option InRow)) (old new : List Pair) → AreLast es last n → Adds (IsNewPair es last e n) old new → ArePairsTo es old n → ArePairsTo es new (n + 1)
  pairs_more last old new ends adds done = record {
    each = λ m in'. elim (adds.each m in') [ inl was ↦ done.each m was | inr is ↦ linked m is ];
    every = λ i j f h lt lt' at at' link. elim (cases_eq j n) [
      | inl same ↦ index i j same (paired i f (omega arith) at (to_here f h (one_at es j n h e same at' at_e) link))
      | inr ne ↦ adds.kept (pair_of i j) (done.every i j f h lt (omega arith) at at' link)
    ];
  }
    where
      to_here : (f h : Element) → h ≡ e → AreLinked f h → AreLinked f e
      to_here f h same link = rw (← same) link

      index : (i j : ℕ) → j ≡ n → Contains new (pair_of i n) → Contains new (pair_of i j)
      index i j same in' = rw same in'

      pair_is : (m x : Pair) → m ≡ x → IsPairOf es x → IsPairOf es m
      pair_is m x same is = rw same is

      linked : (m : Pair) → IsNewPair es last e n m → IsPairOf es m
      linked m (inl l) =
          let t = l.2.0 in
          let w = ends.found l.0.row t l.2.1 in
          pair_is m (pair_of t.element n) l.2.3 (w.0, e, w.1, at_e, (place l.0.row t.column, l.0, inl (inl (record { row = refl; column = l.2.2; gives = w.3; takes = enters_takes e l.0 l.1 }))))
      linked m (inr u) =
          let v = u.2 in
          let q = v.4 in
          pair_is m (pair_of v.0 n) v.5 (v.1, e, v.3, at_e, (q.0, u.0, inl (inr (record { row = inl q.2; column = q.3; from = q.1; to = u.1 }))))

      left_in : (i : ℕ) (f : Element) (p q : Place) → i < n → slice_get es i ≡ Some f → q.row ≡ p.row → q.column ≡ p.column + 1 → Gives f p → Takes e q → Contains new (pair_of i n)
      left_in i f p q lt at row col gives takes = elim (takes_enters e q takes) [
        | inr behind ↦ absurd (let less = laid.right i n f e p behind.0 lt at at_e (has_gives f p gives) behind.1 (sym (behind.2 ∙ row)) in let c = behind.3 in omega arith)
        | inl enters ↦ (let w = ends.whole i f p lt at gives in
            let t = w.0 in
            let x = ends.found p.row t w.1 in
            let far = laid.right t.element n x.0 e (place p.row t.column) q x.2 x.1 at_e (has_gives x.0 (place p.row t.column) x.3) (has_takes e q takes) (sym row) in
            let column : t.column ≡ p.column = (let le = w.2 in omega arith) in
            let same : t.element ≡ i = one_giver t.element i x.0 f p t.column x.1 at x.3 gives column in
            adds.added (pair_of i n) (inl (q, enters, (t, ap (slice_get last) row ∙ w.1, (omega arith), ap (λ j. pair_of j n) (sym same)))))
      ]
        where
          one_giver : (j i : ℕ) (h f : Element) (p : Place) (c : ℕ) → slice_get es j ≡ Some h → slice_get es i ≡ Some f → Gives h (place p.row c) → Gives f p → c ≡ p.column → j ≡ i
          one_giver j i h f p c at_h at_f gives_h gives_f col = elim (cases_lt j i) [
            | inl lt' ↦ absurd (let less = laid.right j i h f (place p.row c) p lt' at_h at_f (has_gives h (place p.row c) gives_h) (has_gives f p gives_f) refl in omega arith)
            | inr ge ↦ elim (cases_lt i j) [
              | inl lt' ↦ absurd (let less = laid.right i j f h p (place p.row c) lt' at_f at_h (has_gives f p gives_f) (has_gives h (place p.row c) gives_h) refl in omega arith)
              | inr le ↦ omega arith
            ]
          ]

      between : (p x q : Place) → p.column ≡ q.column → q.row ≡ p.row + 1 → Precedes p x → Precedes x q → ⊥
      between p x q col row (inl a) (inl b) = omega arith
      between p x q col row (inl a) (inr b) = let c = b.0 in omega arith
      between p x q col row (inr a) (inl b) = let c = a.0 in omega arith
      between p x q col row (inr a) (inr b) = let c = a.1 in let d = b.1 in omega arith

      below : (p q : Place) → p.column ≡ q.column → (q.row ≡ p.row + 1) ⊎ (p.row ≡ q.row + 1) → Precedes p q → q.row ≡ p.row + 1
      below p q col (inl down) before = down
      below p q col (inr up) (inl a) = absurd (omega arith)
      below p q col (inr up) (inr a) = absurd (let r = a.1 in omega arith)

      upper_in : (i : ℕ) (f : Element) (p q : Place) → i < n → slice_get es i ≡ Some f → p.column ≡ q.column → (q.row ≡ p.row + 1) ⊎ (p.row ≡ q.row + 1) → Stands f p → Stands e q → Contains new (pair_of i n)
      upper_in i f p q lt at col row stands stands' =
          let first : first_place f ≡ p = stands_first f p stands in
          let first' : first_place e ≡ q = stands_first e q stands' in
          let before : Precedes p q = rw (← first, ← first') (laid.rising i n f e lt at at_e) in
          let down = below p q col row before in
          elim (cases_lt (i + 1) n) [
            | inr ge ↦ adds.added (pair_of i n) (inr (q, stands', (i, f, (omega arith), at, (p, stands, down, sym col), refl)))
            | inl less ↦ absurd (let x = get_or es (i + 1) f in
                let at_x : slice_get es (i + 1) ≡ Some x = slice_get-get_or es (i + 1) f (let w = slice_get_within es n e at_e in omega arith) in
                between p (first_place x) q col down (rw (← first) (laid.rising i (i + 1) f x (omega arith) at at_x)) (rw (← first') (laid.rising (i + 1) n x e less at_x at_e)))
          ]

      paired : (i : ℕ) (f : Element) → i < n → slice_get es i ≡ Some f → AreLinked f e → Contains new (pair_of i n)
      paired i f lt at link = elim link.2 [
        | inl there ↦ elim there [
          | inl right ↦ left_in i f link.0 link.1 lt at right.row right.column right.gives right.takes
          | inr up ↦ upper_in i f link.0 link.1 lt at (sym up.column) up.row up.from up.to
        ]
        | inr back' ↦ elim back' [
          | inl right ↦ absurd (let less = laid.right i n f e link.0 link.1 lt at at_e (has_takes f link.0 right.takes) (has_gives e link.1 right.gives) right.row in let c = right.column in omega arith)
          | inr up ↦ upper_in i f link.0 link.1 lt at up.column (elim up.row [ inl a ↦ inr a | inr b ↦ inl b ]) up.to up.from
        ]
      ]

pub pairs_none : (es : List Element) → ArePairsTo es [] 0
pairs_none es = record { each = λ p in'. absurd (let lt = in'.1 in omega arith); every = λ i j e f lt lt'. absurd (omega arith) }

module _ (g : Picture) (sound : IsSound g) (es : List Element) (are : AreElementsOf g es) (pairs : List Pair) (are_pairs : ArePairsTo es pairs (length es)) where
  linked_back : (e f : Element) → AreLinked e f → AreLinked f e
  linked_back e f l = (l.1, l.0, elim l.2 [ inl a ↦ inr a | inr b ↦ inl b ])

  link_joined : (i j : ℕ) (e f : Element) → slice_get es i ≡ Some e → slice_get es j ≡ Some f → AreLinked e f → Joined pairs i j
  link_joined i j e f at at' linked = elim (cases_lt i j) [
    | inl lt ↦ joined_along (are_pairs.every i j e f lt (slice_get_within es j f at') at at' linked) joined_here
    | inr ge ↦ elim (cases_lt j i) [
      | inl lt ↦ joined_back (are_pairs.every j i f e lt (slice_get_within es i e at) at' at (linked_back e f linked)) joined_here
      | inr le ↦ (let same : j ≡ i = omega arith in rw same joined_here)
    ]
  ]

  -- a chain of elements of the drawing ends at one of them
  chained_drawn : {e f : Element} → IsElementOf g e → Chained g e f → IsElementOf g f
  chained_drawn is here = is
  chained_drawn is (along one is' linked) = is'

  joined_from_chained : {e f : Element} → (i j : ℕ) → slice_get es i ≡ Some e → slice_get es j ≡ Some f → Chained g e f → Joined pairs i j
  joined_from_chained i j at at' (here {e}) = rw (same_number g sound es are i j e e at at' refl) joined_here
  joined_from_chained i j at at' (along {e} {f} {h} one is linked) =
      let w = are.whole f (chained_drawn (are.drawn i e at) one) in
      Joined-trans pairs (joined_from_chained i w.0 at w.1 one) (link_joined w.0 j f h w.1 at' linked)

  chained_from_joined : {i j : ℕ} → (e f : Element) → slice_get es i ≡ Some e → slice_get es j ≡ Some f → Joined pairs i j → Chained g e f
  chained_from_joined e f at at' joined_here = rw (some_is e f (sym at ∙ at')) here
  chained_from_joined e f at at' (joined_along {i} {p} in' one) =
      let w = are_pairs.each p in' in
      rw (some_is f w.1 (sym at' ∙ w.3)) (along (chained_from_joined e w.0 at w.2 one) (are.drawn p.other w.1 w.3) w.4)
  chained_from_joined e f at at' (joined_back {i} {p} in' one) =
      let w = are_pairs.each p in' in
      rw (some_is f w.0 (sym at' ∙ w.2)) (along (chained_from_joined e w.1 at w.3 one) (are.drawn p.one w.0 w.2) (linked_back w.0 w.1 w.4))

  pub labels_are : (labels : List ℕ) → length labels ≡ length es → ((k : ℕ) → k < length es → slice_index labels k < length es)
      → ((i j : ℕ) → i < length es → j < length es → (slice_index labels i ≡ slice_index labels j) ↔ Joined pairs i j) → AreLabels g es labels
  labels_are labels long label tell = record {
    long = long;
    label = label;
    joined = λ i j e f at at'. (let t = tell i j (slice_get_within es i e at) (slice_get_within es j f at') in
        ((λ h. chained_from_joined e f at at' (t.0 h)), (λ h. t.1 (joined_from_chained i j at at' h))));
  }

-- the numbers of pairs are within the list
pub all_within : (es : List Element) (pairs : List Pair) (n m : ℕ) → m ≡ length es → ArePairsTo es pairs n → All (IsWithin m) pairs
all_within es pairs n m e are k d lt =
    let w = are.each (get_or pairs k d) (Contains-get_or pairs k d lt) in
    record { one = (let a = slice_get_within es (get_or pairs k d).one w.0 w.2 in omega arith); other = (let a = slice_get_within es (get_or pairs k d).other w.1 w.3 in omega arith) }

-- a list that was written over as a whole
pub written_over : (n : ℕ) (xs ys : List ℕ) → length xs ≡ length ys → n ≡ length ys → take n (xs ++ drop (length xs) ys) ≡ xs
written_over n xs ys e f = ap (λ t. take n (xs ++ t)) (drop_all (length xs) ys (omega arith)) ∙ ap (take n) (append-nil xs) ∙ take_all n xs (omega arith)
