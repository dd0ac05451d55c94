-- The contacts and coils of the lists stand where they say, and each is listed once.
use Rattle.std.proofs.Common.{ℕ, ◌+◌, ◌<◌, ◌≤◌, ◌≡◌, ◌≢◌, Option, Some, None, sym, ap, ◌∙◌, arith}
use Rattle.std.specs.List.{slice_get}
use Rattle.std.proofs.lemmas.Option.{none-some, same_Some}
use Rattle.lists.specs.Rising.{IsAlikeOnce}
use Rattle.drawings.specs.declared.mark.Mark.TheVariants.{ContactPart, CoilPart}
use Rattle.drawings.specs.Symbols.{Contact, Coil}
use Rattle.drawings.specs.declared.symbol.Symbol.{Symbol}
use Rattle.ladder_rows.specs.Rows.{height, width}
use Rattle.ladder_text.specs.Places.{Layout, contact_at, coil_at}
use Rattle.ladder_text.specs.Names.{symbol_with, row_contacts, row_coils, contacts, coils}
use Rattle.drawings.specs.Picture.{mark_at, IsSymbolPlace}
use Rattle.ladder_text.specs.Picture.{picture_of}
use Rattle.ladder_text.proofs.Rows.ListedItems.{IsPlaced, found_item, found_once}
use Rattle.ladder_text.proofs.Marks.SymbolPlaces.{contact_parts, coil_parts, contacts_same, coils_same, mark-contact, mark-coil, drawn_inside}
use Rattle.ladder_text.proofs.Marks.PictureMarks.{mark_at-inside}

symbol_with_item : {Kind : Type 0} (p : Layout) (r c : ℕ) (o : Option Kind) (x : Symbol Kind) → symbol_with p r c o ≡ Some x
    → (x.row ≡ r) × (x.column ≡ c) × (o ≡ Some x.kind)
symbol_with_item p r c None x e = absurd (none-some x e)
symbol_with_item {Kind} p r c (Some k) x e =
    let q = same_Some _ x e in
    (ap (λ (y : Symbol Kind). y.row) (sym q), ap (λ (y : Symbol Kind). y.column) (sym q), ap (λ (y : Symbol Kind). Some y.kind) q)

abbrev contact_found : Layout → ℕ → ℕ → Option Contact
contact_found p r c = symbol_with p r c (contact_at p r c)

abbrev coil_found : Layout → ℕ → ℕ → Option Coil
coil_found p r c = symbol_with p r c (coil_at p r c)

contacts_placed : (p : Layout) → IsPlaced (λ (x : Contact). x.row) (λ (x : Contact). x.column) (contact_found p)
contacts_placed p r c x e = let w = symbol_with_item p r c (contact_at p r c) x e in (w.0, w.1)

coils_placed : (p : Layout) → IsPlaced (λ (x : Coil). x.row) (λ (x : Coil). x.column) (coil_found p)
coils_placed p r c x e = let w = symbol_with_item p r c (coil_at p r c) x e in (w.0, w.1)

contacts_once : (p : Layout) → IsAlikeOnce (λ (x : Contact) (y : Contact). (x.row ≡ y.row) × (x.column ≡ y.column)) (contacts p)
unfolding contacts row_contacts
contacts_once p = found_once (λ (x : Contact). x.row) (λ (x : Contact). x.column) (contact_found p) (contacts_placed p) (height p.rows) (width p.rows)

coils_once : (p : Layout) → IsAlikeOnce (λ (x : Coil) (y : Coil). (x.row ≡ y.row) × (x.column ≡ y.column)) (coils p)
unfolding coils row_coils
coils_once p = found_once (λ (x : Coil). x.row) (λ (x : Coil). x.column) (coil_found p) (coils_placed p) (height p.rows) (width p.rows)

contact_at_item : (p : Layout) (r c : ℕ) (x : Contact) → contact_found p r c ≡ Some x → contact_at p x.row x.column ≡ Some x.kind
contact_at_item p r c x e = let w = symbol_with_item p r c (contact_at p r c) x e in rw (w.0, w.1) w.2

coil_at_item : (p : Layout) (r c : ℕ) (x : Coil) → coil_found p r c ≡ Some x → coil_at p x.row x.column ≡ Some x.kind
coil_at_item p r c x e = let w = symbol_with_item p r c (coil_at p r c) x e in rw (w.0, w.1) w.2

-- (r, c) is a place of the rows and columns
pub record IsInside (p : Layout) (r c : ℕ) : Type 0 where
  pub row_above : 0 < r
  pub row_within : r ≤ height p.rows
  pub column_above : 0 < c
  pub column_within : c ≤ width p.rows

-- a contact stands where x says
pub record IsContactThere (p : Layout) (x : Contact) : Type 0 where
  pub inside : IsInside p x.row x.column
  pub is : contact_at p x.row x.column ≡ Some x.kind

pub record IsCoilThere (p : Layout) (x : Coil) : Type 0 where
  pub inside : IsInside p x.row x.column
  pub is : coil_at p x.row x.column ≡ Some x.kind

pub contact_there : (p : Layout) (k : ℕ) (x : Contact) → slice_get (contacts p) k ≡ Some x → IsContactThere p x
unfolding contacts row_contacts
contact_there p k x e =
    let i = found_item (contact_found p) (height p.rows) (width p.rows) k x e in
    let w = contacts_placed p i.row i.column x i.is in
    record {
      inside = record { row_above = omega (arith, w.0, i.row_above); row_within = omega (arith, w.0, i.row_within); column_above = omega (arith, w.1, i.column_above); column_within = omega (arith, w.1, i.column_within) };
      is = contact_at_item p i.row i.column x i.is;
    }

pub coil_there : (p : Layout) (k : ℕ) (x : Coil) → slice_get (coils p) k ≡ Some x → IsCoilThere p x
unfolding coils row_coils
coil_there p k x e =
    let i = found_item (coil_found p) (height p.rows) (width p.rows) k x e in
    let w = coils_placed p i.row i.column x i.is in
    record {
      inside = record { row_above = omega (arith, w.0, i.row_above); row_within = omega (arith, w.0, i.row_within); column_above = omega (arith, w.1, i.column_above); column_within = omega (arith, w.1, i.column_within) };
      is = coil_at_item p i.row i.column x i.is;
    }

not_blank : (n m : ℕ) → n ≡ m → m ≢ 32 → n ≢ 32
not_blank n m e h q = h (sym e ∙ q)

pub mark_at-contact : (line : ℕ) (p : Layout) (k : ℕ) (x : Contact) → slice_get (contacts p) k ≡ Some x → (r c : ℕ) → IsSymbolPlace x.row x.column r c → mark_at (picture_of line p) r c ≡ ContactPart
mark_at-contact line p k x e r c s =
    let t = contact_there p k x e in
    let i = t.inside in
    let parts = contact_parts p x.row x.column x.kind t.is in
    let end = drawn_inside p.rows x.row (x.column + 2) (not_blank _ 124 parts.last (λ q. omega (arith, q))) in
    let m = mark-contact p x.row x.column c x.kind t.is s.1 s.2 in
    rw s.0 (mark_at-inside line p x.row c i.row_above i.row_within (omega (arith, i.column_above, s.1)) (omega (arith, end, s.2)) ∙ m)

pub mark_at-coil : (line : ℕ) (p : Layout) (k : ℕ) (x : Coil) → slice_get (coils p) k ≡ Some x → (r c : ℕ) → IsSymbolPlace x.row x.column r c → mark_at (picture_of line p) r c ≡ CoilPart
mark_at-coil line p k x e r c s =
    let t = coil_there p k x e in
    let i = t.inside in
    let parts = coil_parts p x.row x.column x.kind t.is in
    let end = drawn_inside p.rows x.row (x.column + 2) (not_blank _ 41 parts.last (λ q. omega (arith, q))) in
    let m = mark-coil p x.row x.column c x.kind t.is s.1 s.2 in
    rw s.0 (mark_at-inside line p x.row c i.row_above i.row_within (omega (arith, i.column_above, s.1)) (omega (arith, end, s.2)) ∙ m)

pub contacts_sharing : (p : Layout) (j k : ℕ) (x y : Contact) → slice_get (contacts p) j ≡ Some x → slice_get (contacts p) k ≡ Some y
    → (r c : ℕ) → IsSymbolPlace x.row x.column r c → IsSymbolPlace y.row y.column r c → j ≡ k
contacts_sharing p j k x y a b r c s t =
    let row : y.row ≡ x.row = omega (arith, s.0, t.0) in
    let u = contact_parts p x.row x.column x.kind (contact_there p j x a).is in
    let at_y = (contact_there p k y b).is in
    let v = contact_parts p x.row y.column y.kind (rw row at at_y) in
    let column = contacts_same p x.row x.column y.column x.kind y.kind u v (omega (arith, s.1, t.2)) (omega (arith, t.1, s.2)) in
    contacts_once p j k x y a b (sym row, column)

pub coils_sharing : (p : Layout) (j k : ℕ) (x y : Coil) → slice_get (coils p) j ≡ Some x → slice_get (coils p) k ≡ Some y
    → (r c : ℕ) → IsSymbolPlace x.row x.column r c → IsSymbolPlace y.row y.column r c → j ≡ k
coils_sharing p j k x y a b r c s t =
    let row : y.row ≡ x.row = omega (arith, s.0, t.0) in
    let u = coil_parts p x.row x.column x.kind (coil_there p j x a).is in
    let at_y = (coil_there p k y b).is in
    let v = coil_parts p x.row y.column y.kind (rw row at at_y) in
    let column = coils_same p x.row x.column y.column x.kind y.kind u v (omega (arith, s.1, t.2)) (omega (arith, t.1, s.2)) in
    coils_once p j k x y a b (sym row, column)
