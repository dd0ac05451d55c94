-- The marks of a row from left to right.
use Rattle.std.proofs.Common.{ℕ, ◌+◌, ◌-◌, ◌≤◌, ◌≡◌, ◌≢◌, ◌||◌, ◌++◌, ◌∷◌, [], List, Bool, true, false, Option, Some, None, refl, sym, ap, ◌∙◌, arith, append_assoc}
use Rattle.std.specs.Option.{is_some}
use Rattle.std.proofs.lemmas.Bool.{both_ways, and_right, ne_eqb, or_from}
use Rattle.drawings.specs.declared.mark.Mark.{Mark}
use Rattle.drawings.specs.declared.mark.Mark.TheVariants.{Blank, Wire, ContactPart, CoilPart}
use Rattle.ladder_rows.specs.Rows.{upto, width, char_at}
use Rattle.ladder_text.specs.Places.{Layout, contact_at, coil_at, in_box, in_contact, in_coil, in_operand, is_rail_column, mark}
use Rattle.ladder_text.proofs.Rows.Runs.{upto-more}
use Rattle.ladder_text.proofs.Marks.SymbolPlaces.{contact_parts, coil_parts, contacts_same, coils_same, contact_off_coil, mark-contact, mark-coil, not_some, drawn_inside}

-- no symbol that begins at (r, c) or before goes on behind it
pub record IsQuiet (p : Layout) (r c : ℕ) : Type 0 where
  pub contact : is_some (contact_at p r c) ≡ false
  pub contact_before : is_some (contact_at p r (c - 1)) ≡ false
  pub coil : is_some (coil_at p r c) ≡ false
  pub coil_before : is_some (coil_at p r (c - 1)) ≡ false

pub quiet_start : (p : Layout) (r : ℕ) → is_some (contact_at p r 0) ≡ false → is_some (coil_at p r 0) ≡ false → IsQuiet p r 0
quiet_start p r a b = record { contact = a; contact_before = a; coil = b; coil_before = b }

pub quiet_next : (p : Layout) (r c : ℕ) → IsQuiet p r c → is_some (contact_at p r (c + 1)) ≡ false → is_some (coil_at p r (c + 1)) ≡ false → IsQuiet p r (c + 1)
quiet_next p r c q a b =
    let e : c + 1 - 1 ≡ c = omega arith in
    record { contact = a; contact_before = rw e q.contact; coil = b; coil_before = rw e q.coil }

-- the place behind is in no symbol that began before it
pub outside_contact : (p : Layout) (r c : ℕ) → IsQuiet p r c → is_some (contact_at p r (c + 1)) ≡ false → in_contact p r (c + 1) ≡ false
outside_contact p r c q a =
    let e : c + 1 - 1 ≡ c = omega arith in
    let f : c + 1 - 2 ≡ c - 1 = omega arith in
    or_from _ _ (or_from _ _ a (rw e q.contact)) (rw f q.contact_before)

pub outside_coil : (p : Layout) (r c : ℕ) → IsQuiet p r c → is_some (coil_at p r (c + 1)) ≡ false → in_coil p r (c + 1) ≡ false
outside_coil p r c q a =
    let e : c + 1 - 1 ≡ c = omega arith in
    let f : c + 1 - 2 ≡ c - 1 = omega arith in
    or_from _ _ (or_from _ _ a (rw e q.coil)) (rw f q.coil_before)

three_more : (p : Layout) (r c : ℕ) (m : Mark) → mark p r (c + 1) ≡ m → mark p r (c + 1 + 1) ≡ m → mark p r (c + 2 + 1) ≡ m
    → upto (c + 3) (λ k. mark p r k ∷ []) ≡ upto c (λ k. mark p r k ∷ []) ++ m ∷ m ∷ m ∷ []
three_more p r c m x y z =
    let f : ℕ → List Mark = λ k. mark p r k ∷ [] in
    let e : c + 3 ≡ c + 1 + 1 + 1 = omega arith in
    let g : c + 1 + 1 ≡ c + 2 = omega arith in
    let z' : mark p r (c + 1 + 1 + 1) ≡ m = rw g z in
    ap (λ n. upto n f) e
    ∙ upto-more (c + 1 + 1) f
    ∙ ap (λ l. l ++ f (c + 1 + 1 + 1)) (upto-more (c + 1) f ∙ ap (λ l. l ++ f (c + 1 + 1)) (upto-more c f))
    ∙ rw (x, y, z') (append_assoc (upto c f ++ m ∷ []) (m ∷ []) (m ∷ []) ∙ append_assoc (upto c f) (m ∷ []) (m ∷ m ∷ []))

some_of : {A : Type 0} (o : Option A) → is_some o ≡ true → (x : A) × (o ≡ Some x)
some_of (Some x) e = (x, refl)
some_of None e = absurd (both_ways false refl e)

-- a contact that begins behind c
pub record IsPassed (p : Layout) (r c : ℕ) (m : Mark) : Type 0 where
  pub inside : c + 3 ≤ width p.rows
  pub marks : upto (c + 3) (λ k. mark p r k ∷ []) ≡ upto c (λ k. mark p r k ∷ []) ++ m ∷ m ∷ m ∷ []
  pub quiet : IsQuiet p r (c + 3)

pub contact_passed : (p : Layout) (r c : ℕ) → is_some (contact_at p r (c + 1)) ≡ true → IsPassed p r c ContactPart
contact_passed p r c h =
    let k = some_of (contact_at p r (c + 1)) h in
    let x = contact_parts p r (c + 1) k.0 k.1 in
    let e : c + 3 ≡ c + 1 + 2 = omega arith in
    let own : (i : ℕ) → c + 1 ≤ i → i ≤ c + 1 + 2 → mark p r i ≡ ContactPart = λ i a b. mark-contact p r (c + 1) i k.0 k.1 a b in
    let last : char_at p.rows r (c + 3) ≡ 124 = rw e x.last in
    let none : (i : ℕ) → c + 1 + 1 ≤ i → i ≤ c + 1 + 2 → is_some (contact_at p r i) ≡ false
    = λ i a b. not_some (contact_at p r i) (λ l q. omega (arith, contacts_same p r (c + 1) i k.0 l x (contact_parts p r i l q) (omega arith) b)) in
    let none_coil : (i : ℕ) → c + 1 + 1 ≤ i → i ≤ c + 1 + 2 → is_some (coil_at p r i) ≡ false
    = λ i a b. not_some (coil_at p r i) (λ l q. contact_off_coil p r (c + 1) i k.0 l x (coil_parts p r i l q) (omega arith) b) in
    record {
      inside = drawn_inside p.rows r (c + 3) (λ blank. omega (arith, last, blank));
      marks = three_more p r c ContactPart (own (c + 1) (omega arith) (omega arith)) (own (c + 1 + 1) (omega arith) (omega arith)) (own (c + 2 + 1) (omega arith) (omega arith));
      quiet = record {
        contact = none (c + 3) (omega arith) (omega arith);
        contact_before = none (c + 3 - 1) (omega arith) (omega arith);
        coil = none_coil (c + 3) (omega arith) (omega arith);
        coil_before = none_coil (c + 3 - 1) (omega arith) (omega arith);
      };
    }

-- a coil that begins behind c
pub coil_passed : (p : Layout) (r c : ℕ) → is_some (coil_at p r (c + 1)) ≡ true → IsPassed p r c CoilPart
coil_passed p r c h =
    let k = some_of (coil_at p r (c + 1)) h in
    let x = coil_parts p r (c + 1) k.0 k.1 in
    let e : c + 3 ≡ c + 1 + 2 = omega arith in
    let own : (i : ℕ) → c + 1 ≤ i → i ≤ c + 1 + 2 → mark p r i ≡ CoilPart = λ i a b. mark-coil p r (c + 1) i k.0 k.1 a b in
    let last : char_at p.rows r (c + 3) ≡ 41 = rw e x.last in
    let none : (i : ℕ) → c + 1 + 1 ≤ i → i ≤ c + 1 + 2 → is_some (contact_at p r i) ≡ false
    = λ i a b. not_some (contact_at p r i) (λ l q. contact_off_coil p r i (c + 1) l k.0 (contact_parts p r i l q) x b (omega arith)) in
    let none_coil : (i : ℕ) → c + 1 + 1 ≤ i → i ≤ c + 1 + 2 → is_some (coil_at p r i) ≡ false
    = λ i a b. not_some (coil_at p r i) (λ l q. omega (arith, coils_same p r (c + 1) i k.0 l x (coil_parts p r i l q) (omega arith) b)) in
    record {
      inside = drawn_inside p.rows r (c + 3) (λ blank. omega (arith, last, blank));
      marks = three_more p r c CoilPart (own (c + 1) (omega arith) (omega arith)) (own (c + 1 + 1) (omega arith) (omega arith)) (own (c + 2 + 1) (omega arith) (omega arith));
      quiet = record {
        contact = none (c + 3) (omega arith) (omega arith);
        contact_before = none (c + 3 - 1) (omega arith) (omega arith);
        coil = none_coil (c + 3) (omega arith) (omega arith);
        coil_before = none_coil (c + 3 - 1) (omega arith) (omega arith);
      };
    }

or-false : (b : Bool) → (b || false) ≡ b
or-false true = refl
or-false false = refl

-- which symbol begins at a place, by its mark
pub contact_by_mark : (p : Layout) (r c : ℕ) → mark p r c ≡ ContactPart → (is_some (contact_at p r c) || is_some (coil_at p r c)) ≡ is_some (contact_at p r c)
contact_by_mark p r c e = ap (λ b. is_some (contact_at p r c) || b) (not_some (coil_at p r c) (λ k q. let m = sym e ∙ mark-coil p r c c k q (omega arith) (omega arith) in absurd (cc))) ∙ or-false (is_some (contact_at p r c))

pub coil_by_mark : (p : Layout) (r c : ℕ) → mark p r c ≡ CoilPart → (is_some (contact_at p r c) || is_some (coil_at p r c)) ≡ is_some (coil_at p r c)
coil_by_mark p r c e = ap (λ b. b || is_some (coil_at p r c)) (not_some (contact_at p r c) (λ k q. let m = sym e ∙ mark-contact p r c c k q (omega arith) (omega arith) in absurd (cc)))

-- what draws no line has no mark outside boxes and symbols
pub blank_mark : (p : Layout) (r c : ℕ) → in_box p r c ≡ false → in_contact p r c ≡ false → in_coil p r c ≡ false
    → char_at p.rows r c ≢ 45 → char_at p.rows r c ≢ 124 → char_at p.rows r c ≢ 43 → mark p r c ≡ Blank
unfolding mark
blank_mark p r c a b d dash bar cross =
    let e = ne_eqb (char_at p.rows r c) 45 dash in
    let f = ne_eqb (char_at p.rows r c) 124 bar in
    let g = ne_eqb (char_at p.rows r c) 43 cross in
    rw (a, b, d, e, f, g) (rw (and_right (is_rail_column p c) false refl) refl)

-- a dash is a wire outside boxes, symbols and operands
pub dash_mark : (p : Layout) (r c : ℕ) → in_box p r c ≡ false → in_contact p r c ≡ false → in_coil p r c ≡ false
    → in_operand p r c ≡ false → char_at p.rows r c ≡ 45 → mark p r c ≡ Wire
unfolding mark
dash_mark p r c a b d operand dash =
    rw (a, b, d, dash, operand) (rw (and_right (is_rail_column p c) false refl) refl)
