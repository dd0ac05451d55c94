-- The places of contacts and coils.
use Rattle.std.proofs.Common.{ℕ, ◌+◌, ◌-◌, ◌<◌, ◌≤◌, ◌≡◌, ◌≢◌, ◌==◌, Bool, true, false, not, ◌&&◌, ◌||◌, cond, [], length, get_or, Option, Some, None, refl, sym, ap, ◌∙◌, arith, ◌⊎◌, inl, inr}
use Rattle.std.specs.Option.{is_some}
use Rattle.std.proofs.lemmas.Bool.{and_parts, or_parts, or_cases, or_from, or_left, or_right, not-true, eqb-true, cases_lt, both_ways}
use Rattle.std.proofs.lemmas.Option.{none-some}
use Rattle.std.proofs.lemmas.List.{get_or_past}
use Rattle.drawings.specs.declared.mark.Mark.TheVariants.{ContactPart, CoilPart}
use Rattle.drawings.specs.declared.contact.ContactKind.{ContactKind}
use Rattle.drawings.specs.declared.coil.CoilKind.{CoilKind}
use Rattle.ladder_rows.specs.Rows.{Rows, char_at, width}
use Rattle.ladder_text.specs.SymbolKinds.{contact_kind, coil_kind}
use Rattle.ladder_text.specs.Places.{Layout, contact_at, coil_at, in_box, in_contact, in_coil, within_three, mark, is_symbol}
use Rattle.ladder_text.specs.Faults.{is_first_of_symbol}
use Rattle.lists.proofs.Longest.{row-narrow}

-- a contact of kind k begins at (r, c)
pub record IsContact (p : Layout) (r c : ℕ) (k : ContactKind) : Type 0 where
  pub before : (char_at p.rows r (c - 1) ≡ 45) ⊎ (char_at p.rows r (c - 1) ≡ 43)
  pub first : char_at p.rows r c ≡ 124
  pub middle : contact_kind (char_at p.rows r (c + 1)) ≡ Some k
  pub last : char_at p.rows r (c + 2) ≡ 124
  pub free : (i : ℕ) → c ≤ i → i ≤ c + 2 → in_box p r i ≡ false

pub record IsCoil (p : Layout) (r c : ℕ) (k : CoilKind) : Type 0 where
  pub first : char_at p.rows r c ≡ 40
  pub middle : coil_kind (char_at p.rows r (c + 1)) ≡ Some k
  pub last : char_at p.rows r (c + 2) ≡ 41
  pub free : (i : ℕ) → c ≤ i → i ≤ c + 2 → in_box p r i ≡ false

pub cond_some_of : {A : Type 0} (b : Bool) (o : Option A) (x : A) → cond b o None ≡ Some x → (b ≡ true) × (o ≡ Some x)
cond_some_of true o x e = (refl, e)
cond_some_of false o x e = absurd (none-some x e)

-- the columns of three places
three_places : (c i : ℕ) → c ≤ i → i ≤ c + 2 → (i ≡ c) ⊎ ((i ≡ c + 1) ⊎ (i ≡ c + 2))
three_places c i a b = elim (cases_lt c i) [
  | inr h ↦ inl (omega arith)
  | inl h ↦ elim (cases_lt (c + 1) i) [
    | inr g ↦ inr (inl (omega arith))
    | inl g ↦ inr (inr (omega arith))
  ]
]

at_three : (f : ℕ → Bool) (c : ℕ) → not (f c || f (c + 1) || f (c + 2)) ≡ true → (i : ℕ) → c ≤ i → i ≤ c + 2 → f i ≡ false
at_three f c e i a b =
    let q = or_parts (f c || f (c + 1)) (f (c + 2)) (not-true (f c || f (c + 1) || f (c + 2)) e) in
    let s = or_parts (f c) (f (c + 1)) q.0 in
    elim (three_places c i a b) [
      | inl h ↦ ap f h ∙ s.0
      | inr h ↦ elim h [
        | inl h ↦ ap f h ∙ s.1
        | inr h ↦ ap f h ∙ q.1
      ]
    ]

pub contact_parts : (p : Layout) (r c : ℕ) (k : ContactKind) → contact_at p r c ≡ Some k → IsContact p r c k
unfolding contact_at
contact_parts p r c k e =
    let at : ℕ → ℕ = char_at p.rows r in
    let whole = cond_some_of ((at (c - 1) == 45 || at (c - 1) == 43) && at c == 124 && at (c + 2) == 124 && not (in_box p r c || in_box p r (c + 1) || in_box p r (c + 2))) (contact_kind (at (c + 1))) k e in
    let a = and_parts _ _ whole.0 in
    let b = and_parts _ _ a.0 in
    let d = and_parts _ _ b.0 in
    record {
      before = elim (or_cases _ _ d.0) [ inl h ↦ inl (eqb-true _ _ h) | inr h ↦ inr (eqb-true _ _ h) ];
      first = eqb-true _ _ d.1;
      middle = whole.1;
      last = eqb-true _ _ b.1;
      free = at_three (in_box p r) c a.1;
    }

pub coil_parts : (p : Layout) (r c : ℕ) (k : CoilKind) → coil_at p r c ≡ Some k → IsCoil p r c k
unfolding coil_at
coil_parts p r c k e =
    let at : ℕ → ℕ = char_at p.rows r in
    let whole = cond_some_of (at c == 40 && at (c + 2) == 41 && not (in_box p r c || in_box p r (c + 1) || in_box p r (c + 2))) (coil_kind (at (c + 1))) k e in
    let a = and_parts _ _ whole.0 in
    let b = and_parts _ _ a.0 in
    record {
      first = eqb-true _ _ b.0;
      middle = whole.1;
      last = eqb-true _ _ b.1;
      free = at_three (in_box p r) c a.1;
    }

-- a character that is none of the middle ones stands in no middle
no_middle : {A : Type 0} (f : ℕ → Option A) (x y : ℕ) (k : A) → x ≡ y → f y ≡ None → f x ≡ Some k → ⊥
no_middle f x y k e n h = none-some k (sym n ∙ ap f (sym e) ∙ h)

contact_kind-bar : contact_kind 124 ≡ None
unfolding contact_kind
contact_kind-bar = refl

contact_kind-dash : contact_kind 45 ≡ None
unfolding contact_kind
contact_kind-dash = refl

contact_kind-join : contact_kind 43 ≡ None
unfolding contact_kind
contact_kind-join = refl

coil_kind-bar : coil_kind 124 ≡ None
unfolding coil_kind
coil_kind-bar = refl

coil_kind-open : coil_kind 40 ≡ None
unfolding coil_kind
coil_kind-open = refl

-- of two contacts that share a place, neither is the later one
contact_not_before : (p : Layout) (r a b : ℕ) (k l : ContactKind) → IsContact p r a k → IsContact p r b l → a < b → b ≤ a + 2 → ⊥
contact_not_before p r a b k l x y h s = elim (three_places a b (omega arith) s) [
  | inl e ↦ omega arith
  | inr e ↦ elim e [
    | inl e ↦ no_middle contact_kind _ 124 k (ap (char_at p.rows r) (sym e) ∙ y.first) contact_kind-bar x.middle
    | inr e ↦
        let q : a + 1 ≡ b - 1 = omega arith in
        elim y.before [
          | inl d ↦ no_middle contact_kind _ 45 k (ap (char_at p.rows r) q ∙ d) contact_kind-dash x.middle
          | inr d ↦ no_middle contact_kind _ 43 k (ap (char_at p.rows r) q ∙ d) contact_kind-join x.middle
        ]
  ]
]

pub contacts_same : (p : Layout) (r a b : ℕ) (k l : ContactKind) → IsContact p r a k → IsContact p r b l → a ≤ b + 2 → b ≤ a + 2 → a ≡ b
contacts_same p r a b k l x y h s = elim (cases_lt a b) [
  | inl u ↦ absurd (contact_not_before p r a b k l x y u s)
  | inr u ↦ elim (cases_lt b a) [
    | inl v ↦ absurd (contact_not_before p r b a l k y x v h)
    | inr v ↦ omega arith
  ]
]

coil_not_before : (p : Layout) (r a b : ℕ) (k l : CoilKind) → IsCoil p r a k → IsCoil p r b l → a < b → b ≤ a + 2 → ⊥
coil_not_before p r a b k l x y h s = elim (three_places a b (omega arith) s) [
  | inl e ↦ omega arith
  | inr e ↦ elim e [
    | inl e ↦ no_middle coil_kind _ 40 k (ap (char_at p.rows r) (sym e) ∙ y.first) coil_kind-open x.middle
    | inr e ↦ let q = ap (char_at p.rows r) e in omega (arith, q, x.last, y.first)
  ]
]

pub coils_same : (p : Layout) (r a b : ℕ) (k l : CoilKind) → IsCoil p r a k → IsCoil p r b l → a ≤ b + 2 → b ≤ a + 2 → a ≡ b
coils_same p r a b k l x y h s = elim (cases_lt a b) [
  | inl u ↦ absurd (coil_not_before p r a b k l x y u s)
  | inr u ↦ elim (cases_lt b a) [
    | inl v ↦ absurd (coil_not_before p r b a l k y x v h)
    | inr v ↦ omega arith
  ]
]

-- no contact shares a place with a coil
pub contact_off_coil : (p : Layout) (r a b : ℕ) (k : ContactKind) (l : CoilKind) → IsContact p r a k → IsCoil p r b l → a ≤ b + 2 → b ≤ a + 2 → ⊥
contact_off_coil p r a b k l x y h s = elim (cases_lt b a) [
  | inr u ↦ elim (three_places a b u s) [
    | inl e ↦ let q = ap (char_at p.rows r) e in omega (arith, q, x.first, y.first)
    | inr e ↦ elim e [
      | inl e ↦
          let q : b + 1 ≡ a + 2 = omega arith in
          no_middle coil_kind _ 124 l (ap (char_at p.rows r) q ∙ x.last) coil_kind-bar y.middle
      | inr e ↦ let q = ap (char_at p.rows r) e in omega (arith, q, x.last, y.first)
    ]
  ]
  | inl u ↦ elim (three_places b a (omega arith) h) [
    | inl e ↦ omega arith
    | inr e ↦ elim e [
      | inl e ↦ no_middle coil_kind _ 124 l (ap (char_at p.rows r) (sym e) ∙ x.first) coil_kind-bar y.middle
      | inr e ↦ let q = ap (char_at p.rows r) e in omega (arith, q, x.first, y.last)
    ]
  ]
]

found_three : {A : Type 0} (f : ℕ → ℕ → Option A) (r s c : ℕ) (x : A) → f r s ≡ Some x → s ≤ c → c ≤ s + 2 → within_three f r c ≡ true
found_three f r s c x e a b =
    let here : (i : ℕ) → i ≡ s → is_some (f r i) ≡ true = λ i q. ap (λ (j : ℕ). is_some (f r j)) q ∙ ap is_some e in
    elim (three_places s c a b) [
      | inl h ↦ or_left _ _ (or_left _ _ (here c h))
      | inr h ↦ elim h [
        | inl h ↦ or_left _ _ (or_right _ _ (here (c - 1) (omega arith)))
        | inr h ↦ or_right _ _ (here (c - 2) (omega arith))
      ]
    ]

pub not_some : {A : Type 0} (o : Option A) → ((x : A) → o ≡ Some x → ⊥) → is_some o ≡ false
not_some None h = refl
not_some (Some x) h = absurd (h x refl)

pub mark-contact : (p : Layout) (r s c : ℕ) (k : ContactKind) → contact_at p r s ≡ Some k → s ≤ c → c ≤ s + 2 → mark p r c ≡ ContactPart
unfolding mark
mark-contact p r s c k e a b =
    let free = (contact_parts p r s k e).free c a b in
    let inside : in_contact p r c ≡ true = found_three (contact_at p) r s c k e a b in
    rw (free, inside) refl

pub mark-coil : (p : Layout) (r s c : ℕ) (k : CoilKind) → coil_at p r s ≡ Some k → s ≤ c → c ≤ s + 2 → mark p r c ≡ CoilPart
unfolding mark
mark-coil p r s c k e a b =
    let x = coil_parts p r s k e in
    let free = x.free c a b in
    let inside : in_coil p r c ≡ true = found_three (coil_at p) r s c k e a b in
    let none : (i : ℕ) → i ≤ s + 2 → s ≤ i + 2 → is_some (contact_at p r i) ≡ false
    = λ i u v. not_some (contact_at p r i) (λ l q. contact_off_coil p r i s l k (contact_parts p r i l q) x u v) in
    let outside : in_contact p r c ≡ false = or_from _ _ (or_from _ _ (none c (omega arith) (omega arith)) (none (c - 1) (omega arith) (omega arith))) (none (c - 2) (omega arith) (omega arith)) in
    rw (free, outside, inside) refl

pub begins_no_contact : (p : Layout) (r c : ℕ) → char_at p.rows r c ≢ 124 → is_some (contact_at p r c) ≡ false
begins_no_contact p r c h = not_some (contact_at p r c) (λ k e. h (contact_parts p r c k e).first)

pub begins_no_coil : (p : Layout) (r c : ℕ) → char_at p.rows r c ≢ 40 → is_some (coil_at p r c) ≡ false
begins_no_coil p r c h = not_some (coil_at p r c) (λ k e. h (coil_parts p r c k e).first)

-- a place of a contact is a bar, or stands behind one
pub no_contact : (p : Layout) (r c : ℕ) → char_at p.rows r c ≢ 124 → char_at p.rows r (c - 1) ≢ 124 → in_contact p r c ≡ false
no_contact p r c here before =
    or_from _ _
    (or_from _ _ (not_some (contact_at p r c) (λ k e. here (contact_parts p r c k e).first)) (not_some (contact_at p r (c - 1)) (λ k e. before (contact_parts p r (c - 1) k e).first)))
    (not_some (contact_at p r (c - 2)) (λ k e.
    let x = contact_parts p r (c - 2) k e in
    elim (cases_lt 1 c) [
      | inl h ↦ let q : c ≡ c - 2 + 2 = omega arith in here (ap (char_at p.rows r) q ∙ x.last)
      | inr h ↦ let q : c - 1 ≡ c - 2 = omega arith in before (ap (char_at p.rows r) q ∙ x.first)
    ]))

-- a place of a coil is a bracket, or stands behind one
pub no_coil : (p : Layout) (r c : ℕ) → char_at p.rows r c ≢ 40 → char_at p.rows r c ≢ 41 → char_at p.rows r (c - 1) ≢ 40 → in_coil p r c ≡ false
no_coil p r c here last before =
    or_from _ _
    (or_from _ _ (not_some (coil_at p r c) (λ k e. here (coil_parts p r c k e).first)) (not_some (coil_at p r (c - 1)) (λ k e. before (coil_parts p r (c - 1) k e).first)))
    (not_some (coil_at p r (c - 2)) (λ k e.
    let x = coil_parts p r (c - 2) k e in
    elim (cases_lt 1 c) [
      | inl h ↦ let q : c ≡ c - 2 + 2 = omega arith in last (ap (char_at p.rows r) q ∙ x.last)
      | inr h ↦ let q : c - 1 ≡ c - 2 = omega arith in before (ap (char_at p.rows r) q ∙ x.first)
    ]))

-- where the mark isn't that of a symbol, none begins
pub first_by_mark : (p : Layout) (r c : ℕ) → is_symbol (mark p r c) ≡ false → is_first_of_symbol p r c ≡ false
first_by_mark p r c h =
    or_from _ _
    (not_some (contact_at p r c) (λ k e. both_ways (is_symbol (mark p r c)) h (ap is_symbol (mark-contact p r c c k e (omega arith) (omega arith)))))
    (not_some (coil_at p r c) (λ k e. both_ways (is_symbol (mark p r c)) h (ap is_symbol (mark-coil p r c c k e (omega arith) (omega arith)))))

-- no symbol begins at a blank
pub no_symbol : (p : Layout) (r c : ℕ) → char_at p.rows r c ≡ 32 → is_first_of_symbol p r c ≡ false
no_symbol p r c e =
    or_from _ _ (not_some (contact_at p r c) (λ k q. omega (arith, e, (contact_parts p r c k q).first))) (not_some (coil_at p r c) (λ k q. omega (arith, e, (coil_parts p r c k q).first)))

-- a place with a character that is no blank is inside
pub drawn_inside : (d : Rows) (r c : ℕ) → char_at d r c ≢ 32 → c ≤ width d
unfolding char_at
drawn_inside d r c h = elim (cases_lt c (length (get_or d r []))) [
  | inl l ↦ row-narrow d r c l
  | inr l ↦ absurd (h (get_or_past (get_or d r []) c 32 l))
]
