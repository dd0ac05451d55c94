-- Places of elements put into their rows, and pins one after the other.
use Rattle.std.proofs.Common.{◌≡◌, ℕ, ◌+◌, ◌<◌, ◌≤◌, ◌⊎◌, inl, inr, List, Option, Some, None, set, length-set, slice_get, length, refl, sym, ap, ◌∙◌, arith}
use Rattle.std.proofs.lemmas.Bool.{cases_eq}
use Rattle.std.proofs.lemmas.List.{get_or-set_same, get_or-set_other}
use Rattle.std.proofs.lemmas.Option.{slice_get_within, slice_get-get_or, get_or_from_slice_get}
use Rattle.drawings.specs.declared.place.Place.{Place}
use Rattle.drawings.specs.declared.drawn_box.DrawnBox.{DrawnBox}
use Rattle.drawings.specs.declared.drawn_box.DrawnPin.{DrawnPin}
use Rattle.drawings.specs.declared.drawn_box.Side.{Side}
use Rattle.drawings.specs.declared.drawn_box.Side.TheVariants.{Left, Right}
use Rattle.network.specs.declared.joining.row_table.InRow.{InRow}
use Rattle.network.specs.Links.{place, IsPinPlace}
use Rattle.network.specs.Steps.Rows.{in_row, Puts}
use Rattle.network.proofs.Basics.{some_is, one_at, get_set}
use Rattle.network.proofs.Elements.{place_same}

-- the column of a side
abbrev pub side_column : Side → DrawnBox → ℕ
side_column Left b = b.left
side_column Right b = b.right

pub puts_none : (P : Place → Type 0) (k : ℕ) (table : List (Option InRow)) → ((p : Place) → P p → ⊥) → Puts P k table table
puts_none P k table never = record { each = λ r t at. inl at; kept = λ r t at. inl at; put = λ p such. absurd (never p such) }

pub puts_as : (P Q : Place → Type 0) (k : ℕ) (old new : List (Option InRow)) → ((p : Place) → P p → Q p) → ((p : Place) → Q p → P p) → Puts P k old new → Puts Q k old new
puts_as P Q k old new there back puts = record {
  each = λ r t at. elim (puts.each r t at) [ inl was ↦ inl was | inr is ↦ inr (is.0, there (place r t.column) is.1) ];
  kept = λ r t at. elim (puts.kept r t at) [ inl still ↦ inl still | inr is ↦ inr (is.0, there (place r is.0) is.1, is.2) ];
  put = λ p such. puts.put p (back p such);
}

-- one place is put
pub puts_one : (at : Place) (k : ℕ) (old : List (Option InRow)) → at.row < length old → Puts (λ p. at ≡ p) k old (set old at.row (Some (in_row k at.column)))
puts_one at k old within = record {
  each = λ r t there. elim (get_set old at.row r (Some (in_row k at.column)) (Some t) there) [
    | inr was ↦ inl was.1
    | inl new ↦ (let is : t ≡ in_row k at.column = some_is t (in_row k at.column) new.1 in
        inr (ap (λ (x : InRow). x.element) is, place_same at (place r t.column) (sym new.0) (sym (ap (λ (x : InRow). x.column) is))))
  ];
  kept = λ r t there. elim (cases_eq r at.row) [
    | inl same ↦ inr (at.column, place_same at (place r at.column) (sym same) refl, ap (slice_get new) same ∙ here)
    | inr ne ↦ inl (other r (Some t) ne there)
  ];
  put = λ p is. ap (λ (x : Place). slice_get new x.row) (sym is) ∙ here ∙ ap (λ (x : Place). Some (Some (in_row k x.column))) is;
}
  where
    new : List (Option InRow)
    new = set old at.row (Some (in_row k at.column))

    here : slice_get (set old at.row (Some (in_row k at.column))) at.row ≡ Some (Some (in_row k at.column))
    here = slice_get-get_or (set old at.row (Some (in_row k at.column))) at.row None (let l = length-set old at.row (Some (in_row k at.column)) in omega arith)
        ∙ ap Some (get_or-set_same old at.row (Some (in_row k at.column)) None within)

    other : (r : ℕ) (o : Option InRow) → (r ≡ at.row → ⊥) → slice_get old r ≡ Some o → slice_get (set old at.row (Some (in_row k at.column))) r ≡ Some o
    other r o ne there =
        slice_get-get_or (set old at.row (Some (in_row k at.column))) r None (let l = length-set old at.row (Some (in_row k at.column)) in let w = slice_get_within old r o there in omega arith)
        ∙ ap Some (get_or-set_other old at.row r (Some (in_row k at.column)) None ne ∙ get_or_from_slice_get old r o None there)

-- places are put after others; those in one row are in one column
pub puts_then : (P Q : Place → Type 0) (k : ℕ) (old mid new : List (Option InRow)) → ((p q : Place) → P p → Q q → p.row ≡ q.row → p.column ≡ q.column)
    → Puts P k old mid → Puts Q k mid new → Puts (λ p. P p ⊎ Q p) k old new
puts_then P Q k old mid new agree one two = record {
  each = λ r t at. elim (two.each r t at) [
    | inl was ↦ elim (one.each r t was) [ inl first ↦ inl first | inr is ↦ inr (is.0, inl is.1) ]
    | inr is ↦ inr (is.0, inr is.1)
  ];
  kept = λ r t at. elim (one.kept r t at) [
    | inl still ↦ elim (two.kept r t still) [ inl yet ↦ inl yet | inr is ↦ inr (is.0, inr is.1, is.2) ]
    | inr is ↦ inr (is.0, inl is.1, through (place r is.0) is.1)
  ];
  put = λ p such. elim such [ inl is ↦ through p is | inr is ↦ two.put p is ];
}
  where
    through : (p : Place) → P p → slice_get new p.row ≡ Some (Some (in_row k p.column))
    through p is = elim (two.kept p.row (in_row k p.column) (one.put p is)) [
      | inl still ↦ still
      | inr over ↦ over.2 ∙ ap (λ c. Some (Some (in_row k c))) (sym (agree p (place p.row over.0) is over.1 refl))
    ]

-- p is the place of one of the first n pins of a side
abbrev pub IsPinTo : Side → DrawnBox → ℕ → Place → Type 0
IsPinTo side b n p = (j : ℕ) × (pin : DrawnPin) × (j < n) × (slice_get b.pins j ≡ Some pin) × (pin.side ≡ side) × (place pin.row (side_column side b) ≡ p)

pub pin_to_none : (side : Side) (b : DrawnBox) (p : Place) → IsPinTo side b 0 p → ⊥
pin_to_none side b p is = let lt = is.2 in omega arith

pub pin_to_wide : (side : Side) (b : DrawnBox) (n : ℕ) (p : Place) → IsPinTo side b n p → IsPinTo side b (n + 1) p
pin_to_wide side b n p is = (is.0, is.1, (let lt = is.2 in omega arith), is.3, is.4, is.5)

pub pin_to_skip : (side : Side) (b : DrawnBox) (n : ℕ) (pin : DrawnPin) → slice_get b.pins n ≡ Some pin → (pin.side ≡ side → ⊥) → (p : Place) → IsPinTo side b (n + 1) p → IsPinTo side b n p
pin_to_skip side b n pin at other p is = elim (cases_eq is.0 n) [
  | inl same ↦ absurd (other (ap (λ (x : DrawnPin). x.side) (one_at b.pins n is.0 pin is.1 (sym same) at is.3) ∙ is.4))
  | inr ne ↦ (is.0, is.1, (let lt = is.2 in omega arith), is.3, is.4, is.5)
]

pub pin_to_here : (side : Side) (b : DrawnBox) (n : ℕ) (pin : DrawnPin) → slice_get b.pins n ≡ Some pin → pin.side ≡ side → (p : Place) → place pin.row (side_column side b) ≡ p → IsPinTo side b (n + 1) p
pin_to_here side b n pin at is p e = (n, pin, omega arith, at, is, e)

pub pin_to_cases : (side : Side) (b : DrawnBox) (n : ℕ) (pin : DrawnPin) → slice_get b.pins n ≡ Some pin → (p : Place) → IsPinTo side b (n + 1) p → IsPinTo side b n p ⊎ (place pin.row (side_column side b) ≡ p)
pin_to_cases side b n pin at p is = elim (cases_eq is.0 n) [
  | inl same ↦ inr (ap (λ (x : DrawnPin). place x.row (side_column side b)) (one_at b.pins n is.0 pin is.1 (sym same) at is.3) ∙ is.5)
  | inr ne ↦ inl (is.0, is.1, (let lt = is.2 in omega arith), is.3, is.4, is.5)
]

pub pin_to_place : (side : Side) (b : DrawnBox) (n : ℕ) (p : Place) → IsPinTo side b n p → IsPinPlace side b p
pin_to_place Left b n p is = (sym (ap (λ (x : Place). x.column) is.5), (is.0, is.1, slice_get_within b.pins is.0 is.1 is.3, get_or_from_slice_get b.pins is.0 is.1 is.1 is.3, (is.4, ap (λ (x : Place). x.row) is.5)))
pin_to_place Right b n p is = (sym (ap (λ (x : Place). x.column) is.5), (is.0, is.1, slice_get_within b.pins is.0 is.1 is.3, get_or_from_slice_get b.pins is.0 is.1 is.1 is.3, (is.4, ap (λ (x : Place). x.row) is.5)))

pub pin_here : (side : Side) (b : DrawnBox) (n : ℕ) (pin : DrawnPin) → slice_get b.pins n ≡ Some pin → pin.side ≡ side → IsPinPlace side b (place pin.row (side_column side b))
pin_here side b n pin at is = pin_to_place side b (n + 1) (place pin.row (side_column side b)) (pin_to_here side b n pin at is (place pin.row (side_column side b)) refl)

pub pin_to_all : (side : Side) (b : DrawnBox) (n : ℕ) → length b.pins ≤ n → (p : Place) → IsPinPlace side b p → IsPinTo side b n p
pin_to_all Left b n all p is =
    let any = is.1 in
    (any.0, any.1, (let lt = any.2 in omega arith), slice_get-get_or b.pins any.0 any.1 any.2 ∙ ap Some any.3, any.4.0, place_same (place any.1.row b.left) p any.4.1 (sym is.0))
pin_to_all Right b n all p is =
    let any = is.1 in
    (any.0, any.1, (let lt = any.2 in omega arith), slice_get-get_or b.pins any.0 any.1 any.2 ∙ ap Some any.3, any.4.0, place_same (place any.1.row b.right) p any.4.1 (sym is.0))

-- pins of one side stand in one column
pub pin_to_column : (side : Side) (b : DrawnBox) (n : ℕ) (pin : DrawnPin) (p q : Place) → IsPinTo side b n p → place pin.row (side_column side b) ≡ q → p.row ≡ q.row → p.column ≡ q.column
pin_to_column side b n pin p q is e rows = sym (ap (λ (x : Place). x.column) is.5) ∙ ap (λ (x : Place). x.column) e

-- one pin more is put
pub puts_pin : (side : Side) (b : DrawnBox) (k n column : ℕ) (pin : DrawnPin) (old mid : List (Option InRow)) → slice_get b.pins n ≡ Some pin → pin.side ≡ side → column ≡ side_column side b → pin.row < length mid
    → Puts (IsPinTo side b n) k old mid → Puts (IsPinTo side b (n + 1)) k old (set mid pin.row (Some (in_row k column)))
puts_pin side b k n column pin old mid at is col within puts = rw col (puts_as (λ p. IsPinTo side b n p ⊎ (place pin.row (side_column side b) ≡ p)) (IsPinTo side b (n + 1)) k old
    (set mid pin.row (Some (in_row k (side_column side b))))
    (λ p h. elim h [ inl was ↦ pin_to_wide side b n p was | inr e ↦ pin_to_here side b n pin at is p e ])
    (pin_to_cases side b n pin at)
    (puts_then (IsPinTo side b n) (λ p. place pin.row (side_column side b) ≡ p) k old mid (set mid pin.row (Some (in_row k (side_column side b)))) (pin_to_column side b n pin)
    puts (puts_one (place pin.row (side_column side b)) k mid within)))

pub puts_skip : (side : Side) (b : DrawnBox) (k n : ℕ) (pin : DrawnPin) (old mid : List (Option InRow)) → slice_get b.pins n ≡ Some pin → (pin.side ≡ side → ⊥)
    → Puts (IsPinTo side b n) k old mid → Puts (IsPinTo side b (n + 1)) k old mid
puts_skip side b k n pin old mid at other puts = puts_as (IsPinTo side b n) (IsPinTo side b (n + 1)) k old mid (pin_to_wide side b n) (pin_to_skip side b n pin at other) puts

pub puts_all : (side : Side) (b : DrawnBox) (k n : ℕ) (old new : List (Option InRow)) → length b.pins ≤ n → Puts (IsPinTo side b n) k old new → Puts (IsPinPlace side b) k old new
puts_all side b k n old new all puts = puts_as (IsPinTo side b n) (IsPinPlace side b) k old new (pin_to_place side b n) (pin_to_all side b n all) puts
