-- The pins of a box stand on its inner rows.
use Rattle.std.proofs.Common.{ℕ, zero, suc, ◌+◌, ◌<◌, ◌≤◌, ◌≡◌, Bool, true, false, ◌&&◌, cond, List, [], ◌∷◌, Option, Some, None, refl, arith, subst}
use Rattle.std.specs.List.{All}
use Rattle.std.proofs.lemmas.List.Elements.{All-nil, All-cons, All-append, All-weaker}
use Rattle.std.proofs.lemmas.Option.{none-some, same_Some, cond_some}
use Rattle.drawings.specs.declared.drawn_box.DrawnPin.{DrawnPin}
use Rattle.drawings.specs.declared.drawn_box.Side.TheVariants as side
use Rattle.ladder_rows.specs.Rows.{Rows}
use Rattle.words.specs.Chars.{is_identifier}
use Rattle.ladder_rows.specs.Boxes.{nearer_pin, side_pin, pins_from, row_pins, both, pins_of_rows, blank_words, cut, blanks_before, blanks_behind}
use Rattle.std.proofs.Common.{nat_le}
use Rattle.std.specs.List.Sorted.{IsNonDecreasingBy}
use Rattle.std.proofs.lemmas.List.Sorted.{IsNonDecreasingBy-short}
use Rattle.ladder_rows.specs.Steps.RowBoxes.{row_of_pin}
use Rattle.ladder_rows.proofs.Outlines.RowPins.{rising-append}

-- the pin is on row r
abbrev IsOn : ℕ → DrawnPin → Type 0
IsOn r q = q.row ≡ r

-- the pin is on a row from a on, and below b
abbrev pub IsFromTo : ℕ → ℕ → DrawnPin → Type 0
IsFromTo a b q = (a ≤ q.row) × (q.row < b)

either_on : (r : ℕ) (b : Bool) (p q : DrawnPin) → IsOn r p → IsOn r q → IsOn r (cond b p q)
either_on r true p q e f = e
either_on r false p q e f = f

nearer_on : (d : Rows) (r a e : ℕ) (w : List ℕ) → IsOn r (nearer_pin d r a e w)
unfolding nearer_pin
nearer_on d r a e w =
    let text = cut d r (a + 1) e in
    either_on r (nat_le (blanks_before text) (blanks_behind text)) (side_pin d side.Left r a w) (side_pin d side.Right r e w) refl refl

pins_from_on : (d : Rows) (r a e : ℕ) (ws : List (List ℕ)) (pins : List DrawnPin) → pins_from d r a e ws ≡ Some pins → All (IsOn r) pins
pins_from_on d r a e [] pins q = subst (All (IsOn r)) (same_Some [] pins q) (All-nil (IsOn r))
pins_from_on d r a e (w ∷ []) pins q =
    let t = (cond_some (is_identifier w) _ pins q).1 in
    subst (All (IsOn r)) t (All-cons (IsOn r) _ [] (nearer_on d r a e w) (All-nil (IsOn r)))
pins_from_on d r a e (w ∷ v ∷ []) pins q =
    let l = side_pin d side.Left r a w in
    let h = side_pin d side.Right r e v in
    let t = (cond_some (is_identifier w && is_identifier v) _ pins q).1 in
    subst (All (IsOn r)) t (All-cons (IsOn r) l (h ∷ []) refl (All-cons (IsOn r) h [] refl (All-nil (IsOn r))))
pins_from_on d r a e (w ∷ v ∷ u ∷ more) pins q = absurd (none-some pins q)

both_parts : (P : DrawnPin → Type 0) (x y : Option (List DrawnPin)) (zs : List DrawnPin) → both x y ≡ Some zs
    → ((xs : List DrawnPin) → x ≡ Some xs → All P xs) → ((ys : List DrawnPin) → y ≡ Some ys → All P ys) → All P zs
both_parts P None y zs e f g = absurd (none-some zs e)
both_parts P (Some xs) None zs e f g = absurd (none-some zs e)
both_parts P (Some xs) (Some ys) zs e f g = subst (All P) (same_Some _ zs e) (All-append P xs ys (f xs refl) (g ys refl))

pub pins_of_rows_from : (d : Rows) (a e r n : ℕ) (pins : List DrawnPin) → pins_of_rows d a e r n ≡ Some pins → All (IsFromTo r (r + n)) pins
pins_of_rows_from d a e r zero pins q = subst (All (IsFromTo r (r + 0))) (same_Some [] pins q) (All-nil (IsFromTo r (r + 0)))
pins_of_rows_from d a e r (suc n) pins q =
    both_parts (IsFromTo r (r + suc n)) (pins_of_rows d a e r n) (row_pins d a e (r + n)) pins q
    (λ xs h. All-weaker (IsFromTo r (r + n)) (IsFromTo r (r + suc n)) (λ p w. (w.0, omega (arith, w.1))) xs (pins_of_rows_from d a e r n xs h))
    (λ ys h. All-weaker (IsOn (r + n)) (IsFromTo r (r + suc n)) (λ p w. (omega (arith, w), omega (arith, w))) ys
    (pins_from_on d (r + n) a e (blank_words (cut d (r + n) (a + 1) e)) ys h))

-- pins of one row stand row by row
level_rising : (r : ℕ) (pins : List DrawnPin) → All (IsOn r) pins → IsNonDecreasingBy row_of_pin pins
level_rising r pins h i j d l k = omega (arith, h i d (omega arith), h j d k)

both_rising : (t : ℕ) (x y : Option (List DrawnPin)) (zs : List DrawnPin) → both x y ≡ Some zs
    → ((xs : List DrawnPin) → x ≡ Some xs → IsNonDecreasingBy row_of_pin xs × All (λ (q : DrawnPin). q.row ≤ t) xs)
    → ((ys : List DrawnPin) → y ≡ Some ys → IsNonDecreasingBy row_of_pin ys × All (λ (q : DrawnPin). t ≤ q.row) ys) → IsNonDecreasingBy row_of_pin zs
both_rising t None y zs e f g = absurd (none-some zs e)
both_rising t (Some xs) None zs e f g = absurd (none-some zs e)
both_rising t (Some xs) (Some ys) zs e f g =
    let v = f xs refl in
    let w = g ys refl in
    subst (IsNonDecreasingBy row_of_pin) (same_Some _ zs e) (rising-append row_of_pin t xs ys v.0 w.0 (λ k d h. v.1 k d h) (λ k d h. w.1 k d h))

-- the pins of some rows stand row by row
pub pins_of_rows_rising : (d : Rows) (a e r n : ℕ) (pins : List DrawnPin) → pins_of_rows d a e r n ≡ Some pins → IsNonDecreasingBy row_of_pin pins
pins_of_rows_rising d a e r zero pins q = subst (IsNonDecreasingBy row_of_pin) (same_Some [] pins q) (IsNonDecreasingBy-short row_of_pin [] (omega arith))
pins_of_rows_rising d a e r (suc n) pins q =
    both_rising (r + n) (pins_of_rows d a e r n) (row_pins d a e (r + n)) pins q
    (λ xs h. (pins_of_rows_rising d a e r n xs h, All-weaker (IsFromTo r (r + n)) (λ (q : DrawnPin). q.row ≤ r + n) (λ p w. omega (arith, w.1)) xs (pins_of_rows_from d a e r n xs h)))
    (λ ys h. let on = pins_from_on d (r + n) a e (blank_words (cut d (r + n) (a + 1) e)) ys h in
    (level_rising (r + n) ys on, All-weaker (IsOn (r + n)) (λ (q : DrawnPin). r + n ≤ q.row) (λ p w. omega (arith, w)) ys on))
