-- The pins of a row, where pins stand row by row.
use Rattle.std.proofs.Common.{ℕ, zero, suc, ◌+◌, ◌-◌, ◌<◌, ◌≤◌, ◌≡◌, ◌==◌, List, [], ◌∷◌, ◌++◌, length, take, drop, get_or, refl, ap, arith, rules, tests, true, false, length-append, length-drop, get_or-drop, inl, inr}
use Rattle.std.specs.List.{list_any, filter}
use Rattle.std.specs.List.Sorted.{IsNonDecreasingBy}
use Rattle.std.proofs.lemmas.Bool.{and_parts, cases_lt}
use Rattle.std.proofs.Math.ListN.{get_or-append}
use Rattle.std.proofs.Math.Seq.{get_or-append_right}
use Rattle.std.proofs.lemmas.Map.Views.{any-filter_same}
use Rattle.drawings.specs.declared.drawn_box.DrawnPin.{DrawnPin}
use Rattle.drawings.specs.declared.drawn_box.Side.{Side}
use Rattle.ladder_rows.specs.declared.boxes.outline.Outline.{Outline}
use Rattle.ladder_rows.specs.BoxTests.{pin_reaches, pin_on, takes_word}
use Rattle.ladder_rows.specs.Steps.RowBoxes.{row_of_pin}

-- the elements between two places, where those before are below t and those behind are above it
pub filter-run : {X : Type 0} (n : X → ℕ) (t : ℕ) (xs : List X) (from len : ℕ)
    → ((k : ℕ) (d : X) → k < from → k < length xs → n (get_or xs k d) < t)
    → ((k : ℕ) (d : X) → from ≤ k → k < from + len → k < length xs → n (get_or xs k d) ≡ t)
    → ((k : ℕ) (d : X) → from + len ≤ k → k < length xs → t < n (get_or xs k d))
    → take len (drop from xs) ≡ filter (λ x. n x == t) xs
filter-run n t [] zero zero b e a = refl
filter-run n t [] zero (suc l) b e a = refl
filter-run n t [] (suc f) zero b e a = refl
filter-run n t [] (suc f) (suc l) b e a = refl
filter-run n t (x ∷ xs) zero zero b e a =
    let above : t < n x = a 0 x (omega arith) (omega arith) in
    let no : (n x == t) ≡ false = search (rules, tests) in
    let i = filter-run n t xs zero zero (λ k d h l. absurd (omega arith)) (λ k d h m l. absurd (omega arith)) (λ k d h l. a (suc k) d (omega arith) (omega arith)) in
    rw no i
filter-run {X = X} n t (x ∷ xs) zero (suc l) b e a =
    let here : n x ≡ t = e 0 x (omega arith) (omega arith) (omega arith) in
    let yes : (n x == t) ≡ true = search (rules, tests) in
    let i = filter-run n t xs zero l (λ k d h m. absurd (omega arith)) (λ k d h m j. e (suc k) d (omega arith) (omega arith) (omega arith)) (λ k d h j. a (suc k) d (omega arith) (omega arith)) in
    rw yes (ap (λ (r : List X). x ∷ r) i)
filter-run n t (x ∷ xs) (suc f) l b e a =
    let below : n x < t = b 0 x (omega arith) (omega arith) in
    let no : (n x == t) ≡ false = search (rules, tests) in
    let i = filter-run n t xs f l (λ k d h m. b (suc k) d (omega arith) (omega arith)) (λ k d h m j. e (suc k) d (omega arith) (omega arith) (omega arith)) (λ k d h j. a (suc k) d (omega arith) (omega arith)) in
    rw no i

-- the pins of row r, where `from` pins stand above it, and of the others the first `len` on it
pub pins_between : (r from len : ℕ) (pins : List DrawnPin)
    → ((k : ℕ) (d : DrawnPin) → k < from → (get_or pins k d).row < r)
    → ((k : ℕ) (d : DrawnPin) → from ≤ k → k < length pins → r ≤ (get_or pins k d).row)
    → ((k : ℕ) (d : DrawnPin) → k < len → (get_or (drop from pins) k d).row ≤ r)
    → ((k : ℕ) (d : DrawnPin) → len ≤ k → k < length (drop from pins) → r < (get_or (drop from pins) k d).row)
    → take len (drop from pins) ≡ filter (λ (q : DrawnPin). q.row == r) pins
pins_between r from len pins above behind to beyond =
    let size : length (drop from pins) ≡ length pins - from = length-drop from pins in
    filter-run row_of_pin r pins from len
    (λ k d h l. above k d h)
    (λ k d h m l.
    let j : from + (k - from) ≡ k = omega arith in
    let at : get_or (drop from pins) (k - from) d ≡ get_or pins k d = rw j at (get_or-drop from pins (k - from) d) in
    let low : (get_or pins k d).row ≤ r = rw at at (to (k - from) d (omega arith)) in
    omega (arith, low, behind k d h l))
    (λ k d h l.
    let j : from + (k - from) ≡ k = omega arith in
    let at : get_or (drop from pins) (k - from) d ≡ get_or pins k d = rw j at (get_or-drop from pins (k - from) d) in
    rw at at (beyond (k - from) d (omega arith) (omega arith)))

-- lists that rise, the second from where the first ends
pub rising-append : {X : Type 0} (n : X → ℕ) (t : ℕ) (xs ys : List X) → IsNonDecreasingBy n xs → IsNonDecreasingBy n ys
    → ((k : ℕ) (d : X) → k < length xs → n (get_or xs k d) ≤ t) → ((k : ℕ) (d : X) → k < length ys → t ≤ n (get_or ys k d)) → IsNonDecreasingBy n (xs ++ ys)
rising-append n t xs ys r s f g i j d l h =
    let whole : length (xs ++ ys) ≡ length xs + length ys = length-append xs ys in
    elim (cases_lt j (length xs)) [
      | inl b ↦
          let x = get_or-append xs ys d i (omega arith) in
          let y = get_or-append xs ys d j b in
          rw (x, y) (r i j d l b)
      | inr b ↦
          let y = get_or-append_right xs ys j d b in
          let within : j - length xs < length ys = omega arith in
          elim (cases_lt i (length xs)) [
            | inl a ↦ let x = get_or-append xs ys d i a in rw (x, y) (omega (arith, f i d a, g (j - length xs) d within))
            | inr a ↦ let x = get_or-append_right xs ys i d a in rw (x, y) (s (i - length xs) (j - length xs) d (omega arith) within)
          ]
    ]

-- a pin whose operand reaches a place of a row is on that row
pub reaching_on : (b : Outline) (r c : ℕ) (pins : List DrawnPin) → list_any (pin_reaches b r c) (filter (λ (q : DrawnPin). q.row == r) pins) ≡ list_any (pin_reaches b r c) pins
reaching_on b r c pins = any-filter_same (pin_reaches b r c) (λ (q : DrawnPin). q.row == r) true (λ q h. (and_parts _ _ h).0) pins

-- so is a pin of a side and a row
pub pin_on_row : (s : Side) (r : ℕ) (pins : List DrawnPin) → list_any (pin_on s r) (filter (λ (q : DrawnPin). q.row == r) pins) ≡ list_any (pin_on s r) pins
pin_on_row s r pins = any-filter_same (pin_on s r) (λ (q : DrawnPin). q.row == r) true (λ q h. (and_parts _ _ h).0) pins

-- and one whose operand begins there
pub taking_on : (s : Side) (r c : ℕ) (pins : List DrawnPin) → list_any (takes_word s r c) (filter (λ (q : DrawnPin). q.row == r) pins) ≡ list_any (takes_word s r c) pins
taking_on s r c pins = any-filter_same (takes_word s r c) (λ (q : DrawnPin). q.row == r) true (λ q h. (and_parts _ _ (and_parts _ _ h).0).0) pins
