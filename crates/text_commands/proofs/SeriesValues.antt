-- The values that items give, item by item.
use Rattle.std.proofs.Common.{◌≡◌, ℕ, zero, suc, ◌+◌, ◌*◌, ◌%◌, ◌/◌, ◌-◌, ◌<◌, ◌≤◌, ◌++◌, List, [], ◌∷◌, inl, inr, length, take, get_or, refl, sym, ap, subst, ◌∙◌, arith, length-append}
use Rattle.std.proofs.Math.Nat.{div-add-mod, mul-le-mul_left}
use Rattle.std.proofs.lemmas.List.{get_or-take, length-take-le, take_all, take_more}
use Rattle.std.proofs.lemmas.List.Concat.{flat_map-append}
use Rattle.std.proofs.lemmas.List.Folds.{length-flat_map-take}
use Rattle.std.proofs.lemmas.List.{append-nil}
use Rattle.std.proofs.lemmas.List.Sorted.{IsNonDecreasingBy-from_default}
use Rattle.std.proofs.lemmas.Option.{slice_get_past, slice_get-get_or}
use Rattle.std.proofs.lemmas.Bool.{cases_lt}
use Rattle.std.specs.Prelude.{None, slice_get, unwrap_or}
use Rattle.std.specs.List.Sorted.{IsNonDecreasing}
use Rattle.lists.proofs.Places.{slice_get-append}
use Rattle.std_blocks.specs.declared.value.Value.{Value}
use Rattle.text_commands.specs.Series.{ItemValue, given_by, repeated}
use Rattle.text_commands.specs.Steps.Series.{AreEnds}

in_first : (xs ys : List Value) (k : ℕ) → k < length xs → slice_get (xs ++ ys) k ≡ slice_get xs k
in_first xs ys k lt = elim (slice_get-append xs ys k) [
  | inl first ↦ first.1
  | inr second ↦ absurd (let e = second.1 in omega arith)
]

in_second : (xs ys : List Value) (j : ℕ) → slice_get (xs ++ ys) (length xs + j) ≡ slice_get ys j
in_second xs ys j = elim (slice_get-append xs ys (length xs + j)) [
  | inl first ↦ absurd (let lt = first.0 in omega arith)
  | inr second ↦ second.2 ∙ ap (slice_get ys) (let e = second.1 in omega arith)
]

pub length-repeated : (n : ℕ) (once : List Value) → length (repeated n once) ≡ n * length once
length-repeated zero once = omega arith
length-repeated (suc n) once = let e = length-repeated n once in omega (arith, length-append once (repeated n once))

repeated_round : (n q r : ℕ) (once : List Value) → r < length once → q < n → slice_get (repeated n once) (q * length once + r) ≡ slice_get once r
repeated_round zero q r once within lt = absurd (omega arith)
repeated_round (suc n) zero r once within lt =
    let at : 0 * length once + r ≡ r = omega arith in
    ap (slice_get (once ++ repeated n once)) at ∙ in_first once (repeated n once) r within
repeated_round (suc n) (suc q) r once within lt =
    let at : suc q * length once + r ≡ length once + (q * length once + r) = omega arith in
    ap (slice_get (once ++ repeated n once)) at ∙ in_second once (repeated n once) (q * length once + r) ∙ repeated_round n q r once within (omega arith)

-- the value at a place is that at the place within one time
pub repeated_at : (n place : ℕ) (once : List Value) → 0 < length once → place < n * length once → slice_get (repeated n once) place ≡ slice_get once (place % length once)
repeated_at n place once some lt =
    let whole = div-add-mod place (length once) in
    let within : place % length once < length once = omega arith in
    let early : place / length once < n = elim (cases_lt (place / length once) n) [
      | inl less ↦ less
      | inr late ↦ absurd (let more = mul-le-mul_left (length once) late in omega (arith, more, whole))
    ] in
    let at : place ≡ place / length once * length once + place % length once = omega (arith, whole) in
    ap (slice_get (repeated n once)) at ∙ repeated_round n (place / length once) (place % length once) once within early

-- a value of an item stands behind those of the items before
pub given_at : (items : List ItemValue) (i left : ℕ) (item : ItemValue) → i < length items → item ≡ get_or items i item → left < length (repeated item.times item.once)
    → slice_get (given_by items) (length (given_by (take i items)) + left) ≡ slice_get (repeated item.times item.once) left
given_at [] i left item within is lt = absurd (omega arith)
given_at (x ∷ items) zero left item within is lt =
    let at : 0 + left ≡ left = omega arith in
    let here : left < length (repeated x.times x.once) = subst (λ (i : ItemValue). left < length (repeated i.times i.once)) is lt in
    ap (slice_get (repeated x.times x.once ++ given_by items)) at ∙ in_first (repeated x.times x.once) (given_by items) left here ∙ ap (λ (i : ItemValue). slice_get (repeated i.times i.once) left) (sym is)
given_at (x ∷ items) (suc i) left item within is lt =
    let first = repeated x.times x.once in
    let long = length-append first (given_by (take i items)) in
    let at : length (first ++ given_by (take i items)) + left ≡ length first + (length (given_by (take i items)) + left) = omega arith in
    ap (slice_get (first ++ given_by items)) at ∙ in_second first (given_by items) (length (given_by (take i items)) + left) ∙ given_at items i left item (omega arith) is lt

-- one item more
pub given_more : (items : List ItemValue) (i : ℕ) (item : ItemValue) → i < length items → item ≡ get_or items i item
    → length (given_by (take (i + 1) items)) ≡ length (given_by (take i items)) + length (repeated item.times item.once)
given_more items i item within is =
    ap (λ (l : List ItemValue). length (given_by l)) (take_more items i item within ∙ ap (λ x. take i items ++ x ∷ []) (sym is))
    ∙ ap length (flat_map-append (λ (x : ItemValue). repeated x.times x.once) (take i items) (item ∷ []) ∙ ap (λ l. given_by (take i items) ++ l) (append-nil (repeated item.times item.once)))
    ∙ length-append (given_by (take i items)) (repeated item.times item.once)

-- all items give no less than the first of them
pub given_least : (items : List ItemValue) (i : ℕ) (item : ItemValue) → i < length items → item ≡ get_or items i item
    → length (given_by (take i items)) + length (repeated item.times item.once) ≤ length (given_by items)
given_least items i item within is =
    let least = length-flat_map-take (λ (x : ItemValue). repeated x.times x.once) items i item within in
    let same : length (repeated (get_or items i item).times (get_or items i item).once) ≡ length (repeated item.times item.once) = ap (λ (x : ItemValue). length (repeated x.times x.once)) (sym is) in
    omega arith

-- behind the last item there is no value
pub given_past : (items : List ItemValue) (i left k : ℕ) → length items ≤ i → k ≡ length (given_by (take i items)) + left → slice_get (given_by items) k ≡ None
given_past items i left k all is =
    let whole : length (given_by (take i items)) ≡ length (given_by items) = ap (λ (l : List ItemValue). length (given_by l)) (take_all i items all) in
    slice_get_past (given_by items) k (omega arith)

none_first : (items : List ItemValue) → length (given_by (take 0 items)) ≡ 0
none_first [] = refl
none_first (x ∷ items) = refl

-- more items give no fewer values
given_rises : (items : List ItemValue) (i j : ℕ) → i ≤ j → length (given_by (take i items)) ≤ length (given_by (take j items))
given_rises items zero j le = let none = none_first items in omega arith
given_rises items (suc i) zero le = absurd (omega arith)
given_rises [] (suc i) (suc j) le = omega arith
given_rises (x ∷ items) (suc i) (suc j) le =
    let more = given_rises items i j (omega arith) in
    let early = length-append (repeated x.times x.once) (given_by (take i items)) in
    let late = length-append (repeated x.times x.once) (given_by (take j items)) in
    omega arith

-- ends rise
pub ends_rise : (items : List ItemValue) (ends : List ℕ) → AreEnds items ends → IsNonDecreasing ends
ends_rise items ends are = IsNonDecreasingBy-from_default (λ (y : ℕ). y) ends 0 (λ i j le lt.
    let long = are.long in
    let early = are.each i (omega arith) in
    let late = are.each j (omega arith) in
    let rises = given_rises items (i + 1) (j + 1) (omega arith) in
    omega arith)

-- behind so many items stand the values that come up to the end of the last of them
pub begin_is : (items : List ItemValue) (ends : List ℕ) (number : ℕ) → AreEnds items ends → number ≤ length ends
    → unwrap_or (slice_get (take number ends) (length (take number ends) - 1)) 0 ≡ length (given_by (take number items))
begin_is items ends zero are le =
    let long = length-take-le 0 ends le in
    ap (λ o. unwrap_or o 0) (slice_get_past (take 0 ends) (length (take 0 ends) - 1) (omega arith)) ∙ sym (none_first items)
begin_is items ends (suc n) are le =
    let long = are.long in
    let short = length-take-le (suc n) ends le in
    let last : length (take (suc n) ends) - 1 ≡ n = omega arith in
    let inside : n < length (take (suc n) ends) = omega arith in
    let next : n + 1 ≡ suc n = omega arith in
    ap (λ k. unwrap_or (slice_get (take (suc n) ends) k) 0) last ∙ ap (λ o. unwrap_or o 0) (slice_get-get_or (take (suc n) ends) n 0 inside)
    ∙ get_or-take (suc n) ends n 0 (omega arith) ∙ are.each n (omega arith) ∙ ap (λ m. length (given_by (take m items))) next

-- the last end is the number of all values
pub last_end_is : (items : List ItemValue) (ends : List ℕ) → AreEnds items ends → unwrap_or (slice_get ends (length ends - 1)) 0 ≡ length (given_by items)
last_end_is items ends are =
    let long = are.long in
    let whole : take (length ends) ends ≡ ends = take_all (length ends) ends (omega arith) in
    ap (λ (l : List ℕ). unwrap_or (slice_get l (length l - 1)) 0) (sym whole) ∙ begin_is items ends (length ends) are (omega arith)
    ∙ ap (λ (l : List ItemValue). length (given_by l)) (take_all (length ends) items (omega arith))

-- where the ends of so many items are up to a place, so are their values
pub begin_before : (items : List ItemValue) (ends : List ℕ) (number place : ℕ) → AreEnds items ends → number ≤ length ends → ((k : ℕ) → k < number → get_or ends k 0 ≤ place)
    → length (given_by (take number items)) ≤ place
begin_before items ends zero place are le before = let none = none_first items in omega arith
begin_before items ends (suc n) place are le before =
    let long = are.long in
    let last = before n (omega arith) in
    let end = are.each n (omega arith) in
    let next : n + 1 ≡ suc n = omega arith in
    let same = ap (λ m. length (given_by (take m items))) next in
    omega arith

-- the value at a place is that of the first item that ends behind it
pub found_at : (items : List ItemValue) (ends : List ℕ) (number place : ℕ) (item : ItemValue) → AreEnds items ends → number < length items → item ≡ get_or items number item
    → ((k : ℕ) → k < number → get_or ends k 0 ≤ place) → ((k : ℕ) → number ≤ k → k < length ends → place < get_or ends k 0)
    → (length (given_by (take number items)) ≤ place) × (place - length (given_by (take number items)) < length (repeated item.times item.once))
    × (slice_get (given_by items) place ≡ slice_get (repeated item.times item.once) (place - length (given_by (take number items))))
found_at items ends number place item are within is before behind =
    let long = are.long in
    let begun = begin_before items ends number place are (omega arith) before in
    let end = are.each number within in
    let late = behind number (omega arith) (omega arith) in
    let more = given_more items number item within is in
    let left : place - length (given_by (take number items)) < length (repeated item.times item.once) = omega arith in
    let at : place ≡ length (given_by (take number items)) + (place - length (given_by (take number items))) = omega arith in
    (begun, left, ap (slice_get (given_by items)) at ∙ given_at items number _ item within is left)

-- behind all ends there is no value
pub found_nowhere : (items : List ItemValue) (ends : List ℕ) (number place : ℕ) → AreEnds items ends → number ≤ length ends → length items ≤ number
    → ((k : ℕ) → k < number → get_or ends k 0 ≤ place) → slice_get (given_by items) place ≡ None
found_nowhere items ends number place are few all before =
    let begun = begin_before items ends number place are few before in
    given_past items number (place - length (given_by (take number items))) place all (omega arith)
