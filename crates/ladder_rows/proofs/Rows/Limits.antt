-- On the first place beyond the limits of a drawing.
use Rattle.std.proofs.Common.{ℕ, suc, ◌<◌, ◌≤◌, ◌≡◌, List, [], ◌∷◌, length, map, take, get_or, Option, Some, None, refl, sym, ap, subst, arith, Bool, true, nat_lt, inl, inr, length-take-le}
use Rattle.std.specs.Prelude.{max}
use Rattle.std.specs.List.{fold, position, position_or_len}
use Rattle.std.proofs.lemmas.Bool.{cases_lt, both_ways, ltb-true}
use Rattle.std.proofs.lemmas.Grind.{common_steps}
use Rattle.std.proofs.lemmas.List.{get_or-take, get_or_past, take_all}
use Rattle.std.proofs.lemmas.List.Sums.{fails_before_first}
use Rattle.std.proofs.lemmas.List.Quantifiers.{position-Some}
use Rattle.ladder_rows.specs.Rows.{Rows, width}
use Rattle.ladder_rows.specs.Laws.{AreRowsWithin}
use Rattle.ladder_rows.specs.Steps.Search.{first_long, first_beyond, place_beyond}
use Rattle.ladder_rows.specs.Faults.{IsFirstAt, IsTooLargeAt}

-- where the longest row is longer than n, some row is
pub long_row : (n a : ℕ) (d : Rows) → a ≤ n → n < fold max a (map length d) → (r : ℕ) × (n < length (get_or d r []))
long_row n a [] h l = absurd (omega (arith, h, l))
long_row n a (row ∷ d) h l = elim (cases_lt n (length row)) [
  | inl m ↦ (0, m)
  | inr m ↦ let w = long_row n (max a (length row)) d (omega arith) l in (suc w.0, w.1)
]

-- a row is longer than 241
abbrev is_long : List ℕ → Bool
is_long row = nat_lt 241 (length row)

long-true : (n : ℕ) → 241 < n → nat_lt 241 n ≡ true
long-true n h = grind arith

-- no row is long
none_long : (xs : List (List ℕ)) → position is_long xs ≡ None → (k : ℕ) → k < length xs → 241 < length (get_or xs k []) → ⊥
none_long xs none k h l =
    let past : length xs ≤ position_or_len is_long xs = grind (arith, common_steps) in
    both_ways (is_long (get_or xs k [])) (fails_before_first is_long xs k [] (omega arith)) (long-true (length (get_or xs k [])) l)

row_there : (d : Rows) (r : ℕ) → 241 < length (get_or d r []) → r < length d
row_there d r l = elim (cases_lt r (length d)) [
  | inl h ↦ h
  | inr h ↦ absurd (omega (arith, ap (λ (row : List ℕ). length row) (get_or_past d r [] h), l))
]

in_take : {X : Type 0} (n : ℕ) (xs : List X) (k : ℕ) → k < n → k < length xs → k < length (take n xs)
in_take {X} n xs k h l = elim (cases_lt n (length xs)) [
  | inl m ↦ omega (arith, length-take-le n xs (omega arith))
  | inr m ↦ omega (arith, ap (λ (ys : List X). length ys) (take_all n xs m))
]

below_take : {X : Type 0} (n : ℕ) (xs : List X) (k : ℕ) → k < length (take n xs) → k < n
below_take {X} n xs k h = elim (cases_lt n (length xs)) [
  | inl m ↦ omega (arith, length-take-le n xs (omega arith))
  | inr m ↦ omega (arith, ap (λ (ys : List X). length ys) (take_all n xs m))
]

-- no row of 2000 is long
none_above : (d : Rows) → first_long d ≡ None → (r : ℕ) → r < 2001 → 241 < length (get_or d r []) → ⊥
none_above d none r h l =
    none_long (take 2001 d) none r (in_take 2001 d r h (row_there d r l)) (subst (λ (row : List ℕ). 241 < length row) (sym (get_or-take 2001 d r [] h)) l)

-- too many rows, where no row of 2000 is long
too_many : (d : Rows) → (length d ≤ 2001 → width d ≤ 240 → ⊥) → first_long d ≡ None → 2001 < length d
too_many d large none = elim (cases_lt 2001 (length d)) [
  | inl h ↦ h
  | inr h ↦ absurd (large h (elim (cases_lt 240 (width d)) [
    | inl m ↦
        let w = long_row 241 0 d (omega arith) (omega arith) in
        absurd (none_above d none w.0 (omega (arith, row_there d w.0 w.1)) w.1)
    | inr m ↦ m
  ]))
]

pub beyond_first : (d : Rows) → (length d ≤ 2001 → width d ≤ 240 → ⊥) → IsFirstAt (IsTooLargeAt d) (first_beyond d).row (first_beyond d).column
beyond_first d large = go (first_long d) refl
  where
    go : (o : Option ℕ) → first_long d ≡ o → IsFirstAt (IsTooLargeAt d) (place_beyond o).row (place_beyond o).column
    go None e = record {
      such = inl (too_many d large e, refl, refl);
      first = λ i j w. elim w [
        | inl v ↦ inr (sym v.1, omega (arith, v.2))
        | inr v ↦ elim (cases_lt i 2001) [
          | inl h ↦ absurd (none_above d e i h v.0)
          | inr h ↦ elim (cases_lt 2001 i) [
            | inl l ↦ inl l
            | inr l ↦ inr (omega arith, omega (arith, v.1))
          ]
        ]
      ];
    }
    go (Some k) e =
        let p = position-Some is_long (take 2001 d) k [] e in
        let low : k < 2001 = below_take 2001 d k p.0 in
        record {
          such = inr (ltb-true 241 (length (get_or d k [])) (subst (λ (row : List ℕ). is_long row ≡ true) (get_or-take 2001 d k [] low) p.1), refl);
          first = λ i j w. elim w [
            | inl v ↦ inl (omega (arith, v.1))
            | inr v ↦ elim (cases_lt i k) [
              | inl h ↦ absurd (both_ways (is_long (get_or (take 2001 d) i [])) (p.2 i h)
                  (long-true (length (get_or (take 2001 d) i [])) (subst (λ (row : List ℕ). 241 < length row) (sym (get_or-take 2001 d i [] (omega arith))) v.0)))
              | inr h ↦ elim (cases_lt k i) [
                | inl l ↦ inl l
                | inr l ↦ inr (omega arith, omega (arith, v.1))
              ]
            ]
          ];
        }

-- rows of which no place is beyond the limits are within them
pub rows_within : AreRowsWithin
rows_within d none = (
  elim (cases_lt 2001 (length d)) [
    | inl h ↦ absurd (none 2001 1 (inl (h, refl, refl)))
    | inr h ↦ h
  ],
  elim (cases_lt 240 (width d)) [
    | inl h ↦ let w = long_row 241 0 d (omega arith) (omega arith) in absurd (none w.0 241 (inr (w.1, refl)))
    | inr h ↦ h
  ],
)
