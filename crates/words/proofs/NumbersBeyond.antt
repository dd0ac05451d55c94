-- Numbers above their limit.
use Rattle.std.proofs.Common.{◌≡◌, ℕ, suc, ◌+◌, ◌-◌, ◌*◌, ◌<◌, ◌≤◌, List, [], ◌∷◌, Bool, true, false, eqb, cond, length, get_or, drop, None, arith, drop-cons, tests}
use Rattle.words.specs.Numbers.{with_digit, digits_value, limited}

with_digit-grows : (n c : ℕ) → n ≤ with_digit n c
with_digit-grows n c = go (eqb c 95)
  where
    go : (b : Bool) → n ≤ cond b n (10 * n + (c - 48))
    go true = omega arith
    go false = omega arith

digits_value-grows : (w : List ℕ) (n : ℕ) → n ≤ digits_value n w
digits_value-grows [] n = omega arith
digits_value-grows (c ∷ w) n =
    let a : n ≤ with_digit n c = with_digit-grows n c in
    let b : with_digit n c ≤ digits_value (with_digit n c) w = digits_value-grows w (with_digit n c) in
    omega arith

limited-above : (most n : ℕ) → most < n → limited most n ≡ None
limited-above most n h = grind (arith, tests)

above-limited : (most n : ℕ) → limited most n ≡ None → most < n
above-limited most n h = grind (arith, tests)

-- digits that go on from a number above the limit
pub digits_beyond : (xs : List ℕ) (i n most whole : ℕ) → i < length xs → limited most (with_digit n (get_or xs i 0)) ≡ None → digits_value n (drop i xs) ≡ whole → limited most whole ≡ None
digits_beyond xs i n most whole h above is =
    let front : drop i xs ≡ get_or xs i 0 ∷ drop (suc i) xs = drop-cons xs i 0 h in
    let value : digits_value (with_digit n (get_or xs i 0)) (drop (suc i) xs) ≡ whole = rw front at is in
    let high : most < with_digit n (get_or xs i 0) = above-limited most (with_digit n (get_or xs i 0)) above in
    let grows : with_digit n (get_or xs i 0) ≤ digits_value (with_digit n (get_or xs i 0)) (drop (suc i) xs) = digits_value-grows (drop (suc i) xs) (with_digit n (get_or xs i 0)) in
    limited-above most whole (omega arith)
