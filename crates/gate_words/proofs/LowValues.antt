-- The numbers of words, by their first bits.
use Rattle.std.proofs.Common.{◌≡◌, ℕ, zero, suc, ◌+◌, ◌*◌, ◌^◌, ◌<◌, ◌≤◌, Bool, true, false, cond, List, [], ◌∷◌, ◌++◌, length, refl, ap, sym, ◌∙◌, add-one, arith}
use Rattle.std.proofs.Math.Nat.{pow-suc}
use Rattle.gates.specs.Signals.{bit_of}
use Rattle.gate_words.specs.Words.{number_of}
use Rattle.gate_words.specs.Steps.Bits.{digit, low_value, weight}

-- steps on numbers alone
doubled : (b : Bool) (w : ℕ) → cond b (w + w) 0 ≡ 2 * cond b w 0
doubled true w = let e : w + w ≡ 2 * w = omega arith in e
doubled false w = refl

cons_step : (x d l big small : ℕ) → x ≡ d + 2 * l → big ≡ 2 * small → x + big ≡ d + 2 * (l + small)
cons_step x d l big small e f = omega (arith, e, f)

none_step : (x : ℕ) → x ≡ 0 → x + 0 ≡ 0
none_step x e = omega (arith, e)

lt_step : (l c w : ℕ) → l < w → c ≤ w → l + c < w + w
lt_step l c w lt le = omega (arith, lt, le)

pow_step : (w p q : ℕ) → w ≡ p → q ≡ p * 2 → w + w ≡ q
pow_step w p q e f = omega (arith, e, f)

push_step : (d n p c big : ℕ) → p ≡ n + c → big ≡ 2 * c → d + 2 * p ≡ d + 2 * n + big
push_step d n p c big e f = omega (arith, e, f)

grow_step : (w x y : ℕ) → w ≤ x → y ≡ x + x → w ≤ y
grow_step w x y le e = omega (arith, le, e)

-- one bit more below
low_cons : (b : Bool) (bits : List Bool) (n : ℕ) → low_value (bit_of (b ∷ bits)) (suc n) ≡ digit b + 2 * low_value (bit_of bits) n
low_cons true bits zero = refl
low_cons false bits zero = refl
low_cons b bits (suc n) =
    cons_step (low_value (bit_of (b ∷ bits)) (suc n)) (digit b) (low_value (bit_of bits) n) (cond (bit_of bits n) (weight n + weight n) 0)
    (cond (bit_of bits n) (weight n) 0) (low_cons b bits n) (doubled (bit_of bits n) (weight n))

low_none : (n : ℕ) → low_value (bit_of []) n ≡ 0
low_none zero = refl
low_none (suc n) = none_step (low_value (bit_of []) n) (low_none n)

-- the number of bits, by all of them, and maybe more
pub number_low : (bits : List Bool) (n : ℕ) → length bits ≤ n → number_of bits ≡ low_value (bit_of bits) n
number_low [] n le = sym (low_none n)
number_low (b ∷ bits) zero le = absurd (omega arith)
number_low (b ∷ bits) (suc n) le = ap (λ k. digit b + 2 * k) (number_low bits n (omega arith)) ∙ sym (low_cons b bits n)

counted : (b : Bool) (w : ℕ) → cond b w 0 ≤ w
counted true w = let le : w ≤ w = omega arith in le
counted false w = let le : 0 ≤ w = omega arith in le

-- so many bits make less than the next one counts
pub low_lt : (b : ℕ → Bool) (n : ℕ) → low_value b n < weight n
low_lt b zero = let lt : 0 < 1 = omega arith in lt
low_lt b (suc n) = lt_step (low_value b n) (cond (b n) (weight n) 0) (weight n) (low_lt b n) (counted (b n) (weight n))

pub low_more : (b : ℕ → Bool) (n : ℕ) → low_value b (n + 1) ≡ low_value b n + cond (b n) (weight n) 0
low_more b n = ap (low_value b) (add-one n)

pub weight_more : (n : ℕ) → weight (n + 1) ≡ weight n + weight n
weight_more n = ap weight (add-one n)

pub weight_is : (n : ℕ) → weight n ≡ 2 ^ n
weight_is zero = refl
weight_is (suc n) = pow_step (weight n) (2 ^ n) (2 ^ suc n) (weight_is n) (pow-suc 2 n)

-- one bit more above
pub number_push : (bits : List Bool) (b : Bool) → number_of (bits ++ b ∷ []) ≡ number_of bits + cond b (weight (length bits)) 0
number_push [] true = refl
number_push [] false = refl
number_push (a ∷ bits) b =
    push_step (digit a) (number_of bits) (number_of (bits ++ b ∷ [])) (cond b (weight (length bits)) 0)
    (cond b (weight (length bits) + weight (length bits)) 0) (number_push bits b) (doubled b (weight (length bits)))

-- bits above don't count, where the number is less than they would
weight_grows : (n k : ℕ) → weight n ≤ weight (k + n)
weight_grows n zero =
    let e : 0 + n ≡ n = omega arith in
    let same : weight (0 + n) ≡ weight n = ap weight e in omega (arith, same)
weight_grows n (suc k) =
    let e : suc k + n ≡ suc (k + n) = omega arith in
    grow_step (weight n) (weight (k + n)) (weight (suc k + n)) (weight_grows n k) (ap weight e)

without_last : (on : Bool) (w l n : ℕ) → n ≤ w → l + cond on w 0 < n → l + cond on w 0 ≡ l
without_last true w l n le lt = let less : l + w < n = lt in absurd (omega (arith, less, le))
without_last false w l n le lt = let e : l + 0 ≡ l = omega arith in e

lt_same : (x y n : ℕ) → x ≡ y → x < n → y < n
lt_same x y n e lt = omega (arith, e, lt)

pub low_enough : (b : ℕ → Bool) (n k : ℕ) → low_value b (k + n) < weight n → low_value b (k + n) ≡ low_value b n
low_enough b n zero lt = let e : 0 + n ≡ n = omega arith in ap (low_value b) e
low_enough b n (suc k) lt =
    let e : suc k + n ≡ suc (k + n) = omega arith in
    let all = low_value b (suc k + n) in
    let rest = low_value b (k + n) in
    let last = cond (b (k + n)) (weight (k + n)) 0 in
    let same : all ≡ rest + last = ap (low_value b) e in
    let drop : rest + last ≡ rest =
    without_last (b (k + n)) (weight (k + n)) rest (weight n) (weight_grows n k) (lt_same all (rest + last) (weight n) same lt) in
    same ∙ drop ∙ low_enough b n k (lt_same all rest (weight n) (same ∙ drop) lt)
