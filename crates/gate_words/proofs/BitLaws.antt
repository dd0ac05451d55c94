-- What the bits at one place add to what those before say.
use Rattle.std.proofs.Common.{◌≡◌, ℕ, ◌+◌, ◌*◌, ◌/◌, ◌%◌, ◌<◌, ◌≤◌, ◌&&◌, min, Bool, true, false, not, cond, eqb, leb, refl, ap, sym, ◌∙◌, ⊎_elim, arith}
use Rattle.std.proofs.Math.Nat.{min-eq_left, min_comm}
use Rattle.std.proofs.lemmas.Bool.{eq-eqb, le-leb, lt-leb, ne_eqb}
use Rattle.std.proofs.lemmas.Bool.Decides.{eqb_tells, leb_tells}
use Rattle.gate_words.specs.Steps.Bits.{digit}

and_true : (a : Bool) → (a && true) ≡ a
and_true true = refl
and_true false = refl

and_false : (a : Bool) → (a && false) ≡ false
and_false true = refl
and_false false = refl

-- a bit of the same weight on both sides tells nothing
eqb_same : (a b w : ℕ) → eqb a b ≡ eqb (a + w) (b + w)
eqb_same a b w =
    ⊎_elim (λ h. h.0 ∙ sym (eq-eqb (a + w) (b + w) (ap (λ k. k + w) h.1)))
    (λ h. h.0 ∙ sym (ne_eqb (a + w) (b + w) (λ e. h.1 (omega (arith, e))))) (eqb_tells a b)

leb_same : (a b w : ℕ) → leb a b ≡ leb (a + w) (b + w)
leb_same a b w =
    ⊎_elim (λ h. h.0 ∙ sym (le-leb (a + w) (b + w) (omega (arith, h.1)))) (λ h. h.0 ∙ sym (lt-leb (a + w) (b + w) (omega (arith, h.1))))
    (leb_tells a b)

-- one on one side alone decides
pub eqb_more : (p q : Bool) (a b w : ℕ) → a < w → b < w
    → (eqb a b && cond p q (not q)) ≡ eqb (a + cond p w 0) (b + cond q w 0)
eqb_more true true a b w la lb = and_true (eqb a b) ∙ eqb_same a b w
eqb_more true false a b w la lb = and_false (eqb a b) ∙ sym (ne_eqb (a + w) (b + 0) (λ e. omega (arith, e, lb)))
eqb_more false true a b w la lb = and_false (eqb a b) ∙ sym (ne_eqb (a + 0) (b + w) (λ e. omega (arith, e, la)))
eqb_more false false a b w la lb = and_true (eqb a b) ∙ eqb_same a b 0

pub leb_more : (p q : Bool) (a b w : ℕ) → a < w → b < w
    → cond (cond p q (not q)) (leb a b) q ≡ leb (a + cond p w 0) (b + cond q w 0)
leb_more true true a b w la lb = leb_same a b w
leb_more true false a b w la lb = sym (lt-leb (a + w) (b + 0) (omega (arith, lb)))
leb_more false true a b w la lb = sym (le-leb (a + 0) (b + w) (omega (arith, la)))
leb_more false false a b w la lb = leb_same a b 0

-- the sum of three bits
three_bits : (a b c : Bool)
    → digit (cond (cond a (not b) b) (not c) c) + 2 * digit (cond (cond a (not b) b) c a) ≡ digit a + digit b + digit c
three_bits true true true = refl
three_bits true true false = refl
three_bits true false true = refl
three_bits true false false = refl
three_bits false true true = refl
three_bits false true false = refl
three_bits false false true = refl
three_bits false false false = refl

pub three_added : (a b c differ bit carry : Bool) → differ ≡ cond a (not b) b → bit ≡ cond differ (not c) c → carry ≡ cond differ c a
    → digit bit + 2 * digit carry ≡ digit a + digit b + digit c
three_added a b c differ bit carry ed eb ec =
    ap (λ x. digit x + 2 * digit carry) (eb ∙ ap (λ x. cond x (not c) c) ed)
    ∙ ap (λ x. digit (cond (cond a (not b) b) (not c) c) + 2 * digit x) (ec ∙ ap (λ x. cond x c a) ed) ∙ three_bits a b c

weighed : (b : Bool) (w : ℕ) → cond b w 0 ≡ w * digit b
weighed true w = omega arith
weighed false w = omega arith

-- the sum of the bits at a place, where each counts so much
pub sum_weighed : (a b c bit carry : Bool) (w : ℕ) → digit bit + 2 * digit carry ≡ digit a + digit b + digit c
    → cond bit w 0 + cond carry (w + w) 0 ≡ cond a w 0 + cond b w 0 + cond c w 0
sum_weighed a b c bit carry w e =
    let all = ap (λ k. w * k) e in
    let of_bit = weighed bit w in
    let of_carry = weighed carry (w + w) in
    let of_a = weighed a w in
    let of_b = weighed b w in
    let of_c = weighed c w in
    omega (arith, all, of_bit, of_carry, of_a, of_b, of_c)

pub at_most_of : (a b : ℕ) → cond (leb a b) a b ≡ min a b
at_most_of a b =
    ⊎_elim (λ h. ap (λ t. cond t a b) h.0 ∙ sym (min-eq_left h.1))
    (λ h. ap (λ t. cond t a b) h.0 ∙ sym (min-eq_left (omega (arith, h.1))) ∙ min_comm b a) (leb_tells a b)

-- a number is two times its half, and its lowest bit
below_two : (r : ℕ) → r < 2 → r ≡ digit (eqb r 1)
below_two r lt =
    ⊎_elim (λ h. h.1 ∙ sym (ap digit h.0)) (λ h. (let low : r ≡ 0 = omega (arith, lt, h.1) in low) ∙ sym (ap digit h.0)) (eqb_tells r 1)

pub halved : (n : ℕ) → n ≡ 2 * (n / 2) + digit (eqb (n % 2) 1)
halved n =
    let r = below_two (n % 2) (omega arith) in
    omega (arith, r)

pub weighed_half : (w n : ℕ) → cond (eqb (n % 2) 1) w 0 + (w + w) * (n / 2) ≡ w * n
weighed_half w n =
    let all = ap (λ k. w * k) (halved n) in
    let of_bit = weighed (eqb (n % 2) 1) w in
    omega (arith, all, of_bit)

-- nothing is left of a number
pub nothing_left : (x w rest number : ℕ) → rest ≤ 0 → x + w * rest ≡ number → x ≡ number
nothing_left x w rest number le e =
    let none : rest ≡ 0 = omega (arith, le) in
    let times : w * 0 ≡ 0 = omega arith in
    let gone : w * rest ≡ 0 = ap (λ k. w * k) none ∙ times in omega (arith, e, gone)
