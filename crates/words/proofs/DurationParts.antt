-- Durations are spelled by their parts.
use Rattle.std.proofs.Common.{ℕ, zero, suc, ◌<◌, ◌≡◌, ◌==◌, ◌||◌, List, [], ◌∷◌, ◌++◌, length, take, drop, take_while, refl, sym, ap, ◌∙◌, subst, arith, Bool, true, false, IsTrue, ◌⊎◌, inl, inr, nat_lt, append_assoc}
use Rattle.std.specs.List.{prefix_len}
use Rattle.std.proofs.lemmas.Bool.{and_parts, both_ways, ltb-true, eqb-true}
use Rattle.std.proofs.lemmas.List.{append-nil}
use Rattle.words.specs.Chars.{is_letter, is_digit_or_score, is_number, unit_rank, without_score, part_rest, part_unit, part_more, is_part, is_parts}
use Rattle.words.specs.Numbers.{parts_value}
use Rattle.words.specs.Durations.{Part, AreParts, IsSpelling, milliseconds}

front_back : (n : ℕ) (xs : List ℕ) → take n xs ++ drop (length (take n xs)) xs ≡ xs
front_back zero xs = refl
front_back (suc n) [] = refl
front_back (suc n) (x ∷ xs) = ap (λ ys. x ∷ ys) (front_back n xs)

-- a word is its first number, its first unit and more
word_parts : (w : List ℕ) → take_while is_digit_or_score w ++ part_unit w ++ part_more w ≡ w
word_parts w =
    append_assoc (take_while is_digit_or_score w) (part_unit w) (part_more w)
    ∙ ap (λ xs. take_while is_digit_or_score w ++ xs) (front_back (prefix_len is_letter (part_rest w)) (part_rest w))
    ∙ front_back (prefix_len is_digit_or_score w) w

-- the first part of a word
abbrev first_part : List ℕ → Part
first_part w = record { number = take_while is_digit_or_score w; unit = part_unit w }

pub none_or : (a b : Bool) → a ≡ false → (a || b) ≡ true → b ≡ true
none_or true b e t = absurd (both_ways true e refl)
none_or false b e t = t

not_true : (b : Bool) → (b ≡ true → ⊥) → b ≡ false
not_true true h = absurd (h refl)
not_true false h = refl

not_empty : (c : ℕ) (m : List ℕ) → (length (c ∷ m) == 0) ≡ false
not_empty c m = not_true (length (c ∷ m) == 0) (λ t. absurd (omega (arith, eqb-true (length (c ∷ m)) 0 t)))

-- parts behind a rank that spell a word, and are as much as is reckoned
abbrev AreOf : ℕ → ℕ → List ℕ → Type 0
AreOf n above w = (ps : List Part) × IsSpelling ps w × AreParts above ps × (parts_value n w ≡ milliseconds ps)

with_more : (n above : ℕ) (w m r : List ℕ) → part_more w ≡ m → (length m == 0) ≡ false → ((m ≡ r) ⊎ (m ≡ 95 ∷ r)) → without_score m ≡ r
    → IsTrue (is_number (take_while is_digit_or_score w)) → above < unit_rank (part_unit w) → AreOf n (unit_rank (part_unit w)) r → AreOf (suc n) above w
with_more n above w m r e some is score f g ([], s, h, v) = absurd s
with_more n above w m r e some is score f g (q ∷ qs, s, h, v) = (first_part w ∷ q ∷ qs, (r, s, spelled is), (f, g, h), value)
  where
    spelled : ((m ≡ r) ⊎ (m ≡ 95 ∷ r)) → (w ≡ take_while is_digit_or_score w ++ part_unit w ++ r) ⊎ (w ≡ take_while is_digit_or_score w ++ part_unit w ++ 95 ∷ r)
    spelled (inl i) = inl (sym (word_parts w) ∙ ap (λ xs. take_while is_digit_or_score w ++ part_unit w ++ xs) (e ∙ i))
    spelled (inr i) = inr (sym (word_parts w) ∙ ap (λ xs. take_while is_digit_or_score w ++ part_unit w ++ xs) (e ∙ i))

    value : parts_value (suc n) w ≡ milliseconds (first_part w ∷ q ∷ qs)
    value = rw (e, some, score, v) refl

without_more : (n above : ℕ) (w : List ℕ) → part_more w ≡ [] → IsTrue (is_number (take_while is_digit_or_score w)) → above < unit_rank (part_unit w) → AreOf (suc n) above w
without_more n above w e f g = (
  first_part w ∷ [],
  sym (word_parts w) ∙ ap (λ xs. take_while is_digit_or_score w ++ part_unit w ++ xs) e ∙ append-nil (take_while is_digit_or_score w ++ part_unit w),
  (f, g, tt),
  rw e refl,
)

more_spelled : (n above : ℕ) (w m : List ℕ) → part_more w ≡ m → IsTrue (is_number (take_while is_digit_or_score w)) → above < unit_rank (part_unit w)
    → (length m == 0 || is_parts n (unit_rank (part_unit w)) (without_score m)) ≡ true
    → ((r : List ℕ) → is_parts n (unit_rank (part_unit w)) r ≡ true → AreOf n (unit_rank (part_unit w)) r) → AreOf (suc n) above w
more_spelled n above w [] e f g t ih = without_more n above w e f g
more_spelled n above w (c ∷ m) e f g t ih = by_score (c == 95) refl
  where
    u : is_parts n (unit_rank (part_unit w)) (without_score (c ∷ m)) ≡ true
    u = none_or (length (c ∷ m) == 0) (is_parts n (unit_rank (part_unit w)) (without_score (c ∷ m))) (not_empty c m) t

    by_score : (b : Bool) → (c == 95) ≡ b → AreOf (suc n) above w
    by_score true s =
        let r : without_score (c ∷ m) ≡ m = rw s refl in
        with_more n above w (c ∷ m) m e (not_empty c m) (inr (ap (λ (k : ℕ). k ∷ m) (eqb-true c 95 s))) r f g (ih m (subst (λ (xs : List ℕ). is_parts n (unit_rank (part_unit w)) xs ≡ true) r u))
    by_score false s =
        let r : without_score (c ∷ m) ≡ c ∷ m = rw s refl in
        with_more n above w (c ∷ m) (c ∷ m) e (not_empty c m) (inl refl) r f g (ih (c ∷ m) (subst (λ (xs : List ℕ). is_parts n (unit_rank (part_unit w)) xs ≡ true) r u))

-- what the code takes for parts is spelled by some
pub parts_spelled : (n above : ℕ) (w : List ℕ) → is_parts n above w ≡ true → AreOf n above w
unfolding is_part
parts_spelled zero above w h = absurd (both_ways false refl h)
parts_spelled (suc n) above w h =
    let a = and_parts (is_part above w) (length (part_more w) == 0 || is_parts n (unit_rank (part_unit w)) (without_score (part_more w))) h in
    let b = and_parts (is_number (take_while is_digit_or_score w)) (nat_lt above (unit_rank (part_unit w))) a.0 in
    more_spelled n above w (part_more w) refl b.0 (ltb-true above (unit_rank (part_unit w)) b.1) a.1 (λ r t. parts_spelled n (unit_rank (part_unit w)) r t)
