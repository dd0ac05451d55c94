-- A word that parts spell is read as these parts.
use Rattle.std.proofs.Common.{ℕ, zero, suc, ◌+◌, ◌*◌, ◌<◌, ◌≤◌, ◌≡◌, ◌==◌, if◌then◌else◌, ◌||◌, ◌&&◌, List, [], ◌∷◌, ◌++◌, length, drop, take_while, map, refl, sym, ap, ◌∙◌, subst, arith, rules, tests, Bool, true, false, IsTrue, inl, inr, nat_lt, codes, length-append}
use Rattle.std.specs.List.{list_all}
use Rattle.std.specs.Char.{to_ascii_lowercase}
use Rattle.std.specs.Option.{unwrap_or}
use Rattle.std.specs.Str.{str_to_ascii_lowercase}
use Rattle.std.proofs.Math.Seq.{drop-append_seam}
use Rattle.std.proofs.lemmas.Bool.{and_parts, and_from, both_ways, eqb-true}
use Rattle.std.proofs.lemmas.List.{append_assoc, append-nil}
use Rattle.std.proofs.lemmas.List.Sums.{take_while-cons}
use Rattle.std.proofs.lemmas.Slice.Eq.{bytes_eq-Decides}
use Rattle.words.specs.Chars.{between, is_digit, is_letter, is_digit_or_score, is_number, is_number_rest, first_that, unit_rank, without_score, part_rest, part_unit, part_more, is_part, is_parts, same_word}
use Rattle.words.specs.Numbers.{number_value, unit_length, parts_value}
use Rattle.words.specs.Durations.{Part, AreParts, IsSpelling, milliseconds}

-- the text doesn't begin with a character that passes
abbrev BeginsNot : (ℕ → Bool) → List ℕ → Type 0
BeginsNot p [] = Unit {0}
BeginsNot p (y ∷ ys) = p y ≡ false

front_of : (p : ℕ → Bool) (xs ys : List ℕ) → list_all p xs ≡ true → BeginsNot p ys → take_while p (xs ++ ys) ≡ xs
front_of p [] [] a b = refl
front_of p [] (y ∷ ys) a b = take_while-cons p y ys ∙ rw b refl
front_of p (x ∷ xs) ys a b =
    let w = and_parts (p x) (list_all p xs) a in
    take_while-cons p x (xs ++ ys) ∙ rw (w.0, front_of p xs ys w.1 b) refl

digit_or_score : (c : ℕ) → is_digit c ≡ true → is_digit_or_score c ≡ true
digit_or_score c h = rw h refl

rest_digits : (w : List ℕ) → is_number_rest w ≡ true → list_all is_digit_or_score w ≡ true
rest_digits [] h = refl
rest_digits (c ∷ []) h = and_from (is_digit_or_score c) true (digit_or_score c h) refl
rest_digits (c ∷ e ∷ more) h =
    let w = and_parts (is_digit c || (c == 95 && is_digit e)) (is_number_rest (e ∷ more)) h in
    and_from (is_digit_or_score c) (list_all is_digit_or_score (e ∷ more)) (search (rules, tests)) (rest_digits (e ∷ more) w.1)

number_digits : (w : List ℕ) → is_number w ≡ true → list_all is_digit_or_score w ≡ true
number_digits [] h = refl
number_digits (c ∷ []) h = and_from (is_digit_or_score c) true (digit_or_score c h) refl
number_digits (c ∷ e ∷ more) h =
    let w = and_parts (is_digit c && (is_digit e || e == 95)) (is_number_rest (e ∷ more)) h in
    let v = and_parts (is_digit c) (is_digit e || e == 95) w.0 in
    and_from (is_digit_or_score c) (list_all is_digit_or_score (e ∷ more)) (digit_or_score c v.0) (rest_digits (e ∷ more) w.1)

digit_no_letter : (c : ℕ) → is_digit c ≡ true → is_letter c ≡ false
digit_no_letter c h = grind (arith, tests)

digit_no_score : (c : ℕ) → is_digit c ≡ true → (c == 95) ≡ false
digit_no_score c h = grind (arith, tests)

letter_no_digit : (c : ℕ) → is_letter c ≡ true → is_digit_or_score c ≡ false
letter_no_digit c h = grind (arith, tests)

-- a number begins with a digit
abbrev IsDigitFirst : List ℕ → Type 0
IsDigitFirst [] = ⊥
IsDigitFirst (c ∷ more) = is_digit c ≡ true

number_first : (w : List ℕ) → is_number w ≡ true → IsDigitFirst w
number_first [] h = both_ways false refl h
number_first (c ∷ []) h = h
number_first (c ∷ e ∷ more) h = (and_parts (is_digit c) (is_digit e || e == 95) (and_parts (is_digit c && (is_digit e || e == 95)) (is_number_rest (e ∷ more)) h).0).0

first_stays : (xs ys : List ℕ) → IsDigitFirst xs → IsDigitFirst (xs ++ ys)
first_stays [] ys h = absurd h
first_stays (x ∷ xs) ys h = h

digit_begins : (w : List ℕ) → IsDigitFirst w → BeginsNot is_letter w
digit_begins [] h = absurd h
digit_begins (c ∷ w) h = digit_no_letter c h

-- a unit: letters, at least one
abbrev IsLetters : List ℕ → Type 0
IsLetters u = (list_all is_letter u ≡ true) × (0 < length u)

letter_of : (c x : ℕ) → to_ascii_lowercase c ≡ x → between 97 x 122 ≡ true → is_letter c ≡ true
letter_of c x e h = grind (arith, tests)

letters_of : (u s : List ℕ) → map to_ascii_lowercase u ≡ s → list_all (λ x. between 97 x 122) s ≡ true → list_all is_letter u ≡ true
letters_of [] s e h = refl
letters_of (c ∷ u) s e h =
    let g : list_all (λ x. between 97 x 122) (to_ascii_lowercase c ∷ map to_ascii_lowercase u) ≡ true = subst (λ xs. list_all (λ x. between 97 x 122) xs ≡ true) (sym e) h in
    let w = and_parts (between 97 (to_ascii_lowercase c) 122) (list_all (λ x. between 97 x 122) (map to_ascii_lowercase u)) g in
    and_from (is_letter c) (list_all is_letter u) (letter_of c (to_ascii_lowercase c) refl w.0) (letters_of u (map to_ascii_lowercase u) refl w.1)

some_letters : (u s : List ℕ) → same_word u s ≡ true → list_all (λ x. between 97 x 122) (str_to_ascii_lowercase s) ≡ true → 0 < length (str_to_ascii_lowercase s) → IsLetters u
some_letters u s t h l =
    let e = (bytes_eq-Decides (str_to_ascii_lowercase u) (str_to_ascii_lowercase s)).0 t in
    (letters_of u (str_to_ascii_lowercase s) e h, long u e)
  where
    long : (v : List ℕ) → map to_ascii_lowercase v ≡ str_to_ascii_lowercase s → 0 < length v
    long [] e = absurd (omega (arith, ap (λ (xs : List ℕ). length xs) e, l))
    long (x ∷ v) e = omega arith

unit_letters : (u : List ℕ) → 0 < unit_rank u → IsLetters u
unit_letters u h = go (same_word u (codes "d")) (same_word u (codes "h")) (same_word u (codes "m")) (same_word u (codes "s")) (same_word u (codes "ms")) refl refl refl refl refl h
  where
    go : (a b c d e : Bool) → same_word u (codes "d") ≡ a → same_word u (codes "h") ≡ b → same_word u (codes "m") ≡ c → same_word u (codes "s") ≡ d → same_word u (codes "ms") ≡ e
        → 0 < unwrap_or (first_that ((a, 1) ∷ (b, 2) ∷ (c, 3) ∷ (d, 4) ∷ (e, 5) ∷ [])) 0 → IsLetters u
    go true b c d e p q r s t k = some_letters u (codes "d") p refl (omega arith)
    go false true c d e p q r s t k = some_letters u (codes "h") q refl (omega arith)
    go false false true d e p q r s t k = some_letters u (codes "m") r refl (omega arith)
    go false false false true e p q r s t k = some_letters u (codes "s") s refl (omega arith)
    go false false false false true p q r s t k = some_letters u (codes "ms") t refl (omega arith)
    go false false false false false p q r s t k = absurd (omega (arith, k))

letters_begin : (u t : List ℕ) → IsLetters u → BeginsNot is_digit_or_score (u ++ t)
letters_begin [] t h = absurd (omega (arith, h.1))
letters_begin (c ∷ u) t h = letter_no_digit c (and_parts (is_letter c) (list_all is_letter u) h.0).0

-- how a word is read that begins with a number and a unit
record IsReadAs (w n u t : List ℕ) : Type 0 where
  number : take_while is_digit_or_score w ≡ n
  unit : part_unit w ≡ u
  more : part_more w ≡ t

read_as : (n u t : List ℕ) → is_number n ≡ true → IsLetters u → BeginsNot is_letter t → IsReadAs (n ++ (u ++ t)) n u t
read_as n u t a b c =
    let number : take_while is_digit_or_score (n ++ (u ++ t)) ≡ n = front_of is_digit_or_score n (u ++ t) (number_digits n a) (letters_begin u t b) in
    let rest : part_rest (n ++ (u ++ t)) ≡ u ++ t = ap (λ (xs : List ℕ). drop (length xs) (n ++ (u ++ t))) number ∙ drop-append_seam n (u ++ t) in
    let unit : part_unit (n ++ (u ++ t)) ≡ u = ap (λ (xs : List ℕ). take_while is_letter xs) rest ∙ front_of is_letter u t b.0 c in
    record {
      number = number;
      unit = unit;
      more = ap (λ (xs : List ℕ). drop (length xs) (part_rest (n ++ (u ++ t)))) unit ∙ ap (λ (xs : List ℕ). drop (length u) xs) rest ∙ drop-append_seam u t;
    }

-- what is reckoned of a word
abbrev IsAll : ℕ → ℕ → List Part → List ℕ → Type 0
IsAll n above ps w = (is_parts n above w ≡ true) × (parts_value n w ≡ milliseconds ps)

spelled_first : (ps : List Part) (w : List ℕ) (above : ℕ) → IsSpelling ps w → AreParts above ps → IsDigitFirst w
spelled_first [] w above s h = absurd s
spelled_first (p ∷ []) w above s h = subst IsDigitFirst (sym s) (first_stays p.number p.unit (number_first p.number h.0))
spelled_first (p ∷ q ∷ ps) w above s h = elim s.2 [
  | inl e ↦ subst IsDigitFirst (sym (e ∙ append_assoc p.number p.unit s.0)) (first_stays p.number (p.unit ++ s.0) (number_first p.number h.0))
  | inr e ↦ subst IsDigitFirst (sym (e ∙ append_assoc p.number p.unit (95 ∷ s.0))) (first_stays p.number (p.unit ++ 95 ∷ s.0) (number_first p.number h.0))
]

lt_true : (a b : ℕ) → a < b → nat_lt a b ≡ true
lt_true a b h = grind arith

or_first : (a b : Bool) → a ≡ true → (a || b) ≡ true
or_first a b e = rw e refl

or_second : (a b : Bool) → b ≡ true → (a || b) ≡ true
or_second true b e = refl
or_second false b e = e

part_read : (above : ℕ) (p : Part) (w t : List ℕ) → IsReadAs w p.number p.unit t → IsTrue (is_number p.number) → above < unit_rank p.unit → is_part above w ≡ true
unfolding is_part
part_read above p w t r f g =
    and_from (is_number (take_while is_digit_or_score w)) (nat_lt above (unit_rank (part_unit w))) (subst (λ (xs : List ℕ). is_number xs ≡ true) (sym r.number) f)
    (subst (λ (xs : List ℕ). nat_lt above (unit_rank xs) ≡ true) (sym r.unit) (lt_true above (unit_rank p.unit) g))

-- how much a word is by its first number, its first unit and more
abbrev value_by : ℕ → List ℕ → List ℕ → List ℕ → ℕ
value_by n a u m = number_value a * unit_length (unit_rank u) + (if length m == 0 then 0 else parts_value n (without_score m))

value_read : (n : ℕ) (p : Part) (w t : List ℕ) → IsReadAs w p.number p.unit t → parts_value (suc n) w ≡ value_by n p.number p.unit t
value_read n p w t r =
    ap (λ (xs : List ℕ). value_by n xs (part_unit w) (part_more w)) r.number ∙ ap (λ (xs : List ℕ). value_by n p.number xs (part_more w)) r.unit ∙ ap (λ (xs : List ℕ). value_by n p.number p.unit xs) r.more

last_read : (n above : ℕ) (p : Part) (w : List ℕ) → IsReadAs w p.number p.unit [] → IsTrue (is_number p.number) → above < unit_rank p.unit → IsAll (suc n) above (p ∷ []) w
last_read n above p w r f g = (
  and_from (is_part above w) (length (part_more w) == 0 || is_parts n (unit_rank (part_unit w)) (without_score (part_more w))) (part_read above p w [] r f g)
      (or_first (length (part_more w) == 0) (is_parts n (unit_rank (part_unit w)) (without_score (part_more w))) (subst (λ (xs : List ℕ). (length xs == 0) ≡ true) (sym r.more) refl)),
  value_read n p w [] r,
)

more_read : (n above : ℕ) (p q : Part) (ps : List Part) (w t v : List ℕ) → IsReadAs w p.number p.unit t → (length t == 0) ≡ false → without_score t ≡ v → IsTrue (is_number p.number) → above < unit_rank p.unit
    → IsAll n (unit_rank p.unit) (q ∷ ps) v → IsAll (suc n) above (p ∷ q ∷ ps) w
more_read n above p q ps w t v r some score f g ih =
    let here : is_parts n (unit_rank (part_unit w)) v ≡ true = subst (λ (xs : List ℕ). is_parts n (unit_rank xs) v ≡ true) (sym r.unit) ih.0 in
    let there : is_parts n (unit_rank (part_unit w)) (without_score (part_more w)) ≡ true
    = subst (λ (xs : List ℕ). is_parts n (unit_rank (part_unit w)) xs ≡ true) (sym (ap without_score r.more ∙ score)) here in
    let rest : (if length t == 0 then 0 else parts_value n (without_score t)) ≡ milliseconds (q ∷ ps)
    = ap (λ (b : Bool). if b then 0 else parts_value n (without_score t)) some ∙ ap (λ (xs : List ℕ). parts_value n xs) score ∙ ih.1 in (
      and_from (is_part above w) (length (part_more w) == 0 || is_parts n (unit_rank (part_unit w)) (without_score (part_more w))) (part_read above p w t r f g)
          (or_second (length (part_more w) == 0) (is_parts n (unit_rank (part_unit w)) (without_score (part_more w))) there),
      value_read n p w t r ∙ ap (λ (k : ℕ). number_value p.number * unit_length (unit_rank p.unit) + k) rest,
    )

not_true : (b : Bool) → (b ≡ true → ⊥) → b ≡ false
not_true true h = absurd (h refl)
not_true false h = refl

digit_not_empty : (w : List ℕ) → IsDigitFirst w → ((length w == 0) ≡ false) × (without_score w ≡ w)
digit_not_empty [] h = absurd h
digit_not_empty (c ∷ w) h = (not_true (length (c ∷ w) == 0) (λ t. absurd (omega (arith, eqb-true (length (c ∷ w)) 0 t))), rw (digit_no_score c h) refl)

-- parts that spell a word are all that is read of it
pub spelled_parts : (ps : List Part) (n above : ℕ) (w : List ℕ) → length ps ≤ n → IsSpelling ps w → AreParts above ps → IsAll n above ps w
spelled_parts [] n above w h s a = absurd s
spelled_parts (p ∷ ps) zero above w h s a = absurd (omega (arith, h))
spelled_parts (p ∷ []) (suc n) above w h s a =
    let r = read_as p.number p.unit [] a.0 (unit_letters p.unit (omega (arith, a.1))) tt in
    last_read n above p w (subst (λ (xs : List ℕ). IsReadAs xs p.number p.unit []) (ap (λ (xs : List ℕ). p.number ++ xs) (append-nil p.unit) ∙ sym s) r) a.0 a.1
spelled_parts (p ∷ q ∷ ps) (suc n) above w h s a =
    let u = unit_letters p.unit (omega (arith, a.1)) in
    let ih = spelled_parts (q ∷ ps) n (unit_rank p.unit) s.0 (omega (arith, h)) s.1 a.2 in
    let d = spelled_first (q ∷ ps) s.0 (unit_rank p.unit) s.1 a.2 in
    let k = digit_not_empty s.0 d in
    elim s.2 [
      | inl e ↦
          let r = read_as p.number p.unit s.0 a.0 u (digit_begins s.0 d) in
          more_read n above p q ps w s.0 s.0 (subst (λ (xs : List ℕ). IsReadAs xs p.number p.unit s.0) (sym (e ∙ append_assoc p.number p.unit s.0)) r) k.0 k.1 a.0 a.1 ih
      | inr e ↦
          let r = read_as p.number p.unit (95 ∷ s.0) a.0 u refl in
          more_read n above p q ps w (95 ∷ s.0) s.0 (subst (λ (xs : List ℕ). IsReadAs xs p.number p.unit (95 ∷ s.0)) (sym (e ∙ append_assoc p.number p.unit (95 ∷ s.0))) r)
          (not_true (length (95 ∷ s.0) == 0) (λ t. absurd (omega (arith, eqb-true (length (95 ∷ s.0)) 0 t)))) refl a.0 a.1 ih
    ]

digit_first_long : (w : List ℕ) → IsDigitFirst w → 0 < length w
digit_first_long [] h = absurd h
digit_first_long (c ∷ w) h = omega arith

-- each part takes a character at least
pub spelled_long : (ps : List Part) (w : List ℕ) (above : ℕ) → IsSpelling ps w → AreParts above ps → length ps ≤ length w
spelled_long [] w above s a = absurd s
spelled_long (p ∷ []) w above s a = omega (arith, digit_first_long w (spelled_first (p ∷ []) w above s a))
spelled_long (p ∷ q ∷ ps) w above s a =
    let ih = spelled_long (q ∷ ps) s.0 (unit_rank p.unit) s.1 a.2 in
    let n = digit_first_long p.number (number_first p.number a.0) in
    elim s.2 [
      | inl e ↦ omega (arith, ih, n, ap (λ (xs : List ℕ). length xs) e, length-append (p.number ++ p.unit) s.0, length-append p.number p.unit)
      | inr e ↦ omega (arith, ih, n, ap (λ (xs : List ℕ). length xs) e, length-append (p.number ++ p.unit) (95 ∷ s.0), length-append p.number p.unit)
    ]
