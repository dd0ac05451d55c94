-- Names of programs are words.
use Rattle.std.proofs.Common.{◌≡◌, ℕ, suc, ◌+◌, ◌<◌, Bool, true, false, not, cond, ◌&&◌, ◌||◌, ◌==◌, List, [], ◌∷◌, All, IsTrue, Some, None, get_or, length, drop, take, nat_lt, refl, sym, subst, take-append-drop, drop-cons, add-one, arith}
use Rattle.std.specs.List.{position_or_len}
use Rattle.std.proofs.lemmas.Bool.Decides.{nat_tests}
use Rattle.std.proofs.lemmas.Bool.{eqb-true, ltb-true}
use Rattle.std.proofs.lemmas.List.Elements.{All-append, All-cons, All-nil}
use Rattle.std.proofs.lemmas.List.Sums.{passes_at_first}
use Rattle.words.specs.Chars.{is_digit, is_identifier, is_letter_or_digit, is_name, is_name_with, is_plain_name, is_reserved, is_rest}
use Rattle.traces.specs.Laws.{IsPlainWord}

both : (a b : Bool) → a && b ≡ true → (a ≡ true) × (b ≡ true)
both true b e = (refl, e)
both false b e = absurd (let f : false ≡ true = e in cc)

letter_above : (c : ℕ) → is_letter_or_digit c ≡ true → 45 < c
letter_above c e = grind (arith, nat_tests)

first_above : (c e : ℕ) → is_letter_or_digit c || (c == 95 && not (e == 95)) ≡ true → 45 < c
first_above c e is = grind (arith, nat_tests)

rest_above : (w : List ℕ) → is_rest w ≡ true → All (λ c. 45 < c) w
rest_above [] is = All-nil (λ c. 45 < c)
rest_above (c ∷ []) is = All-cons (λ c. 45 < c) c [] (letter_above c is) (All-nil (λ c. 45 < c))
rest_above (c ∷ e ∷ w) is =
    let split = both (is_letter_or_digit c || (c == 95 && not (e == 95))) (is_rest (e ∷ w)) is in
    All-cons (λ c. 45 < c) c (e ∷ w) (first_above c e split.0) (rest_above (e ∷ w) split.1)

-- characters above the sign `-`, one or more
abbrev IsAbove : List ℕ → Type 0
IsAbove w = (0 < length w) × All (λ c. 45 < c) w

identifier_above : (w : List ℕ) → is_plain_name w ≡ true → IsAbove w
unfolding is_plain_name is_identifier
identifier_above [] is = absurd (let f : false ≡ true = is in cc)
identifier_above (c ∷ w) is =
    let identifier = (both (is_identifier (c ∷ w)) (not (is_reserved (c ∷ w))) is).0 in
    let rest = (both (not (length (c ∷ w) == 0) && not (is_digit c)) (is_rest (c ∷ w)) identifier).1 in
    (omega arith, rest_above (c ∷ w) rest)

name_above : (w : List ℕ) → is_name w ≡ true → IsAbove w
unfolding is_name
name_above w is = by (nat_lt at (length w)) refl is
  where
    at : ℕ
    at = position_or_len (λ c. c == 46) w

    joined : at < length w → is_name_with w (Some at) ≡ true → IsAbove w
    joined within is =
        let names = both (is_plain_name (take at w)) (is_plain_name (drop (at + 1) w)) is in
        let front = identifier_above (take at w) names.0 in
        let back = identifier_above (drop (at + 1) w) names.1 in
        let dot : get_or w at 0 ≡ 46 = eqb-true (get_or w at 0) 46 (passes_at_first (λ c. c == 46) w 0 within) in
        let behind : All (λ c. 45 < c) (get_or w at 0 ∷ drop (suc at) w) =
        All-cons (λ c. 45 < c) (get_or w at 0) (drop (suc at) w) (omega (arith, dot)) (subst (λ n. All (λ c. 45 < c) (drop n w)) (add-one at) back.1) in (
          omega (arith, within),
          subst (λ l. All (λ c. 45 < c) l) (take-append-drop at w)
              (All-append (λ c. 45 < c) (take at w) (drop at w) front.1 (subst (λ l. All (λ c. 45 < c) l) (sym (drop-cons w at 0 within)) behind)),
        )

    by : (b : Bool) → nat_lt at (length w) ≡ b → is_name_with w (cond b (Some at) None) ≡ true → IsAbove w
    by true within is = joined (ltb-true at (length w) within) is
    by false past is = identifier_above w is

pub name_is_word : (w : List ℕ) → IsTrue (is_name w) → IsPlainWord w
name_is_word w named =
    let above = name_above w named in record {
      some = above.0;
      plain = λ e. let first = above.1 0 0 above.0 in omega (arith, e, first);
      one = λ k d lt. let low = above.1 k d lt in omega (arith, low);
    }
