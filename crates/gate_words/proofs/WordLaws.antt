-- Words that grow bit by bit.
use Rattle.std.proofs.Common.{◌≡◌, ℕ, ◌+◌, ◌*◌, ◌/◌, ◌%◌, ◌^◌, ◌<◌, ◌≤◌, ◌&&◌, Bool, true, false, not, cond, eqb, leb, List, [], ◌∷◌, ◌++◌, length, map, refl, ap, sym, ◌∙◌, arith}
use Rattle.std.proofs.lemmas.List.{length-map, map-append}
use Rattle.gates.specs.declared.signal.Signal.{Signal}
use Rattle.gates.specs.Signals.{signal_value}
use Rattle.gate_words.specs.Words.{number_of, word_value}
use Rattle.gate_words.specs.Steps.Bits.{bit_at, digit, low_value, weight}
use Rattle.gate_words.proofs.BitLaws.{eqb_more, leb_more, sum_weighed, weighed_half}
use Rattle.gate_words.proofs.LowValues.{low_enough, low_lt, low_more, number_low, number_push, weight_is, weight_more}

pub word_push : (v : ℕ → Bool) (word : List Signal) (s : Signal) (n : ℕ) → length word ≡ n
    → word_value v (word ++ s ∷ []) ≡ word_value v word + cond (signal_value v s) (weight n) 0
word_push v word s n long =
    ap number_of (map-append (signal_value v) word (s ∷ [])) ∙ number_push (map (signal_value v) word) (signal_value v s)
    ∙ ap (λ k. word_value v word + cond (signal_value v s) (weight k) 0) (length-map word (signal_value v) ∙ long)

-- a word by so many of its bits
pub word_low : (v : ℕ → Bool) (word : List Signal) (n : ℕ) → length word ≤ n → word_value v word ≡ low_value (bit_at v word) n
word_low v word n le =
    let long = length-map word (signal_value v) in
    number_low (map (signal_value v) word) n (omega (arith, long, le))

-- a choice by a bit more
chosen_more : (on : Bool) (a b : ℕ → Bool) (n w : ℕ) (s : Bool) → w ≡ cond on (low_value a n) (low_value b n) → s ≡ cond on (a n) (b n)
    → w + cond s (weight n) 0 ≡ cond on (low_value a (n + 1)) (low_value b (n + 1))
chosen_more true a b n w s e f = ap (λ k. k + cond s (weight n) 0) e ∙ ap (λ t. low_value a n + cond t (weight n) 0) f ∙ sym (low_more a n)
chosen_more false a b n w s e f = ap (λ k. k + cond s (weight n) 0) e ∙ ap (λ t. low_value b n + cond t (weight n) 0) f ∙ sym (low_more b n)

pub choice_more : (v : ℕ → Bool) (word first second : List Signal) (condition s : Signal) (n : ℕ) → length word ≡ n
    → word_value v word ≡ cond (signal_value v condition) (low_value (bit_at v first) n) (low_value (bit_at v second) n)
    → signal_value v s ≡ cond (signal_value v condition) (bit_at v first n) (bit_at v second n)
    → word_value v (word ++ s ∷ [])
    ≡ cond (signal_value v condition) (low_value (bit_at v first) (n + 1)) (low_value (bit_at v second) (n + 1))
choice_more v word first second condition s n long e f =
    word_push v word s n long
    ∙ chosen_more (signal_value v condition) (bit_at v first) (bit_at v second) n (word_value v word) (signal_value v s) e f

pub choice_all : (v : ℕ → Bool) (on : Bool) (first second : List Signal) (n : ℕ) → length first ≤ n → length second ≤ n
    → cond on (low_value (bit_at v first) n) (low_value (bit_at v second) n) ≡ cond on (word_value v first) (word_value v second)
choice_all v true first second n one two = sym (word_low v first n one)
choice_all v false first second n one two = sym (word_low v second n two)

-- what is compared, by a bit more
pub equal_more : (a b : ℕ → Bool) (n : ℕ) (so_far same new : Bool) → so_far ≡ eqb (low_value a n) (low_value b n)
    → same ≡ cond (a n) (b n) (not (b n)) → new ≡ (so_far && same) → new ≡ eqb (low_value a (n + 1)) (low_value b (n + 1))
equal_more a b n so_far same new e f g =
    g ∙ ap (λ t. t && same) e ∙ ap (λ t. eqb (low_value a n) (low_value b n) && t) f
    ∙ eqb_more (a n) (b n) (low_value a n) (low_value b n) (weight n) (low_lt a n) (low_lt b n)
    ∙ ap (λ k. eqb k (low_value b n + cond (b n) (weight n) 0)) (sym (low_more a n))
    ∙ ap (λ k. eqb (low_value a (n + 1)) k) (sym (low_more b n))

pub at_most_more : (a b : ℕ → Bool) (n : ℕ) (so_far new : Bool) → so_far ≡ leb (low_value a n) (low_value b n)
    → new ≡ cond (cond (a n) (b n) (not (b n))) so_far (b n) → new ≡ leb (low_value a (n + 1)) (low_value b (n + 1))
at_most_more a b n so_far new e g =
    g ∙ ap (λ t. cond (cond (a n) (b n) (not (b n))) t (b n)) e
    ∙ leb_more (a n) (b n) (low_value a n) (low_value b n) (weight n) (low_lt a n) (low_lt b n)
    ∙ ap (λ k. leb k (low_value b n + cond (b n) (weight n) 0)) (sym (low_more a n))
    ∙ ap (λ k. leb (low_value a (n + 1)) k) (sym (low_more b n))

-- what is added, by a bit more
add_step : (new word bit next old la lb a b : ℕ) → new ≡ word + bit → word + old ≡ la + lb → bit + next ≡ a + b + old
    → new + next ≡ la + a + (lb + b)
add_step new word bit next old la lb a b e f g = omega (arith, e, f, g)

pub sum_more : (v : ℕ → Bool) (word : List Signal) (s : Signal) (a b : ℕ → Bool) (n : ℕ) (carry next : Bool) → length word ≡ n
    → word_value v word + cond carry (weight n) 0 ≡ low_value a n + low_value b n
    → digit (signal_value v s) + 2 * digit next ≡ digit (a n) + digit (b n) + digit carry
    → word_value v (word ++ s ∷ []) + cond next (weight (n + 1)) 0 ≡ low_value a (n + 1) + low_value b (n + 1)
sum_more v word s a b n carry next long e f =
    let w = weight n in
    let new = word_value v (word ++ s ∷ []) in
    ap (λ k. new + cond next k 0) (weight_more n)
    ∙ add_step new (word_value v word) (cond (signal_value v s) w 0) (cond next (w + w) 0) (cond carry w 0) (low_value a n) (low_value b n)
    (cond (a n) w 0) (cond (b n) w 0) (word_push v word s n long) e (sum_weighed (a n) (b n) carry (signal_value v s) next w f)
    ∙ ap (λ k. k + (low_value b n + cond (b n) w 0)) (sym (low_more a n)) ∙ ap (λ k. low_value a (n + 1) + k) (sym (low_more b n))

-- what is left of a number, by its lowest bit
rest_step : (new word bit heavy all number : ℕ) → new ≡ word + bit → word + all ≡ number → bit + heavy ≡ all → new + heavy ≡ number
rest_step new word bit heavy all number e f g = omega (arith, e, f, g)

pub rest_more : (v : ℕ → Bool) (word : List Signal) (s : Signal) (rest number : ℕ)
    → word_value v word + weight (length word) * rest ≡ number → signal_value v s ≡ eqb (rest % 2) 1
    → word_value v (word ++ s ∷ []) + weight (length word + 1) * (rest / 2) ≡ number
rest_more v word s rest number e f =
    let w = weight (length word) in
    let new = word_value v (word ++ s ∷ []) in
    ap (λ k. new + k * (rest / 2)) (weight_more (length word))
    ∙ rest_step new (word_value v word) (cond (signal_value v s) w 0) ((w + w) * (rest / 2)) (w * rest) number
    (word_push v word s (length word) refl) e (ap (λ t. cond t w 0 + (w + w) * (rest / 2)) f ∙ weighed_half w rest)

-- so many bits are enough for a number that fits
pub enough : (v : ℕ → Bool) (word : List Signal) (n : ℕ) → word_value v word < 2 ^ n → low_value (bit_at v word) n ≡ word_value v word
enough v word n fits =
    let all = word_low v word (length word + n) (omega arith) in
    let heavy = weight_is n in
    sym (all ∙ low_enough (bit_at v word) n (length word) (omega (arith, fits, all, heavy)))

-- what the bits of the longer word say, all of them
pub equal_all : (v : ℕ → Bool) (left right : List Signal) (n : ℕ) → length left ≤ n → length right ≤ n
    → eqb (low_value (bit_at v left) n) (low_value (bit_at v right) n) ≡ eqb (word_value v left) (word_value v right)
equal_all v left right n one two =
    ap (λ k. eqb k (low_value (bit_at v right) n)) (sym (word_low v left n one)) ∙ ap (λ k. eqb (word_value v left) k) (sym (word_low v right n two))

pub at_most_all : (v : ℕ → Bool) (left right : List Signal) (n : ℕ) → length left ≤ n → length right ≤ n
    → leb (low_value (bit_at v left) n) (low_value (bit_at v right) n) ≡ leb (word_value v left) (word_value v right)
at_most_all v left right n one two =
    ap (λ k. leb k (low_value (bit_at v right) n)) (sym (word_low v left n one)) ∙ ap (λ k. leb (word_value v left) k) (sym (word_low v right n two))

pub sum_all : (v : ℕ → Bool) (word left right : List Signal) (carry : Signal) (n : ℕ) → length word ≡ n → length left ≤ n → length right ≤ n
    → word_value v word + cond (signal_value v carry) (weight n) 0 ≡ low_value (bit_at v left) n + low_value (bit_at v right) n
    → word_value v (word ++ carry ∷ []) ≡ word_value v left + word_value v right
sum_all v word left right carry n long one two e =
    word_push v word carry n long ∙ e ∙ ap (λ k. k + low_value (bit_at v right) n) (sym (word_low v left n one))
    ∙ ap (λ k. word_value v left + k) (sym (word_low v right n two))

pub resized_more : (v : ℕ → Bool) (new : List Signal) (s : Signal) (a : ℕ → Bool) (n : ℕ) → length new ≡ n
    → word_value v new ≡ low_value a n → signal_value v s ≡ a n → word_value v (new ++ s ∷ []) ≡ low_value a (n + 1)
resized_more v new s a n long e f =
    word_push v new s n long ∙ ap (λ k. k + cond (signal_value v s) (weight n) 0) e ∙ ap (λ b. low_value a n + cond b (weight n) 0) f
    ∙ sym (low_more a n)
