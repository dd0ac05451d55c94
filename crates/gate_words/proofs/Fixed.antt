-- Words of so many bits.
use Rattle.std.proofs.Common.{◌≡◌, ℕ, zero, suc, ◌+◌, ◌-◌, ◌*◌, ◌^◌, ◌<◌, ◌≤◌, ◌≢◌, inl, inr, min, Bool, true, false, not, cond, leb, ltb, List, [], ◌∷◌, ◌++◌, length, length-set, get_or, set, map, replicate, refl, ap, sym, ◌∙◌, ⊎_elim, arith, ℤ, pos, negsuc, ◌+ℤ◌}
use Rattle.std.proofs.lemmas.Bool.{lt-leb}
use Rattle.std.proofs.lemmas.Bool.Decides.{leb_tells}
use Rattle.std.proofs.lemmas.Int.{to_z_pos}
use Rattle.std.proofs.lemmas.List.{map-set, get_or-map, length-map, get_or-set_same, get_or-set_other}
use Rattle.std.specs.Int.{cast_signed, w16}
use Rattle.std.specs.Int.Signed.{le_z}
use borrow.Author.Differences.{up, down, same_out, sum_is_lem, true_is_le, false_is_le}
use mir.Val.{sel}
use Rattle.gates.specs.declared.signal.Signal.{Signal}
use Rattle.gates.specs.Signals.{signal_value}
use Rattle.gate_words.specs.Words.{word_value}
use Rattle.gate_words.specs.Values.{IsRaised}
use Rattle.gate_words.specs.Steps.Bits.{bit_at, low_value, weight, IsFlipped}
use Rattle.gate_words.proofs.LowValues.{low_lt, low_more, weight_is, weight_more}
use Rattle.gate_words.proofs.WordLaws.{word_low, word_push}

-- steps on numbers alone
lt_step : (low w all p : ℕ) → low < w → all ≡ low → w ≡ p → all < p
lt_step low w all p lt e f = omega (arith, lt, e, f)

-- so many bits make less than the next one counts
pub word_lt : (v : ℕ → Bool) (word : List Signal) (n : ℕ) → length word ≡ n → word_value v word < 2 ^ n
word_lt v word n long =
    let short : length word ≤ n = omega (arith, long) in
    lt_step (low_value (bit_at v word) n) (weight n) (word_value v word) (2 ^ n) (low_lt (bit_at v word) n) (word_low v word n short)
    (weight_is n)

-- a choice of numbers that are less than another is less than that
pub chosen_lt : (on : Bool) (a b n : ℕ) → a < n → b < n → cond on a b < n
chosen_lt true a b n one two = one
chosen_lt false a b n one two = two

pub same_lt : (x y n : ℕ) → x ≡ y → y < n → x < n
same_lt x y n e lt = omega (arith, e, lt)

pub min_lt : (a b n : ℕ) → b < n → min a b < n
min_lt a b n lt = omega (arith, lt)

-- numbers under the same function
pub cond_under : {X : Type 0} (f : ℕ → X) (on : Bool) (a b : ℕ) → f (cond on a b) ≡ cond on (f a) (f b)
cond_under f true a b = refl
cond_under f false a b = refl

-- the first bits decide what they make
low_same : (a b : ℕ → Bool) (n : ℕ) → ((k : ℕ) → k < n → a k ≡ b k) → low_value a n ≡ low_value b n
low_same a b zero same = refl
low_same a b (suc n) same =
    ap (λ k. k + cond (a n) (weight n) 0) (low_same a b n (λ k lt. same k (let less : k < suc n = omega (arith, lt) in less)))
    ∙ ap (λ t. low_value b n + cond t (weight n) 0) (same n (let less : n < suc n = omega arith in less))

-- the bits of a word with another signal at a place
bit_same : (v : ℕ → Bool) (word : List Signal) (n : ℕ) (s : Signal) → n < length word → bit_at v (set word n s) n ≡ signal_value v s
bit_same v word n s lt =
    let long = length-map word (signal_value v) in
    ap (λ bits. get_or bits n false) (map-set (signal_value v) word n s)
    ∙ get_or-set_same (map (signal_value v) word) n (signal_value v s) false (omega (arith, lt, long))

bit_other : (v : ℕ → Bool) (word : List Signal) (n k : ℕ) (s : Signal) → k ≢ n → bit_at v (set word n s) k ≡ bit_at v word k
bit_other v word n k s ne =
    ap (λ bits. get_or bits k false) (map-set (signal_value v) word n s)
    ∙ get_or-set_other (map (signal_value v) word) n k (signal_value v s) false ne

-- a word by its highest bit
by_highest : (v : ℕ → Bool) (word : List Signal) (n : ℕ) → length word ≡ n + 1
    → word_value v word ≡ low_value (bit_at v word) n + cond (bit_at v word n) (weight n) 0
by_highest v word n long = word_low v word (n + 1) (omega (arith, long)) ∙ low_more (bit_at v word) n

flipped_by : (t : Bool) (low w p a b : ℕ) → low < w → w ≡ p → a ≡ low + cond t w 0 → b ≡ low + cond (not t) w 0 → IsFlipped p a b
flipped_by true low w p a b lt h e f =
    let one : a ≡ low + w = e in
    let two : b ≡ low + 0 = f in
    let le : p ≤ a = omega (arith, lt, h, one) in
    let is : b + p ≡ a = omega (arith, h, one, two) in inr (le, is)
flipped_by false low w p a b lt h e f =
    let one : a ≡ low + 0 = e in
    let two : b ≡ low + w = f in
    let less : a < p = omega (arith, lt, h, one) in
    let is : b ≡ a + p = omega (arith, h, one, two) in inl (less, is)

pub word_flipped : (v : ℕ → Bool) (word : List Signal) (n : ℕ) (s d : Signal) → length word ≡ n + 1
    → signal_value v s ≡ not (signal_value v (get_or word n d)) → IsFlipped (2 ^ n) (word_value v word) (word_value v (set word n s))
word_flipped v word n s d long is =
    let bit = bit_at v word in
    let lt : n < length word = omega (arith, long) in
    let there : bit n ≡ signal_value v (get_or word n d) = get_or-map (signal_value v) word n d false lt in
    let here : bit_at v (set word n s) n ≡ not (bit n) = bit_same v word n s lt ∙ is ∙ ap not (sym there) in
    let low : low_value (bit_at v (set word n s)) n ≡ low_value bit n =
    low_same (bit_at v (set word n s)) bit n (λ k less. bit_other v word n k s (let ne : k ≢ n = omega (arith, less) in ne)) in
    flipped_by (bit n) (low_value bit n) (weight n) (2 ^ n) (word_value v word) (word_value v (set word n s)) (low_lt bit n) (weight_is n)
    (by_highest v word n long)
    (by_highest v (set word n s) n (length-set word n s ∙ long)
    ∙ ap (λ k. k + cond (bit_at v (set word n s) n) (weight n) 0) low ∙ ap (λ t. low_value bit n + cond t (weight n) 0) here)

-- the other way round
pub flipped_back : (w a b : ℕ) → a < w + w → IsFlipped w a b → IsFlipped w b a
flipped_back w a b lt (inl h) =
    let le : w ≤ b = omega (arith, h) in
    let is : a + w ≡ b = omega (arith, h) in inr (le, is)
flipped_back w a b lt (inr h) =
    let less : b < w = omega (arith, lt, h) in
    let is : a ≡ b + w = omega (arith, h) in inl (less, is)

-- an INT by its bits, and the number by which it is more than the least one
signed_high : (a : ℕ) → 32768 ≤ a → cast_signed w16 a ≡ negsuc (65536 - suc a)
signed_high a le =
    let more : 32768 < suc a = omega (arith, le) in
    let off : ltb a 32768 ≡ false = lt-leb (suc a) 32768 more in ap (λ t. sel t (pos a) (negsuc (65536 - suc a))) off

pub raised_in : (z : ℤ) (n : ℕ) → n + down z ≡ up z + 32768 → IsRaised z n
raised_in z n e =
    let sum = sum_is_lem z (pos 32768) in
    let same : n + down (z +ℤ pos 32768) ≡ up (z +ℤ pos 32768) + 0 = omega (arith, e, sum) in same_by (z +ℤ pos 32768) n same
  where
    same_by : (y : ℤ) (m : ℕ) → m + down y ≡ up y + 0 → pos m ≡ y
    same_by (pos a) m f = ap pos (let g : m ≡ a = omega (arith, f) in g)
    same_by (negsuc a) m f = absurd (let no : m + suc a ≡ 0 + 0 = f in omega (arith, no))

pub raised_out : (z : ℤ) (n : ℕ) → IsRaised z n → n + down z ≡ up z + 32768
raised_out z n is =
    let same = same_out (pos n) (z +ℤ pos 32768) is in
    let sum = sum_is_lem z (pos 32768) in omega (arith, same, sum)

pub signed_flipped : (a b : ℕ) → a < 65536 → IsFlipped 32768 a b → IsRaised (cast_signed w16 a) b
signed_flipped a b lt (inl h) =
    let low : a < 32768 = h.0 in ap pos h.1 ∙ sym (ap (λ z. z +ℤ pos 32768) (to_z_pos w16 a low))
signed_flipped a b lt (inr h) =
    let high : cast_signed w16 a ≡ negsuc (65536 - suc a) = signed_high a h.0 in
    let sum : b + suc (65536 - suc a) ≡ 0 + 32768 = omega (arith, lt, h) in
    let is : IsRaised (negsuc (65536 - suc a)) b = raised_in (negsuc (65536 - suc a)) b sum in is ∙ sym (ap (λ z. z +ℤ pos 32768) high)

-- INTs are compared as these numbers are
pub raised_at_most : (y z : ℤ) (m n : ℕ) → IsRaised y m → IsRaised z n → leb m n ≡ le_z y z
raised_at_most y z m n one two =
    let first = raised_out y m one in
    let second = raised_out z n two in
    ⊎_elim (λ h. h.0 ∙ true_is_le y z (let le : up y + down z ≤ up z + down y = omega (arith, first, second, h.1) in le))
    (λ h. h.0 ∙ false_is_le y z (let lt : up z + down y < up y + down z = omega (arith, first, second, h.1) in lt)) (leb_tells m n)

-- all bits of one signal
pub all_off : (v : ℕ → Bool) (s : Signal) (n : ℕ) → signal_value v s ≡ false → word_value v (replicate n s) ≡ 0
all_off v s zero off = refl
all_off v s (suc n) off = ap (λ t. cond t 1 0 + 2 * word_value v (replicate n s)) off ∙ ap (λ k. 0 + 2 * k) (all_off v s n off)

-- there is a number of so many bits
pub some_number : (n : ℕ) → 0 < 2 ^ n
some_number n =
    let lt = low_lt (λ _. false) n in
    let heavy = weight_is n in omega (arith, lt, heavy)

pub greatest_of : (word none all : ℕ) → word + none + 1 ≡ all → none ≡ 0 → word + 1 ≡ all
greatest_of word none all e f = omega (arith, e, f)

-- one more bit of what is missing of the greatest number
missing_step : (t : Bool) (word low w big : ℕ) → word + low + 1 ≡ w → big ≡ w + w → word + cond (not t) w 0 + (low + cond t w 0) + 1 ≡ big
missing_step true word low w big e f = let is : word + 0 + (low + w) + 1 ≡ big = omega (arith, e, f) in is
missing_step false word low w big e f = let is : word + w + (low + 0) + 1 ≡ big = omega (arith, e, f) in is

pub missing_more : (v : ℕ → Bool) (new word : List Signal) (n : ℕ) (s d : Signal) → length new ≡ n → n < length word
    → word_value v new + low_value (bit_at v word) n + 1 ≡ weight n → signal_value v s ≡ not (signal_value v (get_or word n d))
    → word_value v (new ++ s ∷ []) + low_value (bit_at v word) (n + 1) + 1 ≡ weight (n + 1)
missing_more v new word n s d long lt e is =
    let bit = bit_at v word in
    let there : bit n ≡ signal_value v (get_or word n d) = get_or-map (signal_value v) word n d false lt in
    ap (λ k. k + low_value bit (n + 1) + 1)
    (word_push v new s n long ∙ ap (λ t. word_value v new + cond t (weight n) 0) (is ∙ ap not (sym there)))
    ∙ ap (λ k. word_value v new + cond (not (bit n)) (weight n) 0 + k + 1) (low_more bit n)
    ∙ missing_step (bit n) (word_value v new) (low_value bit n) (weight n) (weight (n + 1)) e (weight_more n)

pub missing_all : (v : ℕ → Bool) (new word : List Signal) (n : ℕ) → n ≡ length word
    → word_value v new + low_value (bit_at v word) n + 1 ≡ weight n → word_value v new + word_value v word + 1 ≡ 2 ^ length word
missing_all v new word n end e =
    let le : length word ≤ n = omega (arith, end) in
    ap (λ k. word_value v new + k + 1) (word_low v word n le) ∙ e ∙ weight_is n ∙ ap (λ k. 2 ^ k) end

-- a difference by what is missing of the greatest number
pub difference_of : (left right missing most more kept new all : ℕ) → missing + left + 1 ≡ all → most + 1 ≡ all
    → more ≡ min (missing + right) most → kept ≡ more → new + kept + 1 ≡ all → new ≡ left - right
difference_of left right missing most more kept new all a b c d e = omega (arith, a, b, c, d, e)
