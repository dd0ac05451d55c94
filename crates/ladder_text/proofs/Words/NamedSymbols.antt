-- Words that stand above symbols, one above each, are no stray words, and each symbol is named.
use Rattle.std.proofs.Common.{ℕ, zero, suc, ◌+◌, ◌-◌, ◌<◌, ◌≤◌, ◌≡◌, ◌≢◌, ◌==◌, ◌&&◌, ◌||◌, List, [], ◌∷◌, ◌++◌, length, Bool, true, false, not, cond, refl, sym, ap, ◌∙◌, arith, rules, tests, inl, inr}
use Rattle.std.specs.Prelude.{nat_lt, count_by}
use Rattle.std.specs.List.{list_any, list_all}
use Rattle.std.proofs.lemmas.Bool.{cases_lt, cases_eq, and_parts, and_from, and_left, and_right, le-ltb, both_ways, true_from_ne_false}
use Rattle.std.proofs.lemmas.List.{append-nil}
use Rattle.std.proofs.lemmas.List.Folds.{list_any_at, list_all_at}
use Rattle.std.proofs.lemmas.List.Sums.{sum_by-cons}
use Rattle.ladder_rows.specs.declared.span.Span.{Span}
use Rattle.words.specs.Chars.{is_name}
use Rattle.ladder_text.specs.Places.{Layout}
use Rattle.ladder_text.specs.Names.{overlap, words, symbols, tops, things, word_text}
use Rattle.ladder_text.specs.Faults.{stray_name, name_missing, has_earlier, is_second}
use Rattle.ladder_text.specs.Steps.Pairs.{span_at, ArePairs, ArePaired, StandAbove}

-- one more pair
pub pairs-more : (xs ys : List Span) (n from : ℕ) → ArePairs xs ys n
    → ((k : ℕ) → k < n → (span_at xs k).end ≤ from) → ((k : ℕ) → k < n → (span_at ys k).end ≤ from)
    → from ≤ (span_at xs n).first → from ≤ (span_at ys n).first → overlap (span_at xs n) (span_at ys n) ≡ true → ArePairs xs ys (n + 1)
pairs-more xs ys n from w a b f s o = record {
  over = λ k h. elim (cases_lt k n) [
    | inl l ↦ w.over k l
    | inr l ↦ let e : k ≡ n = omega arith in rw e o
  ];
  behind_first = λ j k l h. elim (cases_lt k n) [
    | inl m ↦ w.behind_first j k l m
    | inr m ↦ let e : k ≡ n = omega arith in rw e (omega (arith, a j (omega arith)))
  ];
  behind_second = λ j k l h. elim (cases_lt k n) [
    | inl m ↦ w.behind_second j k l m
    | inr m ↦ let e : k ≡ n = omega arith in rw e (omega (arith, b j (omega arith)))
  ];
}

apart_left : (x y : Span) → x.end ≤ y.first → overlap x y ≡ false
apart_left x y h = let e = le-ltb y.first x.end h in search (rules, tests)

pub apart_right : (x y : Span) → y.end ≤ x.first → overlap x y ≡ false
apart_right x y h = let e = le-ltb x.first y.end h in search (rules, tests)

overlap-sym : (x y : Span) → overlap x y ≡ true → overlap y x ≡ true
overlap-sym x y h =
    let p = and_parts (nat_lt x.first y.end) (nat_lt y.first x.end) h in
    and_from (nat_lt y.first x.end) (nat_lt x.first y.end) p.1 p.0

-- those with different numbers share no column
no_other : (xs ys : List Span) (n j k : ℕ) → ArePairs xs ys n → j < n → k < n → k ≢ j → overlap (span_at xs j) (span_at ys k) ≡ false
no_other xs ys n j k w a b d = elim (cases_lt j k) [
  | inl l ↦ apart_left (span_at xs j) (span_at ys k) (w.behind_first j k l b)
  | inr l ↦ apart_right (span_at xs j) (span_at ys k) (w.behind_second k j (omega arith) a)
]

any-none : (f : Span → Bool) (xs : List Span) → ((k : ℕ) → k < length xs → f (span_at xs k) ≡ false) → list_any f xs ≡ false
any-none f [] h = refl
any-none f (x ∷ xs) h =
    let e : f x ≡ false = h 0 (omega arith) in
    rw e (any-none f xs (λ k l. h (suc k) (omega arith)))

count-cons : (f : Span → Bool) (x : Span) (xs : List Span) → count_by f (x ∷ xs) ≡ cond (f x) 1 0 + count_by f xs
count-cons f x xs = sum_by-cons (λ (y : Span). cond (f y) 1 0) x xs

count-none : (f : Span → Bool) (xs : List Span) → ((k : ℕ) → k < length xs → f (span_at xs k) ≡ false) → count_by f xs ≡ 0
count-none f [] h = refl
count-none f (x ∷ xs) h =
    let e : ◌≡◌ {A = ℕ} (cond (f x) 1 0) 0 = rw (h 0 (omega arith)) refl in
    omega (arith, count-cons f x xs, e, count-none f xs (λ k l. h (suc k) (omega arith)))

count-one : (f : Span → Bool) (xs : List Span) (i : ℕ) → i < length xs → f (span_at xs i) ≡ true → ((k : ℕ) → k < length xs → k ≢ i → f (span_at xs k) ≡ false) → count_by f xs ≡ 1
count-one f [] i l t h = absurd (omega arith)
count-one f (x ∷ xs) zero l t h =
    let e : ◌≡◌ {A = ℕ} (cond (f x) 1 0) 1 = rw t refl in
    omega (arith, count-cons f x xs, e, count-none f xs (λ k m. h (suc k) (omega arith) (λ q. omega (arith, q))))
count-one f (x ∷ xs) (suc i) l t h =
    let e : ◌≡◌ {A = ℕ} (cond (f x) 1 0) 0 = rw (h 0 (omega arith) (λ q. omega (arith, q))) refl in
    omega (arith, count-cons f x xs, e, count-one f xs i (omega arith) t (λ k m d. h (suc k) (omega arith) (λ q. d (omega (arith, q)))))

-- no word before the k-th one overlaps what that one stands above
not_earlier : (xs ys : List Span) (k : ℕ) → ArePaired xs ys → k < length xs → has_earlier (span_at xs k) xs (span_at ys k) ≡ false
not_earlier xs ys k w l =
    any-none (λ v. overlap v (span_at ys k) && nat_lt v.first (span_at xs k).first) xs (λ j h. elim (cases_eq j k) [
      | inl e ↦ rw e (and_right _ _ (le-ltb (span_at xs k).first (span_at xs k).first (omega arith)))
      | inr d ↦ and_left _ _ (no_other xs ys (length xs) j k w.pairs h l (λ q. d (sym q)))
    ])

not_second : (xs ys : List Span) (k : ℕ) → ArePaired xs ys → k < length xs → is_second (span_at xs k) xs ys ≡ false
not_second xs ys k w l =
    let x = span_at xs k in
    any-none (λ s. overlap x s && has_earlier x xs s) ys (λ i h. elim (cases_eq i k) [
      | inl e ↦ rw e (and_right _ _ (not_earlier xs ys k w l))
      | inr d ↦ and_left _ _ (no_other xs ys (length xs) k i w.pairs l (omega (arith, w.as_many)) d)
    ])

one_thing : (xs ys : List Span) (k : ℕ) → ArePaired xs ys → k < length xs → count_by (overlap (span_at xs k)) ys ≡ 1
one_thing xs ys k w l =
    count-one (overlap (span_at xs k)) ys k (omega (arith, w.as_many)) (w.pairs.over k l)
    (λ i h d. no_other xs ys (length xs) k i w.pairs l (omega (arith, w.as_many)) d)

-- where no box begins, symbols are all that is named
symbols_alone : (p : Layout) (r : ℕ) → tops p r ≡ [] → things p r ≡ symbols p r
unfolding things
symbols_alone p r none = ap (λ (ts : List Span). symbols p r ++ ts) none ∙ append-nil (symbols p r)

stray_parts : (a b c d : Bool) → a ≡ false → b ≡ false → c ≡ false → d ≡ false → (a || b || c || d) ≡ false
stray_parts a b c d e f g h = rw (e, f, g, h) refl

not_stray : (p : Layout) (r k : ℕ) → ArePaired (words p r) (symbols p (r + 1)) → tops p (r + 1) ≡ [] → k < length (words p r)
    → is_name (word_text p r (span_at (words p r) k)) ≡ true → stray_name p r (span_at (words p r) k) ≡ false
unfolding stray_name
not_stray p r k w none l name =
    let xs = words p r in
    let ys = symbols p (r + 1) in
    let x = span_at xs k in
    let all : things p (r + 1) ≡ ys = symbols_alone p (r + 1) none in
    let one : count_by (overlap x) (things p (r + 1)) ≡ 1 = ap (count_by (overlap x)) all ∙ one_thing xs ys k w l in
    let second : is_second x xs (things p (r + 1)) ≡ false = ap (is_second x xs) all ∙ not_second xs ys k w l in
    let counted : not (count_by (overlap x) (things p (r + 1)) == 1) ≡ false = rw one refl in
    let named : not (is_name (word_text p r x)) ≡ false = rw name refl in
    let no_top : list_any (overlap x) (tops p (r + 1)) ≡ false = rw none refl in
    stray_parts _ _ _ _ counted second (and_right _ _ named) (and_left _ _ no_top)

-- where names stand above symbols, one above each, and no box begins below, no word is stray
pub paired_words : (p : Layout) (r : ℕ) → StandAbove p r → list_all (λ (w : Span). is_name (word_text p r w)) (words p r) ≡ true → list_any (stray_name p r) (words p r) ≡ false
paired_words p r above names =
    let is : Span → Bool = λ w. is_name (word_text p r w) in
    let xs = words p r in
    any-none (stray_name p r) xs (λ k l.
    not_stray p r k above.pairs above.alone l (true_from_ne_false (is (span_at xs k)) (λ q. both_ways (list_all is xs) (list_all_at is xs k (record { first = 0; end = 0 }) l q) names)))

-- and nothing below is unnamed
named_below : (p : Layout) (r : ℕ) → StandAbove p r → (k : ℕ) → k < length (symbols p (r + 1)) → not (list_any (overlap (span_at (symbols p (r + 1)) k)) (words p r)) ≡ false
named_below p r above k l =
    let xs = words p r in
    let ys = symbols p (r + 1) in
    let w = above.pairs in
    let m : k < length xs = omega (arith, w.as_many) in
    let named : list_any (overlap (span_at ys k)) xs ≡ true = list_any_at (overlap (span_at ys k)) xs k (record { first = 0; end = 0 }) m (overlap-sym (span_at xs k) (span_at ys k) (w.pairs.over k m)) in
    rw named refl

pub paired_things : (p : Layout) (r : ℕ) → 0 < r → StandAbove p (r - 1) → list_any (name_missing p r) (things p r) ≡ false
unfolding name_missing
paired_things p zero h above = absurd (omega arith)
paired_things p (suc r) h above =
    let q : suc r - 1 ≡ r = omega arith in
    let n : suc r ≡ r + 1 = omega arith in
    let s : StandAbove p r = rw q at above in
    let i : r + 1 - 1 ≡ r = omega arith in
    rw n (
    ap (list_any (name_missing p (r + 1))) (symbols_alone p (r + 1) s.alone)
    ∙ any-none (name_missing p (r + 1)) (symbols p (r + 1)) (λ k l. rw i (named_below p r s k l))
    )
