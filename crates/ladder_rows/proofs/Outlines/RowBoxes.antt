-- A test that only boxes of a row pass is found among these.
use Rattle.std.proofs.Common.{ℕ, zero, suc, ◌+◌, ◌-◌, ◌<◌, ◌≤◌, ◌≡◌, List, [], ◌∷◌, ◌++◌, length, take, map, get_or, refl, ap, sym, ◌∙◌, arith, rules, tests, Bool, true, false, ◌==◌, cond, if◌then◌else◌, Option, Some, None, ◌⊎◌, inl, inr}
use Rattle.std.specs.List.{list_any, slice_get, filter, filter_map}
use Rattle.std.proofs.lemmas.Bool.{and_parts, and_from, le-leb, cases_lt, eqb-true}
use Rattle.std.proofs.lemmas.List.Folds.{list_any-append, list_any_more, Any-from_list_any}
use Rattle.std.proofs.lemmas.List.Elements.{filter_more, filter_map-append}
use Rattle.std.proofs.lemmas.List.{map-append, append-nil}
use Rattle.std.proofs.lemmas.Option.{slice_get_cases}
use Rattle.std.proofs.Math.Seq.{take-length}
use Rattle.ladder_rows.specs.declared.boxes.outline.Outline.{Outline}
use Rattle.drawings.specs.declared.drawn_box.Side.{Side}
use Rattle.ladder_rows.specs.declared.boxes.box_test.BoxTest.{BoxTest}
use Rattle.ladder_rows.specs.declared.boxes.box_test.BoxTest.TheVariants.{Covers, Reaches, RightPin, BlindLeft, BlindRight}
use Rattle.ladder_rows.specs.declared.span.Span.{Span}
use Rattle.ladder_rows.specs.Boxes.{meets_row}
use Rattle.ladder_rows.specs.BoxTests.{top_span, takes_word, some_takes_word}
use Rattle.ladder_rows.specs.Steps.RowBoxes.{box_test, word_test, HavePinsByRow, IsInRows, AreInRows, holds, holds_at, numbers_below, numbers_on, AreNumbered, top_at, IsBare}
use Rattle.std.proofs.Math.Bool.{or-false}

false_if : (a b : Bool) → (a ≡ true → b ≡ true) → b ≡ false → a ≡ false
false_if false b h f = refl
false_if true b h f = sym (h refl) ∙ f

-- a box has the row r
pub meets : (r : ℕ) (b : Outline) → b.top ≤ r → r ≤ b.bottom → meets_row r b ≡ true
meets r b h l = and_from _ _ (le-leb _ _ h) (le-leb _ _ l)

-- one more number
any-step : (bs : List Outline) (p q : Outline → Bool) (n : ℕ) (x : Outline) (b : Bool) → slice_get bs n ≡ Some x → q x ≡ b → (p x ≡ true → q x ≡ true)
    → list_any (holds_at bs p) (if b then n ∷ [] else []) ≡ p x
any-step bs p q n x true e f h = rw e (or-false (p x))
any-step bs p q n x false e f h = sym (false_if (p x) (q x) h f)

pub any-below : (bs : List Outline) (p q : Outline → Bool) → ((i : ℕ) (b : Outline) → slice_get bs i ≡ Some b → p b ≡ true → q b ≡ true) → (n : ℕ) → n ≤ length bs
    → list_any (holds_at bs p) (numbers_below (holds_at bs q) n) ≡ list_any p (take n bs)
any-below bs p q h zero l = refl
any-below bs p q h (suc n) l = elim ((slice_get_cases bs n).1) [
  | inl w ↦
      let x = w.0 in
      let i = any-below bs p q h n (omega arith) in
      let s = any-step bs p q n x (holds_at bs q n) w.2 (sym (ap (holds q) w.2)) (h n x w.2) in
      let a = list_any-append (holds_at bs p) (numbers_below (holds_at bs q) n) (if holds_at bs q n then n ∷ [] else []) in
      let m = list_any_more p bs n x w.1 in
      let g : p (get_or bs n x) ≡ p x = ap p w.3 in
      let k : n + 1 ≡ suc n = omega arith in
      cc
  | inr w ↦ absurd (omega arith)
]

pub any-on : (bs : List Outline) (p : Outline → Bool) (r : ℕ) → ((i : ℕ) (b : Outline) → slice_get bs i ≡ Some b → p b ≡ true → meets_row r b ≡ true)
    → list_any (holds_at bs p) (numbers_on bs r) ≡ list_any p bs
unfolding numbers_on
any-on bs p r h = any-below bs p (meets_row r) h (length bs) (omega arith) ∙ ap (list_any p) (take-length bs)

test_meets : (t : BoxTest) (r c : ℕ) (b : Outline) → box_test t r c b ≡ true → meets_row r b ≡ true
test_meets Covers r c b h = search (rules, tests)
test_meets Reaches r c b h = (and_parts _ _ h).0
test_meets RightPin r c b h = search (rules, tests)
test_meets BlindLeft r c b h = search (rules, tests)
test_meets BlindRight r c b h = search (rules, tests)

-- whether a box passes a test at a place
pub any_test : (bs : List Outline) (t : BoxTest) (r c : ℕ) → list_any (holds_at bs (box_test t r c)) (numbers_on bs r) ≡ list_any (box_test t r c) bs
any_test bs t r c = any-on bs (box_test t r c) r (λ i b e. test_meets t r c b)

nil_of : (xs : List ℕ) → length xs ≡ 0 → xs ≡ []
nil_of [] h = refl
nil_of (x ∷ xs) h = absurd (omega arith)

-- on a row that no box has, none passes a test
pub bare_of : (bs : List Outline) (r : ℕ) → length (numbers_on bs r) ≡ 0 → IsBare bs r
bare_of bs r h = record { none = λ t c. sym (any_test bs t r c) ∙ ap (list_any (holds_at bs (box_test t r c))) (nil_of (numbers_on bs r) h) }

word_meets : (n : ℕ) (b : Outline) → IsInRows n b → (s : Side) (r c : ℕ) → list_any (takes_word s r c) b.pins ≡ true → meets_row r b ≡ true
word_meets n b i s r c h =
    let w = Any-from_list_any (takes_word s r c) b.pins h in
    let q = w.1 in
    let on : q.row ≡ r = eqb-true _ _ (and_parts _ _ (and_parts _ _ w.4).0).0 in
    let inside = i.pins w.0 q w.2 in
    let low : b.top ≤ q.row = rw w.3 at inside.0 in
    let high : q.row ≤ b.bottom = rw w.3 at inside.1 in
    meets r b (omega arith) (omega arith)

-- whether the operand of a pin begins at a place
pub any_word : (n : ℕ) (bs : List Outline) → AreInRows n bs → (s : Side) (r c : ℕ)
    → list_any (holds_at bs (word_test s r c)) (numbers_on bs r) ≡ some_takes_word bs s r c
unfolding some_takes_word
any_word n bs o s r c = any-on bs (word_test s r c) r (λ i b e. word_meets n b (o.each i b e) s r c)

numbers_below-none : (p : ℕ → Bool) (n : ℕ) → ((i : ℕ) → p i ≡ false) → numbers_below p n ≡ []
numbers_below-none p zero h = refl
numbers_below-none p (suc n) h = let i = numbers_below-none p n h in let e : p n ≡ false = h n in rw (i, e) refl

holds-none : (p : Outline → Bool) (o : Option Outline) → ((b : Outline) → o ≡ Some b → p b ≡ false) → holds p o ≡ false
holds-none p None h = refl
holds-none p (Some b) h = h b refl

misses : (r : ℕ) (b : Outline) → (r < b.top) ⊎ (b.bottom < r) → meets_row r b ≡ false
misses r b (inl h) = search (rules, tests)
misses r b (inr h) = search (rules, tests)

outside : (n r : ℕ) (b : Outline) → IsInRows n b → (r ≡ 0) ⊎ (n < r) → (r < b.top) ⊎ (b.bottom < r)
outside n r b i (inl e) = inl (omega (arith, i.above))
outside n r b i (inr h) = inr (omega (arith, i.within))

-- a row outside the drawing has no boxes
pub none_on : (n : ℕ) (bs : List Outline) (r : ℕ) → AreInRows n bs → (r ≡ 0) ⊎ (n < r) → numbers_on bs r ≡ []
unfolding numbers_on
none_on n bs r o h =
    numbers_below-none (holds_at bs (meets_row r)) (length bs) (λ i. holds-none (meets_row r) (slice_get bs i) (λ b e. misses r b (outside n r b (o.each i b e) h)))

-- one more box
pub numbers-more : (bs : List Outline) (n r : ℕ) (b : Outline) (old new : List ℕ) → slice_get bs n ≡ Some b → old ≡ numbers_below (holds_at bs (meets_row r)) n
    → (b.top ≤ r → r ≤ b.bottom → new ≡ old ++ n ∷ []) → (r < b.top → new ≡ old) → (b.bottom < r → new ≡ old)
    → new ≡ numbers_below (holds_at bs (meets_row r)) (n + 1)
numbers-more bs n r b old new e is here above below =
    let k : n + 1 ≡ suc n = omega arith in
    let at : holds_at bs (meets_row r) n ≡ meets_row r b = ap (holds (meets_row r)) e in
    rw (k, at) (elim (cases_lt r b.top) [
      | inl h ↦ let m : meets_row r b ≡ false = misses r b (inl h) in rw m (above h ∙ is ∙ sym (append-nil _))
      | inr l ↦ elim (cases_lt b.bottom r) [
        | inl h ↦ let m : meets_row r b ≡ false = misses r b (inr h) in rw m (below h ∙ is ∙ sym (append-nil _))
        | inr h ↦ let m : meets_row r b ≡ true = meets r b l h in rw m (here l h ∙ ap (λ (xs : List ℕ). xs ++ n ∷ []) is)
      ]
    ])

top-step : (bs : List Outline) (r n : ℕ) (x : Outline) (b t : Bool) → slice_get bs n ≡ Some x → (x.top == r) ≡ t → (t ≡ true → b ≡ true)
    → filter_map (top_at bs r) (if b then n ∷ [] else []) ≡ map top_span (cond t (x ∷ []) [])
top-step bs r n x true true e f h = rw (e, f) refl
top-step bs r n x true false e f h = rw (e, f) refl
top-step bs r n x false true e f h = let z : false ≡ true = h refl in cc
top-step bs r n x false false e f h = refl

tops-below : (bs : List Outline) (r : ℕ) → ((i : ℕ) (b : Outline) → slice_get bs i ≡ Some b → b.top ≤ b.bottom) → (n : ℕ) → n ≤ length bs
    → filter_map (top_at bs r) (numbers_below (holds_at bs (meets_row r)) n) ≡ map top_span (filter (λ (b : Outline). b.top == r) (take n bs))
tops-below bs r h zero l = refl
tops-below bs r h (suc n) l = elim ((slice_get_cases bs n).1) [
  | inl w ↦
      let x = w.0 in
      let on : holds_at bs (meets_row r) n ≡ meets_row r x = ap (holds (meets_row r)) w.2 in
      let i = tops-below bs r h n (omega arith) in
      let here : (x.top == r) ≡ true → holds_at bs (meets_row r) n ≡ true =
      λ e. on ∙ meets r x (omega (arith, eqb-true _ _ e)) (omega (arith, eqb-true _ _ e, h n x w.2)) in
      let s = top-step bs r n x (holds_at bs (meets_row r) n) (x.top == r) w.2 refl here in
      let a = filter_map-append (top_at bs r) (numbers_below (holds_at bs (meets_row r)) n) (if holds_at bs (meets_row r) n then n ∷ [] else []) in
      let m : filter (λ (b : Outline). b.top == r) (take (n + 1) bs) ≡ filter (λ (b : Outline). b.top == r) (take n bs) ++ cond (x.top == r) (x ∷ []) [] =
      rw w.3 at (filter_more (λ (b : Outline). b.top == r) bs n x w.1) in
      let k : n + 1 ≡ suc n = omega arith in
      a ∙ ap (λ (ys : List Span). filter_map (top_at bs r) (numbers_below (holds_at bs (meets_row r)) n) ++ ys) s
      ∙ ap (λ (xs : List Span). xs ++ map top_span (cond (x.top == r) (x ∷ []) [])) i
      ∙ sym (map-append top_span (filter (λ (b : Outline). b.top == r) (take n bs)) (cond (x.top == r) (x ∷ []) []))
      ∙ ap (map top_span) (sym m)
      ∙ rw k refl
  | inr w ↦ absurd (omega arith)
]

-- the top sides of the boxes that begin in a row
pub tops_on : (n : ℕ) (bs : List Outline) → AreInRows n bs → (r : ℕ) → filter_map (top_at bs r) (numbers_on bs r) ≡ map top_span (filter (λ (b : Outline). b.top == r) bs)
unfolding numbers_on
tops_on n bs o r =
    tops-below bs r (λ i b e. (o.each i b e).high) (length bs) (omega arith)
    ∙ ap (λ (xs : List Outline). map top_span (filter (λ (b : Outline). b.top == r) xs)) (take-length bs)

pub pins_by_row : (n : ℕ) (bs : List Outline) → AreInRows n bs → HavePinsByRow bs
pins_by_row n bs o = record { each = λ k b e. (o.each k b e).by_row }

pub numbers-at : (bs : List Outline) (ns : List (List ℕ)) (r : ℕ) → AreNumbered bs (length bs) ns → 0 < r → r - 1 < length ns → get_or ns (r - 1) [] ≡ numbers_on bs r
unfolding numbers_on
numbers-at bs ns r h some l =
    let e : r - 1 + 1 ≡ r = omega arith in
    rw e at (h (r - 1) l)

pub slice_get-past : {A : Type 0} (xs : List A) (i : ℕ) → length xs ≤ i → slice_get xs i ≡ None
slice_get-past xs i h = elim ((slice_get_cases xs i).1) [
  | inl w ↦ absurd (omega arith)
  | inr w ↦ w.1
]
