-- The words and the symbols of a row from left to right.
use Rattle.std.proofs.Common.{ℕ, zero, suc, ◌+◌, ◌-◌, ◌<◌, ◌≤◌, ◌≡◌, ◌≢◌, ◌++◌, ◌&&◌, ◌||◌, not, Bool, Some, inl, inr, [], ◌∷◌, List, true, false, refl, ap, ◌∙◌, arith}
use Rattle.std.proofs.lemmas.List.{append-nil}
use Rattle.std.proofs.lemmas.Bool.{and_parts, and_right, both_ways, or_cases, or_from, or_parts, true_from_ne_false}
use Rattle.std.specs.Option.{is_some}
use Rattle.std.specs.Prelude.{◌==◌, if◌then◌else◌}
use Rattle.ladder_rows.specs.declared.span.Span.{Span}
use Rattle.ladder_rows.specs.Rows.{run, upto, width, char_at, is_rail_char}
use Rattle.words.specs.Chars.{is_word_char}
use Rattle.ladder_rows.specs.Boxes.{option_list}
use Rattle.drawings.specs.declared.mark.Mark.{Mark}
use Rattle.drawings.specs.declared.mark.Mark.TheVariants.{Blank, Rail, Wire, Join, Upright, ContactPart, CoilPart, BoxPart}
use Rattle.ladder_rows.specs.declared.boxes.box_test.BoxTest.TheVariants.{Covers, Reaches}
use Rattle.ladder_rows.specs.Steps.RowBoxes.{IsBare}
use Rattle.ladder_text.specs.Places.{Layout, contact_at, coil_at, in_box, in_contact, in_coil, in_operand, is_rail_column, is_symbol, is_taken, line_mark, mark}
use Rattle.ladder_text.specs.Names.{in_word, word_at, symbol_at, symbol_span}
use Rattle.ladder_text.proofs.Rows.Runs.{upto-more, run_passes}
use Rattle.ladder_text.proofs.Marks.RowMarks.{IsPassed, IsQuiet, contact_passed, coil_passed, outside_contact, outside_coil, quiet_next}
use Rattle.ladder_text.proofs.Marks.SymbolPlaces.{cond_some_of, drawn_inside, first_by_mark, no_contact, no_coil}

-- a place of a word has no blank
word_drawn : (p : Layout) (r c : ℕ) → in_word p r c ≡ true → char_at p.rows r c ≡ 32 → ⊥
unfolding in_word
word_drawn p r c h blank =
    let test : is_word_char (char_at p.rows r c) ≡ true = (and_parts _ _ (and_parts _ _ h).0).0 in
    let none : is_word_char (char_at p.rows r c) ≡ false = rw blank refl in
    both_ways (is_word_char (char_at p.rows r c)) none test

word_char : (p : Layout) (r c : ℕ) → in_word p r c ≡ true → is_word_char (char_at p.rows r c) ≡ true
unfolding in_word
word_char p r c h = (and_parts _ _ (and_parts _ _ h).0).0

no_word_char : (x y : ℕ) → is_word_char y ≡ false → is_word_char x ≡ true → x ≢ y
no_word_char x y none h e = both_ways (is_word_char x) (ap is_word_char e ∙ none) h

word_alone : (b t o : Bool) → (b ≡ true → t ≡ false) → o ≡ false → b ≡ (b && not t && not o)
word_alone true t o h e = rw (h refl, e) refl
word_alone false t o h e = refl

-- in a row without boxes a word goes on with each of its characters
pub word_goes_on : (p : Layout) (r c : ℕ) → IsBare p.boxes r → in_word p r (c - 1) ≡ true → is_word_char (char_at p.rows r c) ≡ in_word p r c
unfolding in_word
word_goes_on p r c bare before =
    let was = word_char p r (c - 1) before in
    let free : is_word_char (char_at p.rows r c) ≡ true → is_taken p r c ≡ false = λ h.
    or_from _ _
    (or_from _ _ (bare.none Covers c) (no_contact p r c (no_word_char (char_at p.rows r c) 124 refl h) (no_word_char (char_at p.rows r (c - 1)) 124 refl was)))
    (no_coil p r c (no_word_char (char_at p.rows r c) 40 refl h) (no_word_char (char_at p.rows r c) 41 refl h) (no_word_char (char_at p.rows r (c - 1)) 40 refl was)) in
    word_alone (is_word_char (char_at p.rows r c)) (is_taken p r c) (in_operand p r c) free (bare.none Reaches c)

-- as far as the places are those of a word, they are in the drawing
pub word_within : (p : Layout) (r c n : ℕ) → c ≤ width p.rows → ((k : ℕ) → k < n → in_word p r (c + 1 + k) ≡ true) → c + n ≤ width p.rows
word_within p r c zero within h = omega arith
word_within p r c (suc n) within h =
    let e : c + 1 + n ≡ c + suc n = omega arith in
    let last = drawn_inside p.rows r (c + 1 + n) (word_drawn p r (c + 1 + n) (h n (omega arith))) in
    omega (arith, last, e)

-- no word begins behind a place of one
no_word : (p : Layout) (r c : ℕ) → in_word p r (c - 1) ≡ true → option_list (word_at p r c) ≡ []
unfolding word_at
no_word p r c h =
    let test : (in_word p r c && not (in_word p r (c - 1))) ≡ false = and_right _ _ (ap not h) in
    rw test refl

upto_same : {A : Type 0} (a n : ℕ) (f : ℕ → List A) → ((k : ℕ) → k < n → f (a + k + 1) ≡ []) → upto (a + n) f ≡ upto a f
upto_same a zero f h = let e : a + 0 ≡ a = omega arith in rw e refl
upto_same {A} a (suc n) f h =
    let e : a + suc n ≡ a + n + 1 = omega arith in
    ap (λ (m : ℕ). upto m f) e ∙ upto-more (a + n) f ∙ ap (λ (l : List A). upto (a + n) f ++ l) (h n (omega arith)) ∙ append-nil (upto (a + n) f)
    ∙ upto_same a n f (λ k l. h k (omega arith))

-- a word that begins behind c, of which n places follow the first
module _ (p : Layout) (r c n : ℕ) (here : in_word p r (c + 1) ≡ true) (long : n ≡ run (in_word p r) (c + 1 + 1) (width p.rows)) where
  inside : (k : ℕ) → k ≤ n → in_word p r (c + 1 + k) ≡ true
  inside zero le = let e : c + 1 + 0 ≡ c + 1 = omega arith in rw e here
  inside (suc k) le =
      let e : c + 1 + suc k ≡ c + 1 + 1 + k = omega arith in
      rw e (run_passes (in_word p r) (c + 1 + 1) (width p.rows) k (omega (arith, long)))

  pub word_last : in_word p r (c + 1 + n) ≡ true
  word_last = inside n (omega arith)

  word_here : in_word p r c ≡ false → option_list (word_at p r (c + 1)) ≡ record { first = c + 1; end = c + 1 + 1 + n } ∷ []
  unfolding word_at
  word_here before =
      let e : c + 1 - 1 ≡ c = omega arith in
      rw (e, before, here, long) refl

  pub words_more : in_word p r c ≡ false
      → upto (c + 1 + n) (λ k. option_list (word_at p r k)) ≡ upto c (λ k. option_list (word_at p r k)) ++ record { first = c + 1; end = c + 1 + 1 + n } ∷ []
  words_more before =
      let f : ℕ → List Span = λ k. option_list (word_at p r k) in
      upto_same (c + 1) n f (λ k l. let e : c + 1 + k + 1 - 1 ≡ c + 1 + k = omega arith in no_word p r (c + 1 + k + 1) (rw e (inside k (omega arith))))
      ∙ upto-more c f
      ∙ ap (λ (l : List Span). upto c f ++ l) (word_here before)

-- a symbol that begins behind c: none begins at its other places
pub record IsSymbolPassed (p : Layout) (r c : ℕ) (s : Span) : Type 0 where
  pub inside : c + 3 ≤ width p.rows
  pub symbols : upto (c + 3) (λ k. option_list (symbol_at p r k)) ≡ upto c (λ k. option_list (symbol_at p r k)) ++ s ∷ []
  pub quiet : IsQuiet p r (c + 3)

no_symbol_of : (p : Layout) (r c : ℕ) → is_some (contact_at p r c) ≡ false → is_some (coil_at p r c) ≡ false → option_list (symbol_at p r c) ≡ []
unfolding symbol_at
no_symbol_of p r c a b = rw (a, b) refl

passed_at : (p : Layout) (r c : ℕ) (s : Span) (m : Mark) → symbol_at p r (c + 1) ≡ Some s → IsPassed p r c m → IsSymbolPassed p r c s
passed_at p r c s m e passed =
    let f : ℕ → List Span = λ k. option_list (symbol_at p r k) in
    let three : c + 3 ≡ c + 1 + 1 + 1 = omega arith in
    let two : c + 3 - 1 ≡ c + 1 + 1 = omega arith in
    let q = passed.quiet in
    let last : f (c + 1 + 1 + 1) ≡ [] = rw three at (no_symbol_of p r (c + 3) q.contact q.coil) in
    let middle : f (c + 1 + 1) ≡ [] = rw two at (no_symbol_of p r (c + 3 - 1) q.contact_before q.coil_before) in
    let first : f (c + 1) ≡ s ∷ [] = ap option_list e in
    record {
      inside = passed.inside;
      quiet = q;
      symbols = ap (λ (n : ℕ). upto n f) three
          ∙ upto-more (c + 1 + 1) f ∙ ap (λ (l : List Span). upto (c + 1 + 1) f ++ l) last ∙ append-nil (upto (c + 1 + 1) f)
          ∙ upto-more (c + 1) f ∙ ap (λ (l : List Span). upto (c + 1) f ++ l) middle ∙ append-nil (upto (c + 1) f)
          ∙ upto-more c f ∙ ap (λ (l : List Span). upto c f ++ l) first;
    }

pub symbol_passed : (p : Layout) (r c : ℕ) (s : Span) → symbol_at p r (c + 1) ≡ Some s → IsSymbolPassed p r c s
unfolding symbol_at
symbol_passed p r c s e =
    elim (or_cases _ _ (cond_some_of (is_some (contact_at p r (c + 1)) || is_some (coil_at p r (c + 1))) _ s e).0) [
      | inl h ↦ passed_at p r c s ContactPart e (contact_passed p r c h)
      | inr h ↦ passed_at p r c s CoilPart e (coil_passed p r c h)
    ]

line_alone : (x y z : Bool) → is_symbol (if x then Join else (if y then Upright else (if z then Wire else Blank))) ≡ false
line_alone true y z = refl
line_alone false true z = refl
line_alone false false true = refl
line_alone false false false = refl

mark_alone : (b x y z : Bool) (m : Mark) → x ≡ false → y ≡ false → is_symbol m ≡ false
    → is_symbol (if b then BoxPart else (if x then ContactPart else (if y then CoilPart else (if z then Rail else m)))) ≡ false
mark_alone true x y z m e f h = refl
mark_alone false x y true m e f h = rw (e, f) refl
mark_alone false x y false m e f h = rw (e, f) h

-- outside symbols no mark is that of one
no_symbol_mark : (p : Layout) (r c : ℕ) → in_contact p r c ≡ false → in_coil p r c ≡ false → is_symbol (mark p r c) ≡ false
unfolding mark
no_symbol_mark p r c a b =
    let x = char_at p.rows r c in
    mark_alone (in_box p r c) (in_contact p r c) (in_coil p r c) (is_rail_column p c && is_rail_char x) (line_mark x (in_operand p r c)) a b
    (line_alone (x == 43) (x == 124) (x == 45 && not (in_operand p r c)))

-- where no symbol goes on, one begins at the mark of one
pub symbol_begins : (p : Layout) (r c : ℕ) → IsQuiet p r c → is_symbol (mark p r (c + 1)) ≡ true → symbol_at p r (c + 1) ≡ Some (symbol_span (c + 1))
unfolding symbol_at
symbol_begins p r c q h =
    let begun : (is_some (contact_at p r (c + 1)) || is_some (coil_at p r (c + 1))) ≡ true = true_from_ne_false _ (λ e.
    let none = or_parts _ _ e in
    both_ways (is_symbol (mark p r (c + 1))) (no_symbol_mark p r (c + 1) (outside_contact p r c q none.0) (outside_coil p r c q none.1)) h) in
    rw begun refl

-- at another mark none begins
pub symbol_skipped : (p : Layout) (r c : ℕ) → IsQuiet p r c → is_symbol (mark p r (c + 1)) ≡ false
    → (upto (c + 1) (λ k. option_list (symbol_at p r k)) ≡ upto c (λ k. option_list (symbol_at p r k))) × IsQuiet p r (c + 1)
symbol_skipped p r c q h =
    let f : ℕ → List Span = λ k. option_list (symbol_at p r k) in
    let none = or_parts _ _ (first_by_mark p r (c + 1) h) in
    (upto-more c f ∙ ap (λ (l : List Span). upto c f ++ l) (no_symbol_of p r (c + 1) none.0 none.1) ∙ append-nil (upto c f), quiet_next p r c q none.0 none.1)
