-- The marks of a picture are those of its layout.
use Rattle.std.proofs.Common.{ℕ, zero, suc, ◌+◌, ◌<◌, ◌≤◌, ◌≡◌, List, [], ◌∷◌, ◌++◌, length, get_or, refl, ap, ◌∙◌, arith, length-append, below_more, ◌⊎◌, inl, inr}
use Rattle.std.proofs.lemmas.Bool.{cases_lt}
use Rattle.std.proofs.Math.ListN.{get_or-append, get_or-eq_default}
use Rattle.std.proofs.Math.Seq.{get_or-append_seam}
use Rattle.ladder_rows.specs.Rows.{width, height, upto}
use Rattle.drawings.specs.declared.mark.Mark.{Mark}
use Rattle.drawings.specs.declared.mark.Mark.TheVariants.{Blank}
use Rattle.ladder_text.specs.Places.{Layout, mark}
use Rattle.drawings.specs.Picture.{mark_at}
use Rattle.ladder_text.specs.Picture.{marks_of, picture_of}

pub length-upto : {A : Type 0} (n : ℕ) (f : ℕ → A) → length (upto n (λ k. f k ∷ [])) ≡ n
length-upto zero f = refl
length-upto (suc n) f = omega (arith, length-append (upto n (λ k. f k ∷ [])) (f (suc n) ∷ []), length-upto n f)

pub get_or-upto : {A : Type 0} (n : ℕ) (f : ℕ → A) (k : ℕ) (d : A) → k < n → get_or (upto n (λ k. f k ∷ [])) k d ≡ f (k + 1)
get_or-upto zero f k d h = absurd (omega arith)
get_or-upto {A} (suc n) f k d h =
    let g = λ (k : ℕ). f k ∷ [] in
    let e : length (upto n g) ≡ n = length-upto n f in
    let q : suc n ≡ n + 1 = omega arith in
    let s = get_or-append_seam (upto n g) (f (suc n)) [] d in
    below_more (λ (k : ℕ). get_or (upto n g ++ f (suc n) ∷ []) k d ≡ f (k + 1)) n
    (λ k l. get_or-append (upto n g) (f (suc n) ∷ []) d k (omega arith) ∙ get_or-upto n f k d l)
    ((rw e at s) ∙ ap f q) k (omega arith)

pub mark_at-inside : (line : ℕ) (p : Layout) (r c : ℕ) → 0 < r → r ≤ height p.rows → 0 < c → c ≤ width p.rows → mark_at (picture_of line p) r c ≡ mark p r c
unfolding mark_at picture_of marks_of
mark_at-inside line p zero c a b e f = absurd (omega arith)
mark_at-inside line p (suc r) zero a b e f = absurd (omega arith)
mark_at-inside line p (suc r) (suc c) a b e f =
    let row : ℕ → List Mark = λ r. Blank ∷ upto (width p.rows) (λ c. mark p r c ∷ []) in
    let q : r + 1 ≡ suc r = omega arith in
    let s : c + 1 ≡ suc c = omega arith in
    ap (λ (ms : List Mark). get_or ms (suc c) Blank) (get_or-upto (height p.rows) row r [] (omega arith))
    ∙ get_or-upto (width p.rows) (mark p (r + 1)) c Blank (omega arith)
    ∙ rw (q, s) refl

pub mark_at-below : (line : ℕ) (p : Layout) (r c : ℕ) → height p.rows < r → mark_at (picture_of line p) r c ≡ Blank
unfolding mark_at picture_of marks_of
mark_at-below line p zero c h = absurd (omega arith)
mark_at-below line p (suc r) c h =
    let row : ℕ → List Mark = λ r. Blank ∷ upto (width p.rows) (λ c. mark p r c ∷ []) in
    ap (λ (ms : List Mark). get_or ms c Blank) (get_or-eq_default (upto (height p.rows) (λ r. row r ∷ [])) [] (omega (arith, length-upto (height p.rows) row)))

pub mark_at-beside : (line : ℕ) (p : Layout) (r c : ℕ) → 0 < r → r ≤ height p.rows → width p.rows < c → mark_at (picture_of line p) r c ≡ Blank
unfolding mark_at picture_of marks_of
mark_at-beside line p zero c a b h = absurd (omega arith)
mark_at-beside line p (suc r) zero a b h = absurd (omega arith)
mark_at-beside line p (suc r) (suc c) a b h =
    let row : ℕ → List Mark = λ r. Blank ∷ upto (width p.rows) (λ c. mark p r c ∷ []) in
    ap (λ (ms : List Mark). get_or ms (suc c) Blank) (get_or-upto (height p.rows) row r [] (omega arith))
    ∙ get_or-eq_default (upto (width p.rows) (λ c. mark p (r + 1) c ∷ [])) Blank (omega (arith, length-upto (width p.rows) (mark p (r + 1))))

pub mark_at-no_row : (line : ℕ) (p : Layout) (r c : ℕ) → (r ≡ 0) ⊎ (height p.rows < r) → mark_at (picture_of line p) r c ≡ Blank
unfolding mark_at
mark_at-no_row line p r c (inl e) = rw e refl
mark_at-no_row line p r c (inr h) = mark_at-below line p r c h

pub mark_at-no_column : (line : ℕ) (p : Layout) (r c : ℕ) → 0 < r → r ≤ height p.rows → (c ≡ 0) ⊎ (width p.rows < c) → mark_at (picture_of line p) r c ≡ Blank
unfolding mark_at picture_of marks_of
mark_at-no_column line p zero c a b h = absurd (omega arith)
mark_at-no_column line p (suc r) c a b (inl e) =
    let row : ℕ → List Mark = λ r. Blank ∷ upto (width p.rows) (λ c. mark p r c ∷ []) in
    rw e (ap (λ (ms : List Mark). get_or ms 0 Blank) (get_or-upto (height p.rows) row r [] (omega arith)))
mark_at-no_column line p (suc r) c a b (inr h) = mark_at-beside line p (suc r) c a b h

pub mark_at-drawn : (line : ℕ) (p : Layout) (r c : ℕ) → (mark_at (picture_of line p) r c ≡ Blank → ⊥) → (r ≤ height p.rows) × (0 < c) × (c ≤ width p.rows)
mark_at-drawn line p r c ink = elim (cases_lt 0 r) [
  | inr z ↦ absurd (ink (mark_at-no_row line p r c (inl (omega arith))))
  | inl a ↦ elim (cases_lt (height p.rows) r) [
    | inl h ↦ absurd (ink (mark_at-no_row line p r c (inr h)))
    | inr b ↦ elim (cases_lt 0 c) [
      | inr z ↦ absurd (ink (mark_at-no_column line p r c a b (inl (omega arith))))
      | inl e ↦ elim (cases_lt (width p.rows) c) [
        | inl h ↦ absurd (ink (mark_at-no_column line p r c a b (inr h)))
        | inr f ↦ (b, e, f)
      ]
    ]
  ]
]
