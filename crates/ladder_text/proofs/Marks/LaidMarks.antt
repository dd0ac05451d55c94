-- On the marks of a layout.
use Rattle.std.proofs.Common.{ℕ, zero, suc, ◌+◌, ◌-◌, ◌<◌, ◌≤◌, ◌≡◌, List, [], length, get_or, refl, ap, ◌∙◌, arith, Bool, true, false, ◌||◌, if◌then◌else◌, inl, inr}
use Rattle.ladder_rows.specs.Rows.{Rows, width, height, char_at}
use Rattle.drawings.specs.declared.mark.Mark.{Mark}
use Rattle.drawings.specs.declared.mark.Mark.TheVariants.{Blank, Rail, Wire, Join, Upright, ContactPart, CoilPart, BoxPart}
use Rattle.ladder_text.specs.Places.{Layout, layout_of, mark, in_box, in_contact, in_coil, in_operand, is_taken, line_mark, is_box_part, is_symbol}
use Rattle.ladder_text.specs.Picture.{marks_of, row_marks}
use Rattle.ladder_text.specs.Steps.RowMarks.{AreMarksIfFound, AreMarksOf}
use Rattle.ladder_text.proofs.Marks.PictureMarks.{length-upto, get_or-upto}

pub length-marks : (p : Layout) → length (marks_of p) ≡ height p.rows
unfolding marks_of
length-marks p = length-upto (height p.rows) (row_marks p)

-- the mark in the list of marks
pub marks-inside : (p : Layout) (r c : ℕ) → 0 < r → r ≤ height p.rows → 0 < c → c ≤ width p.rows → get_or (get_or (marks_of p) (r - 1) []) c Blank ≡ mark p r c
unfolding marks_of
marks-inside p zero c a b e f = absurd (omega arith)
marks-inside p (suc r) zero a b e f = absurd (omega arith)
marks-inside p (suc r) (suc c) a b e f =
    let q : r + 1 ≡ suc r = omega arith in
    let s : c + 1 ≡ suc c = omega arith in
    let t : suc r - 1 ≡ r = omega arith in
    rw t (ap (λ (ms : List Mark). get_or ms (suc c) Blank) (get_or-upto (height p.rows) (row_marks p) r [] (omega arith))
    ∙ get_or-upto (width p.rows) (mark p (r + 1)) c Blank (omega arith)
    ∙ rw (q, s) refl)

-- a row of the marks that were found has the marks of its places
pub marks-found : (d : Rows) (found : List (List Mark)) (r : ℕ) → AreMarksIfFound d found → 0 < r → r - 1 < length found → AreMarksOf (layout_of d) r (get_or found (r - 1) [])
marks-found d found r (inl e) a h =
    let none : length found ≡ 0 = ap length e in
    absurd (omega arith)
marks-found d found r (inr e) a h =
    let p = layout_of d in
    let all = length-marks p in
    let size : length found ≡ length (marks_of p) = ap length e in
    record { each = λ k b f. ap (λ (ms : List (List Mark)). get_or (get_or ms (r - 1) []) k Blank) e ∙ marks-inside p r k a (omega arith) b f }

pub line_mark-free : (p q o : Bool) → (is_box_part (if p then Join else (if q then Upright else (if o then Wire else Blank))) || is_symbol (if p then Join else (if q then Upright else (if o then Wire else Blank)))) ≡ false
line_mark-free true q o = refl
line_mark-free false true o = refl
line_mark-free false false true = refl
line_mark-free false false false = refl

pub taken-of_tests : (a b c d : Bool) (m : Mark) → (is_box_part m || is_symbol m) ≡ false →
    (a || b || c) ≡ (is_box_part (if a then BoxPart else (if b then ContactPart else (if c then CoilPart else (if d then Rail else m)))) || is_symbol (if a then BoxPart else (if b then ContactPart else (if c then CoilPart else (if d then Rail else m)))))
taken-of_tests true b c d m h = refl
taken-of_tests false true c d m h = refl
taken-of_tests false false true d m h = refl
taken-of_tests false false false true m h = refl
taken-of_tests false false false false m h = rw h refl

pub taken_by_mark : (p : Layout) (r c : ℕ) → is_taken p r c ≡ (is_box_part (mark p r c) || is_symbol (mark p r c))
unfolding mark
taken_by_mark p r c = taken-of_tests (in_box p r c) (in_contact p r c) (in_coil p r c) _ (line_mark (char_at p.rows r c) (in_operand p r c)) (line_mark-free _ _ _)
