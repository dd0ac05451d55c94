-- A text has one rest behind a blank line, and one body.
use Rattle.std.proofs.Common.{◌≡◌, ◌-◌, ℕ, true, List, [], ◌∷◌, ◌++◌, length, take, ◌⊎◌, inl, inr, refl, ap, sym, subst, ◌∙◌, append_assoc}
use Rattle.std.proofs.lemmas.List.{append_cancel_left}
use Rattle.std.specs.List.{AllByRecursion}
use Rattle.std.specs.Str.{IsUtf8}
use Rattle.plant_text.specs.Spelling.{first_line, is_one_line, IsEndLine, IsBlankLine, IsBodyThen}
use Rattle.plant_text.specs.Steps.Lexing.{IsBehindBody}
use Rattle.plant_text.proofs.BodyLines.{first_line_at, one_line_and, first_of_lines, lines_text, IsLine}
use Rattle.plant_text.proofs.LineCounts.{passed}

-- the line that ends behind the blank part
line_at : (text rest : List ℕ) → IsBlankLine text rest → (line : List ℕ) × (text ≡ line ++ 10 ∷ rest) × (is_one_line line ≡ true)
line_at text rest l = go l.5
  where
    go : (l.1 ≡ 10 ∷ []) ⊎ (l.1 ≡ 13 ∷ 10 ∷ []) → (line : List ℕ) × (text ≡ line ++ 10 ∷ rest) × (is_one_line line ≡ true)
    go (inl h) = (l.0, l.2 ∙ ap (λ x. l.0 ++ x ++ rest) h ∙ append_assoc l.0 (10 ∷ []) rest, l.4)
    go (inr h) =
        (l.0 ++ 13 ∷ [], l.2 ∙ ap (λ x. l.0 ++ x ++ rest) h ∙ append_assoc l.0 (13 ∷ 10 ∷ []) rest ∙ sym (append_assoc l.0 (13 ∷ []) (10 ∷ rest)), one_line_and l.0 l.4)

pub one_rest : (text r s : List ℕ) → IsBlankLine text r → IsBlankLine text s → r ≡ s
one_rest text r s one other =
    let a = line_at text r one in
    let b = line_at text s other in
    let same : a.0 ≡ b.0 = sym (first_line_at a.0 r a.2) ∙ ap (λ x. first_line x) (sym a.1 ∙ b.1) ∙ first_line_at b.0 s b.2 in
    let tails : 10 ∷ r ≡ 10 ∷ s = append_cancel_left a.0 (10 ∷ r) (10 ∷ s) (sym a.1 ∙ b.1 ∙ ap (λ x. x ++ 10 ∷ s) (sym same)) in
    cc

-- lines of a body, and then a line of END_PROGRAM: that is no line of a body
no_further : (r line more : List ℕ) → r ≡ line ++ 10 ∷ more → IsLine line → IsEndLine (first_line r) → ⊥
no_further r line more e is end = is.1 (subst IsEndLine (ap (λ x. first_line x) e ∙ first_line_at line more is.0) end)

one_end : (ks ls : List (List ℕ)) (text r s : List ℕ) → text ≡ lines_text ks ++ r → text ≡ lines_text ls ++ s → AllByRecursion IsLine ks → AllByRecursion IsLine ls
    → IsEndLine (first_line r) → IsEndLine (first_line s) → r ≡ s
one_end [] [] text r s e f all more end end' = sym e ∙ f
one_end [] (l ∷ ls) text r s e f all more end end' = absurd (no_further r l (lines_text ls ++ s) (sym e ∙ f ∙ first_of_lines l (lines_text ls) s) more.0 end)
one_end (k ∷ ks) [] text r s e f all more end end' = absurd (no_further s k (lines_text ks ++ r) (sym f ∙ e ∙ first_of_lines k (lines_text ks) r) all.0 end')
one_end (k ∷ ks) (l ∷ ls) text r s e f all more end end' =
    let one : text ≡ k ++ 10 ∷ (lines_text ks ++ r) = e ∙ first_of_lines k (lines_text ks) r in
    let other : text ≡ l ++ 10 ∷ (lines_text ls ++ s) = f ∙ first_of_lines l (lines_text ls) s in
    let same : k ≡ l = sym (first_line_at k (lines_text ks ++ r) all.0.0) ∙ ap (λ x. first_line x) (sym one ∙ other) ∙ first_line_at l (lines_text ls ++ s) more.0.0 in
    let tails : 10 ∷ (lines_text ks ++ r) ≡ 10 ∷ (lines_text ls ++ s) =
    append_cancel_left k (10 ∷ (lines_text ks ++ r)) (10 ∷ (lines_text ls ++ s)) (sym one ∙ other ∙ ap (λ x. x ++ 10 ∷ (lines_text ls ++ s)) (sym same)) in
    let tail : lines_text ks ++ r ≡ lines_text ls ++ s = cc in
    one_end ks ls (lines_text ks ++ r) r s refl tail all.1 more.1 end end'

pub one_body : (text r s : List ℕ) → IsBehindBody text r → IsEndLine (first_line r) → IsBehindBody text s → IsEndLine (first_line s) → r ≡ s
one_body text r s b end c end' = one_end b.2.0 c.2.0 text r s (b.1 ∙ ap (λ x. x ++ r) b.2.1) (c.1 ∙ ap (λ x. x ++ s) c.2.1) b.2.2 c.2.2 end end'

pub body_behind : (text lines body rest : List ℕ) → IsBlankLine text lines → IsBodyThen text body rest → IsBehindBody lines rest
body_behind text lines body rest l b = (body, one_rest text lines (body ++ rest) l b.0, b.1)

-- where no line of END_PROGRAM follows, there is no body
pub no_end_behind : (text lines body rest : List ℕ) → IsBlankLine text lines → ((r : List ℕ) → IsBehindBody lines r → IsEndLine (first_line r) → ⊥) → IsBodyThen text body rest → ⊥
no_end_behind text lines body rest l none b = none rest (body_behind text lines body rest l b) b.2

-- where what is cut out isn't UTF-8, no body is
pub no_body_cut : (text lines end body rest : List ℕ) → IsBlankLine text lines → IsBehindBody lines end → IsEndLine (first_line end) → (IsUtf8 (take (length lines - length end) lines) → ⊥)
    → IsBodyThen text body rest → IsUtf8 body → ⊥
no_body_cut text lines end body rest l b f none found whole =
    let same : end ≡ rest = one_body lines end rest b f (body_behind text lines body rest l found) found.2 in
    let whole_text : lines ≡ body ++ end = one_rest text lines (body ++ rest) l found.0 ∙ ap (λ x. body ++ x) (sym same) in
    none (subst IsUtf8 (sym (passed lines body end whole_text)) whole)
