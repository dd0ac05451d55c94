-- A carriage return at the end of a line is taken off.
use Rattle.std.proofs.Common.{◌≡◌, ◌≢◌, ℕ, ◌+◌, ◌-◌, ◌<◌, ◌==◌, Bool, true, false, cond, List, [], ◌∷◌, ◌++◌, length, take, get_or, sym, refl, ap, ◌∙◌, arith, length-append}
use Rattle.std.specs.Prelude.{slice_index}
use Rattle.std.proofs.Math.Seq.{take-append_seam, get_or-append_seam}
use Rattle.std.proofs.lemmas.List.{take_more, take_all}
use Rattle.std.proofs.lemmas.Bool.{eqb-true}
use Rattle.words.specs.Lines.{without_last}

one_less : (front : List ℕ) → length (front ++ 13 ∷ []) - 1 ≡ length front
one_less front = omega (arith, length-append front (13 ∷ []))

off : (front : List ℕ) → without_last 13 (front ++ 13 ∷ []) ≡ front
off front =
    let last : slice_index (front ++ 13 ∷ []) (length (front ++ 13 ∷ []) - 1) ≡ 13 = ap (slice_index (front ++ 13 ∷ [])) (one_less front) ∙ get_or-append_seam front 13 [] 0 in
    ap (λ b. cond b (take (length (front ++ 13 ∷ []) - 1) (front ++ 13 ∷ [])) (front ++ 13 ∷ [])) (ap (λ c. c == 13) last)
    ∙ ap (λ k. take k (front ++ 13 ∷ [])) (one_less front) ∙ take-append_seam front (13 ∷ [])

pub return_off : (line front : List ℕ) (e : line ≡ front ++ 13 ∷ []) → front ≡ without_last 13 line
return_off line front e = sym (ap (without_last 13) e ∙ off front)

not_off : (line : List ℕ) → 0 < length line → line ≢ take (length line - 1) line ++ 13 ∷ [] → line ≡ without_last 13 line
not_off line h none = by (slice_index line (length line - 1) == 13) refl
  where
    by : (b : Bool) → (slice_index line (length line - 1) == 13) ≡ b → line ≡ without_last 13 line
    by true e =
        let last : get_or line (length line - 1) 0 ≡ 13 = eqb-true (get_or line (length line - 1) 0) 13 e in
        let n : length line ≡ (length line - 1) + 1 = omega (arith, h) in
        absurd (none (sym (take_all (length line) line (omega arith)) ∙ ap (λ k. take k line) n ∙ take_more line (length line - 1) 0 (omega (arith, h)) ∙ ap (λ c. take (length line - 1) line ++ c ∷ []) last))
    by false e = sym (ap (λ b. cond b (take (length line - 1) line) line) e)

-- where no carriage return is at the end, the line stays
pub no_return_off : (line : List ℕ) → line ≢ take (length line - 1) line ++ 13 ∷ [] → line ≡ without_last 13 line
no_return_off [] none = refl
no_return_off (c ∷ more) none = not_off (c ∷ more) (omega arith) none
