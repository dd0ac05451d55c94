-- A line feed at the end of a text is taken off.
use Rattle.std.proofs.Common.{◌≡◌, ◌≢◌, ℕ, ◌+◌, ◌-◌, ◌<◌, ◌==◌, Bool, true, false, cond, List, [], ◌∷◌, ◌++◌, length, take, get_or, sym, refl, ap, ◌∙◌, arith, length-append}
use Rattle.std.specs.Prelude.{slice_index}
use Rattle.std.proofs.Math.Seq.{take-append_seam, get_or-append_seam}
use Rattle.std.proofs.lemmas.List.{take_more, take_all}
use Rattle.std.proofs.lemmas.Bool.{eqb-true}
use Rattle.words.specs.Lines.{without_last}

one_less : (front : List ℕ) → length (front ++ 10 ∷ []) - 1 ≡ length front
one_less front = omega (arith, length-append front (10 ∷ []))

off : (front : List ℕ) → without_last 10 (front ++ 10 ∷ []) ≡ front
off front =
    let last : slice_index (front ++ 10 ∷ []) (length (front ++ 10 ∷ []) - 1) ≡ 10 = ap (slice_index (front ++ 10 ∷ [])) (one_less front) ∙ get_or-append_seam front 10 [] 0 in
    ap (λ b. cond b (take (length (front ++ 10 ∷ []) - 1) (front ++ 10 ∷ [])) (front ++ 10 ∷ [])) (ap (λ c. c == 10) last)
    ∙ ap (λ k. take k (front ++ 10 ∷ [])) (one_less front) ∙ take-append_seam front (10 ∷ [])

pub feed_off : (text front : List ℕ) (e : text ≡ front ++ 10 ∷ []) → front ≡ without_last 10 text
feed_off text front e = sym (ap (without_last 10) e ∙ off front)

not_off : (text : List ℕ) → 0 < length text → text ≢ take (length text - 1) text ++ 10 ∷ [] → text ≡ without_last 10 text
not_off text h none = by (slice_index text (length text - 1) == 10) refl
  where
    by : (b : Bool) → (slice_index text (length text - 1) == 10) ≡ b → text ≡ without_last 10 text
    by true e =
        let last : get_or text (length text - 1) 0 ≡ 10 = eqb-true (get_or text (length text - 1) 0) 10 e in
        let n : length text ≡ (length text - 1) + 1 = omega (arith, h) in
        absurd (none (sym (take_all (length text) text (omega arith)) ∙ ap (λ k. take k text) n ∙ take_more text (length text - 1) 0 (omega (arith, h)) ∙ ap (λ c. take (length text - 1) text ++ c ∷ []) last))
    by false e = sym (ap (λ b. cond b (take (length text - 1) text) text) e)

-- where no line feed is at the end, the text stays
pub no_feed_off : (text : List ℕ) → text ≢ take (length text - 1) text ++ 10 ∷ [] → text ≡ without_last 10 text
no_feed_off [] none = refl
no_feed_off (c ∷ more) none = not_off (c ∷ more) (omega arith) none
