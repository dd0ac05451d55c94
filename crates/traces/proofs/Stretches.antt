-- Stretches of one value follow one another.
use Rattle.std.proofs.Common.{◌≡◌, ℕ, zero, suc, ◌+◌, ◌<◌, ◌≤◌, ◌++◌, List, [], ◌∷◌, length, drop, get_or, refl, sym, ap, ap₂, ◌∙◌, append_assoc, add-one, arith}
use Rattle.std_blocks.specs.declared.value.Value.{Value}
use Rattle.traces.specs.declared.segments.Segment.{Segment}
use Rattle.traces.specs.Segments.{ended, segment, segments_from, start}

next_suc : (from to : ℕ) (value : Value) (rest : List Value) (i : ℕ) (d : Value) → i < length rest
    → segments_from from value to (drop i rest) ≡ ended from to value (get_or rest i d) ++ segments_from (start from to value (get_or rest i d)) (get_or rest i d) (to + 1) (drop (suc i) rest)
next_suc from to value [] i d lt = absurd (omega (arith, lt))
next_suc from to value (x ∷ rest) zero d lt = refl
next_suc from to value (x ∷ rest) (suc i) d lt = next_suc from to value rest i d (omega (arith, lt))

past : (rest : List Value) (i : ℕ) → length rest ≤ i → drop i rest ≡ []
past [] zero long = refl
past [] (suc i) long = refl
past (x ∷ rest) zero long = absurd (omega (arith, long))
past (x ∷ rest) (suc i) long = past rest i (omega (arith, long))

-- one value more
pub stretch_more : (segs segs' all : List Segment) (from to from' to' : ℕ) (value x d : Value) (rest : List Value) (i : ℕ) → i < length rest → x ≡ get_or rest i d → segs ++ segments_from from value to (drop i rest) ≡ all
    → segs' ≡ segs ++ ended from to value x → from' ≡ start from to value x → to' ≡ to + 1 → segs' ++ segments_from from' x to' (drop (i + 1) rest) ≡ all
stretch_more segs segs' all from to from' to' value x d rest i lt is so_far more begins one =
    let left = segments_from (start from to value x) x (to + 1) (drop (suc i) rest) in
    let next : segments_from from value to (drop i rest) ≡ ended from to value x ++ left =
    next_suc from to value rest i d lt ∙ ap (λ y. ended from to value y ++ segments_from (start from to value y) y (to + 1) (drop (suc i) rest)) (sym is) in
    rw (add-one i) (ap₂ (λ f t. segs' ++ segments_from f x t (drop (suc i) rest)) begins one ∙ ap (λ l. l ++ left) more ∙ append_assoc segs (ended from to value x) left
    ∙ ap (λ l. segs ++ l) (sym next) ∙ so_far)

-- the last one
pub stretch_last : (segs segs' all : List Segment) (from to : ℕ) (value : Value) (rest : List Value) (i : ℕ) → length rest ≤ i → segs ++ segments_from from value to (drop i rest) ≡ all
    → segs' ≡ segs ++ segment from to value ∷ [] → segs' ≡ all
stretch_last segs segs' all from to value rest i long so_far more =
    more ∙ sym (ap (λ l. segs ++ segments_from from value to l) (past rest i long)) ∙ so_far
