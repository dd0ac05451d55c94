-- Inputs that are told one after the other.
use Rattle.std.proofs.Common.{◌≡◌, ℕ, zero, suc, ◌+◌, ◌<◌, List, [], ◌∷◌, length, drop, get_or, refl, ap, subst, ◌∙◌, arith}
use Rattle.evaluation.specs.declared.field_input.FieldInput.{FieldInput}
use Rattle.cycle.specs.Field.{put, told_over}

told_step : (told now : List FieldInput) (k : ℕ) (d : FieldInput) → k < length told → told_over (put now (get_or told k d)) (drop (suc k) told) ≡ told_over now (drop k told)
told_step [] now k d lt = absurd (omega (arith, lt))
told_step (x ∷ more) now zero d lt = refl
told_step (x ∷ more) now (suc k) d lt = told_step more now k d (omega (arith, lt))

-- one more is told
pub told_more : (first now next told : List FieldInput) (k : ℕ) (d : FieldInput) → k < length told → told_over now (drop k told) ≡ told_over first told → next ≡ put now (get_or told k d)
    → told_over next (drop (k + 1) told) ≡ told_over first told
told_more first now next told k d lt was is =
    let e : suc k ≡ k + 1 = omega arith in
    subst (λ (j : ℕ). told_over next (drop j told) ≡ told_over first told) e
    (ap (λ (xs : List FieldInput). told_over xs (drop (suc k) told)) is ∙ told_step told now k d lt ∙ was)
