-- Whole lines and torn ones.
use Rattle.std.proofs.Common.{arith, ◌≡◌, ℕ, ◌++◌, ◌∷◌, [], List, length, sym, ap, ◌∙◌}
use Rattle.std.proofs.lemmas.List.{length-append, same_from_push}
use Rattle.audit.specs.Readings.{IsWhole, IsTorn}

pub whole : (line front : List ℕ) (last : ℕ) → line ≡ front ++ (last ∷ []) → last ≡ 59 → IsWhole line front
whole line front last is end = is ∙ ap (λ c. front ++ (c ∷ [])) end

pub torn_empty : (line : List ℕ) → length line ≡ 0 → IsTorn line
torn_empty line none = λ front e. omega (arith, none, ap (λ l. length l) e, length-append front (59 ∷ []))

pub torn_other : (line front : List ℕ) (last : ℕ) → line ≡ front ++ (last ∷ []) → (last ≡ 59 → ⊥) → IsTorn line
torn_other line front last is other = λ begun e. other (same_from_push front begun last 59 (sym is ∙ e)).1
