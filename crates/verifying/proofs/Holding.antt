-- Whether one value is given.
use Rattle.std.proofs.Common.{◌≡◌, List, [], ◌∷◌, Option, length, slice_get, refl, sym, ap, subst, arith}
use Rattle.std.specs.Prelude.{MatchOption}
use Rattle.std_blocks.specs.declared.value.Value.{Value}

-- the first of values is all of them, where there is one
pub one_found : (values : List Value) (found : Option Value) → length values ≡ 1 → found ≡ slice_get values 0
    → MatchOption found ((value : Value) → values ≡ value ∷ [] → ⊥) (λ value. values ≡ value ∷ [])
one_found [] found one is = absurd (omega arith)
one_found (v ∷ []) found one is = subst (λ f. MatchOption f ((value : Value) → v ∷ [] ≡ value ∷ [] → ⊥) (λ value. v ∷ [] ≡ value ∷ [])) (sym is) refl
one_found (v ∷ w ∷ values) found one is = absurd (omega arith)

pub none_found : (values : List Value) → (length values ≡ 1 → ⊥) → (value : Value) → values ≡ value ∷ [] → ⊥
none_found values many value is = many (ap length is)
