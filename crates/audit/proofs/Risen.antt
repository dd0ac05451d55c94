-- The incarnations in which the resources were put, with one more.
use Rattle.std.proofs.Common.{arith, ◌≡◌, ◌∙◌, ℕ, ◌<◌, ◌++◌, List, [], ◌∷◌, zero, suc, length, map, get_or, set, slice_set, ap}
use Rattle.std.specs.Prelude.{slice_index_or}
use Rattle.std.specs.Global.{Vec}

-- the lists of vectors
abbrev pub lists_of : List (Vec ℕ) → List (List ℕ)
lists_of vs = map (λ (v : Vec ℕ). v.items) vs

pub risen_more : (vs : List (Vec ℕ)) (r i : ℕ) (old new : Vec ℕ) → r < length vs → old ≡ get_or vs r old → new.items ≡ old.items ++ i ∷ [] → lists_of (set vs r new) ≡ slice_set (lists_of vs) r (slice_index_or (lists_of vs) r [] ++ i ∷ [])
risen_more [] r i old new within is more = absurd (omega (arith, within))
risen_more (v ∷ vs) zero i old new within is more = ap (λ (l : List ℕ). l ∷ lists_of vs) (more ∙ ap (λ (w : Vec ℕ). w.items ++ i ∷ []) is)
risen_more (v ∷ vs) (suc r) i old new within is more = ap (λ (ls : List (List ℕ)). v.items ∷ ls) (risen_more vs r i old new (omega (arith, within)) is more)
