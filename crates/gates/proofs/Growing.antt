-- Gates that are added to.
use Rattle.std.proofs.Common.{◌≡◌, ℕ, zero, suc, Bool, true, false, cond, List, [], ◌∷◌, ◌++◌, Some, subst, sym}
use Rattle.std.specs.Prelude.{slice_get}
use Rattle.gates.specs.declared.gates.Gate.{Gate}
use Rattle.gates.specs.Gates.{Agrees}

-- what is pushed changes nothing before it
get_left : (gates : List Gate) (m : Gate) (k : ℕ) (g : Gate) → slice_get gates k ≡ Some g → slice_get (gates ++ m ∷ []) k ≡ Some g
get_left [] m k g at = absurd (cc)
get_left (l ∷ gates) m zero g at = at
get_left (l ∷ gates) m (suc k) g at = get_left gates m k g at

get_if : (b : Bool) (gates : List Gate) (m : Gate) (k : ℕ) (g : Gate) → slice_get gates k ≡ Some g
    → slice_get (cond b gates (gates ++ m ∷ [])) k ≡ Some g
get_if true gates m k g at = at
get_if false gates m k g at = get_left gates m k g at

-- a gate that is put leaves the others where they are, so what agrees with the gates now agreed with those before
pub agrees_put : (b : Bool) (gates new : List Gate) (m : Gate) → new ≡ cond b gates (gates ++ m ∷ []) → (v : ℕ → Bool)
    → Agrees v new → Agrees v gates
agrees_put b gates new m e v agrees k g at =
    agrees k g (subst (λ (gs : List Gate). slice_get gs k ≡ Some g) (sym e) (get_if b gates m k g at))
