-- What raised keepers have kept of the tasks of their resources, one after the other.
use Rattle.std.proofs.Common.{arith, ◌≡◌, ℕ, ◌+◌, List, [], ◌∷◌, ◌++◌, length, refl, ap, sym, subst}
use Rattle.plant.specs.PlantValue.{PlantValue}
use Rattle.keepers.specs.Keepers.{Telling}
use Rattle.node.specs.declared.threads.raised.Raised.{Raised}
use Rattle.node.specs.Steps.Working.{IsOpened, AreOpened, lasts_of}

opened_more : {K : Type 0} (tells : K → Telling) (plant : PlantValue) (resource n : ℕ) (rs : List (Raised K)) (r : Raised K) → n ≡ resource + length rs → AreOpened tells plant resource rs
    → IsOpened tells plant n r → AreOpened tells plant resource (rs ++ r ∷ [])
opened_more tells plant resource n [] r at are one = (subst (λ k. IsOpened tells plant k r) (omega (arith, at)) one, tt)
opened_more tells plant resource n (s ∷ rs) r at are one = (are.0, opened_more tells plant (resource + 1) n rs r (omega (arith, at)) are.1 one)

-- one more at the end
pub opened_push : {K : Type 0} (tells : K → Telling) (plant : PlantValue) (rs : List (Raised K)) (r : Raised K) (all : List (Raised K)) (n : ℕ) → n ≡ length rs → all ≡ rs ++ r ∷ [] → AreOpened tells plant 0 rs
    → IsOpened tells plant n r → AreOpened tells plant 0 all
opened_push tells plant rs r all n at is are one = subst (AreOpened tells plant 0) (sym is) (opened_more tells plant 0 n rs r (omega (arith, at)) are one)

-- and the number that its keeper holds
pub lasts_push : {K : Type 0} (last : K → ℕ) (rs : List (Raised K)) (r : Raised K) → lasts_of last (rs ++ r ∷ []) ≡ lasts_of last rs ++ last r.keeper ∷ []
lasts_push last [] r = refl
lasts_push last (s ∷ rs) r = ap (λ (l : List ℕ). last s.keeper ∷ l) (lasts_push last rs r)
