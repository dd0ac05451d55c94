-- Steps of equations.
use Rattle.std.proofs.Common.{◌≡◌, ℕ, Bool, true, false, ◌||◌, cond, refl, ap, ◌∙◌}

-- the same output and the same time
pub same_both : {X : Type 0} (f : Bool → ℕ → X) (a b : Bool) (m n : ℕ) → a ≡ b → m ≡ n → f a m ≡ f b n
same_both f a b m n e h = ap (λ t. f t m) e ∙ ap (f b) h

pub or_is : (a b : Bool) → (a || b) ≡ cond a true b
or_is true b = refl
or_is false b = refl
