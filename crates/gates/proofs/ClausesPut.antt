-- Clauses that are put down.
use Rattle.std.proofs.Common.{◌≡◌, ◌||◌, ℕ, Bool, true, false, List, [], ◌∷◌, Result, Ok, Err, OnOk, ap, ◌∙◌}
use Rattle.std.specs.Global.{Vec}
use Rattle.clauses.specs.declared.literal.Literal.{Literal}
use Rattle.clauses.specs.Clauses.{AreTrue, clause_value, literal_value}

-- what is put down behind other clauses
pub put_behind : {T E : Type 0} (old mid new : List (Vec Literal)) (A B : (ℕ → Bool) → Type 0)
    → ((v : ℕ → Bool) → A v → AreTrue v old → B v × AreTrue v mid) → (r : Result T E)
    → OnOk r ((v : ℕ → Bool) → B v → AreTrue v mid → AreTrue v new)
    → OnOk r ((v : ℕ → Bool) → A v → AreTrue v old → AreTrue v new)
put_behind old mid new A B before (Ok u) put = λ v a all. let now = before v a all in put v now.0 now.1
put_behind old mid new A B before (Err e) put = tt

-- clauses of one, two and three literals
pub one_true : (v : ℕ → Bool) (a : Literal) (x : Bool) (clause : List Literal) → clause ≡ a ∷ [] → literal_value v a ≡ x
    → (x || false) ≡ true → clause_value v clause ≡ true
one_true v a x clause e p h = ap (clause_value v) e ∙ ap (λ y. y || false) p ∙ h

pub two_true : (v : ℕ → Bool) (a b : Literal) (x y : Bool) (clause : List Literal) → clause ≡ a ∷ b ∷ [] → literal_value v a ≡ x
    → literal_value v b ≡ y → (x || (y || false)) ≡ true → clause_value v clause ≡ true
two_true v a b x y clause e p q h =
    ap (clause_value v) e ∙ ap (λ z. z || (literal_value v b || false)) p ∙ ap (λ z. x || (z || false)) q ∙ h

pub three_true : (v : ℕ → Bool) (a b c : Literal) (x y z : Bool) (clause : List Literal) → clause ≡ a ∷ b ∷ c ∷ []
    → literal_value v a ≡ x → literal_value v b ≡ y → literal_value v c ≡ z → (x || (y || (z || false))) ≡ true
    → clause_value v clause ≡ true
three_true v a b c x y z clause e p q r h =
    ap (clause_value v) e ∙ ap (λ w. w || (literal_value v b || (literal_value v c || false))) p
    ∙ ap (λ w. x || (w || (literal_value v c || false))) q ∙ ap (λ w. x || (y || (w || false))) r ∙ h
