-- Values of variables that agree with what is known.
use Rattle.std.proofs.Common.{◌≡◌, ℕ, zero, suc, ◌<◌, ◌||◌, ◌⊎◌, Bool, true, false, not, if◌then◌else◌, List, [], ◌∷◌, Option, Some, None, All, length, get_or, set, refl, subst, arith, ⊎_elim, inl, inr}
use Rattle.std.proofs.lemmas.List.Elements.{All-head, All-tail}
use Rattle.clauses.specs.declared.literal.Literal.{Literal}
use Rattle.clauses.specs.Clauses.{clause_value, literal_value}
use Rattle.clauses.specs.Steps.Assignments.{AreAgreed, AreUnknown, value_in}
use Rattle.clauses.specs.Steps.Readings.{AreFalseBut, IsFalse}

none_known : (values : List (Option Bool)) (k : ℕ) → AreUnknown values → value_in values k ≡ None
none_known [] k h = refl
none_known (o ∷ values) zero h = All-head (λ (p : Option Bool). p ≡ None) o values h
none_known (o ∷ values) (suc k) h = none_known values k (All-tail (λ (p : Option Bool). p ≡ None) o values h)

-- all values agree with nothing
pub agreed_unknown : (v : ℕ → Bool) (values : List (Option Bool)) → AreUnknown values → AreAgreed v values
agreed_unknown v values h k b e = let none = none_known values k h in absurd (cc)

value_in_set : (values : List (Option Bool)) (k j : ℕ) (b c : Bool) → value_in (set values k (Some b)) j ≡ Some c
    → ((j ≡ k) × (b ≡ c)) ⊎ (value_in values j ≡ Some c)
value_in_set [] k j b c at = inr at
value_in_set (o ∷ values) zero zero b c at = inl (refl, cc)
value_in_set (o ∷ values) zero (suc j) b c at = inr at
value_in_set (o ∷ values) (suc k) zero b c at = inr at
value_in_set (o ∷ values) (suc k) (suc j) b c at =
    ⊎_elim (λ (e, f). inl (cc, f)) (λ old. inr old) (value_in_set values k j b c at)

-- what is TRUE of the variables may be noted
pub agreed_set : (v : ℕ → Bool) (values : List (Option Bool)) (k : ℕ) (b : Bool) → v k ≡ b → AreAgreed v values
    → AreAgreed v (set values k (Some b))
agreed_set v values k b e h j c at = ⊎_elim (λ (same, is). cc) (λ old. h j c old) (value_in_set values k j b c at)

negated_false : (n w : Bool) → (if n then not w else w) ≡ false → w ≡ n
negated_false true true h = refl
negated_false true false h = absurd (cc)
negated_false false true h = absurd (cc)
negated_false false false h = refl

negated_true : (n w : Bool) → (if n then not w else w) ≡ true → w ≡ not n
negated_true true true h = absurd (cc)
negated_true true false h = refl
negated_true false true h = refl
negated_true false false h = absurd (cc)

false_where : (n w : Bool) → w ≡ n → (if n then not w else w) ≡ false
false_where true true h = refl
false_where true false h = absurd (cc)
false_where false true h = absurd (cc)
false_where false false h = refl

neither : (a b : Bool) → (a || b) ≡ false → (a ≡ false) × (b ≡ false)
neither true b h = absurd (cc)
neither false b h = (refl, h)

both_false : (a b : Bool) → a ≡ false → b ≡ false → (a || b) ≡ false
both_false true b e f = absurd (cc)
both_false false b e f = f

either_true : (a b : Bool) → (a || b) ≡ true → (a ≡ true) ⊎ (b ≡ true)
either_true true b h = inl refl
either_true false b h = inr h

-- a literal that is FALSE tells its variable
pub variable_of_false : (v : ℕ → Bool) (l : Literal) → literal_value v l ≡ false → v l.variable ≡ l.is_negated
variable_of_false v l h = negated_false l.is_negated (v l.variable) h

-- and one that is TRUE
pub variable_of_true : (v : ℕ → Bool) (l : Literal) → literal_value v l ≡ true → v l.variable ≡ not l.is_negated
variable_of_true v l h = negated_true l.is_negated (v l.variable) h

-- each literal of a clause that is FALSE is FALSE
pub false_in : (v : ℕ → Bool) (clause : List Literal) (k : ℕ) (d : Literal) → k < length clause
    → clause_value v clause ≡ false → literal_value v (get_or clause k d) ≡ false
false_in v [] k d lt h = absurd (omega arith)
false_in v (l ∷ clause) zero d lt h = (neither (literal_value v l) (clause_value v clause) h).0
false_in v (l ∷ clause) (suc k) d lt h =
    false_in v clause k d (omega arith) (neither (literal_value v l) (clause_value v clause) h).1

-- a literal that is known to be FALSE is FALSE
pub known_false : (v : ℕ → Bool) (values : List (Option Bool)) (l : Literal) → AreAgreed v values → IsFalse values l
    → literal_value v l ≡ false
known_false v values l h f = false_where l.is_negated (v l.variable) (h l.variable l.is_negated f)

-- a clause of literals that are known to be FALSE is FALSE
pub conflict_false : (v : ℕ → Bool) (values : List (Option Bool)) (clause : List Literal) → AreAgreed v values
    → All (IsFalse values) clause → clause_value v clause ≡ false
conflict_false v values [] h all = refl
conflict_false v values (l ∷ clause) h all =
    both_false (literal_value v l) (clause_value v clause)
    (known_false v values l h (All-head (IsFalse values) l clause all))
    (conflict_false v values clause h (All-tail (IsFalse values) l clause all))

-- where all others are known to be FALSE, the one literal is TRUE
pub unit_true : (v : ℕ → Bool) (values : List (Option Bool)) (clause : List Literal) (unit : Literal)
    → AreAgreed v values → AreFalseBut values clause unit → clause_value v clause ≡ true → literal_value v unit ≡ true
unit_true v values [] unit h all e = absurd (cc)
unit_true v values (l ∷ clause) unit h all e =
    let IsSuch : Literal → Type 0 = λ (m : Literal). IsFalse values m ⊎ (m ≡ unit) in
    ⊎_elim
    (λ here. ⊎_elim
    (λ f. let no : literal_value v l ≡ false = known_false v values l h f in absurd (cc))
    (λ same. subst (λ (m : Literal). literal_value v m ≡ true) same here)
    (All-head IsSuch l clause all))
    (λ behind. unit_true v values clause unit h (All-tail IsSuch l clause all) behind)
    (either_true (literal_value v l) (clause_value v clause) e)
