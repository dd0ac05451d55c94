-- What a clause tells, one literal on.
use Rattle.std.proofs.Common.{◌≡◌, ℕ, ◌+◌, ◌<◌, ◌⊎◌, Bool, List, Option, All, length, get_or, take, refl, subst, inl, inr}
use Rattle.std.proofs.lemmas.List.Elements.{All-more, All-weaker}
use Rattle.clauses.specs.declared.literal.Literal.{Literal}
use Rattle.clauses.specs.declared.reading.Reading.{Reading}
use Rattle.clauses.specs.declared.reading.Reading.TheVariants.{Conflict, Unit, Open}
use Rattle.clauses.specs.Steps.Readings.{AreFalseBut, IsFalse, IsReading}

-- a literal that is FALSE changes nothing
pub false_more : (values : List (Option Bool)) (clause : List Literal) (i : ℕ) (d : Literal) (reading : Reading) → i < length clause
    → IsFalse values (get_or clause i d) → IsReading values (take i clause) reading → IsReading values (take (i + 1) clause) reading
false_more values clause i d Conflict lt here h = All-more (IsFalse values) clause i d lt h here
false_more values clause i d (Unit unit) lt here h = All-more (λ l. IsFalse values l ⊎ (l ≡ unit)) clause i d lt h (inl here)
false_more values clause i d Open lt here h = h

-- the first literal that isn't FALSE is the one that is left
pub unit_more : (values : List (Option Bool)) (clause : List Literal) (i : ℕ) (d : Literal) (reading : Reading) → i < length clause
    → reading ≡ Conflict → IsReading values (take i clause) reading → AreFalseBut values (take (i + 1) clause) (get_or clause i d)
unit_more values clause i d reading lt e h =
    let falses : All (IsFalse values) (take i clause) = subst (IsReading values (take i clause)) e h in
    let unit : Literal = get_or clause i d in
    All-more (λ l. IsFalse values l ⊎ (l ≡ unit)) clause i d lt
    (All-weaker (IsFalse values) (λ l. IsFalse values l ⊎ (l ≡ unit)) (λ l f. inl f) (take i clause) falses) (inr refl)
