-- What follows from clauses.
use Rattle.std.proofs.Common.{◌≡◌, ℕ, ◌<◌, Bool, true, false, not, List, [], Option, Some, All, Any, Contains, length, get_or, set, map, ap, sym, ◌∙◌, arith, take, subst, ◌+◌}
use Rattle.std.proofs.lemmas.List.{get_or-map, length-map}
use Rattle.std.proofs.lemmas.List.Elements.{All-append, All-contains, All-get_or, All-map, All-more, All-weaker, Contains-append_right}
use Rattle.std.proofs.lemmas.Bool.{true_from_ne_false}
use Rattle.std.specs.Global.{Vec}
use Rattle.clauses.specs.declared.literal.Literal.{Literal}
use Rattle.clauses.specs.declared.step.Step.{Step}
use Rattle.clauses.specs.Clauses.{AreFollowing, AreTrue, FollowsFrom, IsUnsatisfiable, clause_value, literal_value}
use Rattle.clauses.specs.Steps.Assignments.{AreAgreed}
use Rattle.clauses.specs.Steps.Following.{clauses_of}
use Rattle.clauses.specs.Steps.Readings.{AreFalseBut, IsFalse, IsKnownTrue}
use Rattle.clauses.proofs.Agreeing.{agreed_set, conflict_false, false_in, unit_true, variable_of_false, variable_of_true}

-- the clause of a step is among the clauses
pub contains_clause : (formula : List (Vec Literal)) (steps : List Step) (k : ℕ) (s : Step) → k < length steps
    → get_or steps k s ≡ s → Contains (clauses_of formula steps) s.clause
contains_clause formula steps k s lt e =
    let clause : Step → Vec Literal = λ t. t.clause in
    let within : k < length (map clause steps) = omega (arith, length-map steps clause) in
    Contains-append_right formula (map clause steps) s.clause
    (k, within, get_or-map clause steps k s s.clause lt ∙ ap clause e)

-- a clause of which each literal is known to be FALSE isn't among clauses that are TRUE
pub conflict_ends : (v : ℕ → Bool) (values : List (Option Bool)) (clauses : List (Vec Literal)) (clause : Vec Literal)
    → Contains clauses clause → All (IsFalse values) clause.items → AreTrue v clauses → AreAgreed v values → ⊥
conflict_ends v values clauses clause among all trues agreed =
    let is = All-contains (λ (c : Vec Literal). clause_value v c.items ≡ true) clauses clause trues among in
    let isnt = conflict_false v values clause.items agreed all in
    absurd (cc)

-- the literal that a clause leaves may be noted as TRUE
pub unit_agreed : (v : ℕ → Bool) (values : List (Option Bool)) (clauses : List (Vec Literal)) (clause : Vec Literal) (unit : Literal)
    → Contains clauses clause → AreFalseBut values clause.items unit → AreTrue v clauses → AreAgreed v values
    → AreAgreed v (set values unit.variable (Some (not unit.is_negated)))
unit_agreed v values clauses clause unit among all trues agreed =
    let is = All-contains (λ (c : Vec Literal). clause_value v c.items ≡ true) clauses clause trues among in
    agreed_set v values unit.variable (not unit.is_negated)
    (variable_of_true v unit (unit_true v values clause.items unit agreed all is)) agreed

-- what can't be FALSE is TRUE
pub true_unless : (v : ℕ → Bool) (clause : List Literal) → (clause_value v clause ≡ false → ⊥) → clause_value v clause ≡ true
true_unless v clause h = true_from_ne_false (clause_value v clause) h

-- where the clauses of steps follow, what follows from them too follows from the formula
pub follows_through : (formula : List (Vec Literal)) (before : List Step) (clause : List Literal) → AreFollowing formula before
    → FollowsFrom (clauses_of formula before) clause → FollowsFrom formula clause
follows_through formula before clause all h v trues =
    let value : Vec Literal → Type 0 = λ c. clause_value v c.items ≡ true in
    h v (All-append value formula (map (λ (s : Step). s.clause) before) trues
    (All-map value (λ (s : Step). s.clause) before
    (All-weaker (λ (s : Step). FollowsFrom formula s.clause.items) (λ (s : Step). value s.clause) (λ s f. f v trues) before all)))

-- one step on
pub following_more : (formula : List (Vec Literal)) (steps : List Step) (i : ℕ) (s : Step) (before : List Step)
    → before ≡ take i steps → i < length steps → s ≡ get_or steps i s → AreFollowing formula (take i steps)
    → FollowsFrom (clauses_of formula before) s.clause.items → AreFollowing formula (take (i + 1) steps)
following_more formula steps i s before e lt is all h =
    let Follows : Step → Type 0 = λ t. FollowsFrom formula t.clause.items in
    let h' : FollowsFrom (clauses_of formula (take i steps)) s.clause.items =
    subst (λ (b : List Step). FollowsFrom (clauses_of formula b) s.clause.items) e h in
    All-more Follows steps i s lt all
    (subst Follows is (follows_through formula (take i steps) s.clause.items all h'))

-- where the clause of a step that follows has no literal, no values make the formula TRUE
pub refuted : (formula : List (Vec Literal)) (steps : List Step) (k : ℕ) (s : Step) → k < length steps → get_or steps k s ≡ s
    → s.clause.items ≡ [] → AreFollowing formula steps → IsUnsatisfiable formula
refuted formula steps k s lt is empty all = λ v trues.
    let follows : FollowsFrom formula s.clause.items =
    subst (λ (t : Step). FollowsFrom formula t.clause.items) is
    (All-get_or (λ (t : Step). FollowsFrom formula t.clause.items) steps k s lt all) in
    let no : false ≡ true = subst (λ (clause : List Literal). clause_value v clause ≡ true) empty (follows v trues) in
    absurd (cc)

-- no values that agree with what is known make a clause FALSE of which a literal is known to be TRUE
pub never_false : (v : ℕ → Bool) (values : List (Option Bool)) (clause : List Literal) → Any (IsKnownTrue values) clause
    → AreAgreed v values → clause_value v clause ≡ false → ⊥
never_false v values clause any agreed falses =
    let l = any.1 in
    let here : v l.variable ≡ not l.is_negated = agreed l.variable (not l.is_negated) any.4 in
    let reads : literal_value v l ≡ false =
    subst (λ (m : Literal). literal_value v m ≡ false) any.3 (false_in v clause any.0 l any.2 falses) in
    let there : v l.variable ≡ l.is_negated = variable_of_false v l reads in
    not_both l.is_negated (sym there ∙ here)
  where
    not_both : (b : Bool) → b ≡ not b → ⊥
    not_both true e = absurd (cc)
    not_both false e = absurd (cc)
