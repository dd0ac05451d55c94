use Rattle.std.proofs.Common.{◌≡◌, ℕ, Bool, true, false, Decides, List, refl, ap, subst, sym, ◌∙◌}
use Rattle.std.proofs.lemmas.Bool.{and_from, and_parts, eq-eqb, eqb-true, false≢true}
use Rattle.std.proofs.lemmas.List.Elements.{All-get_or}
use Rattle.std.proofs.lemmas.Slice.Eq.{slice_eq-Decides}
use Rattle.clauses.specs.declared.literal.Literal.{Literal}
use Rattle.clauses.specs.declared.step.Step.{Step}
use Rattle.clauses.specs.contracts.literal.LiteralPartialEq.TheImpl as of_literals
use Rattle.clauses.specs.Clauses.{FollowsFrom}
use Rattle.transition_systems.proofs.obligations.is_shown.Goals as goal

abbrev literal_of : ℕ → Bool → Literal
literal_of n b = record { variable = n; is_negated = b }

-- literals that compare as equal are the same
same_of : (n m : ℕ) (a b : Bool) → (of_literals.eq-value).it (literal_of n a) (literal_of m b) ≡ true → literal_of n a ≡ literal_of m b
same_of n m true true e = ap (λ k. literal_of k true) (eqb-true n m (and_parts _ _ e).0)
same_of n m true false e = absurd (false≢true (and_parts _ _ e).1)
same_of n m false true e = absurd (false≢true (and_parts _ _ e).1)
same_of n m false false e = ap (λ k. literal_of k false) (eqb-true n m (and_parts _ _ e).0)

itself_of : (n : ℕ) (a : Bool) → (of_literals.eq-value).it (literal_of n a) (literal_of n a) ≡ true
itself_of n true = and_from _ _ (eq-eqb n n refl) refl
itself_of n false = and_from _ _ (eq-eqb n n refl) refl

literal_decides : (l m : Literal) → Decides ((of_literals.eq-value).it l m) (l ≡ m)
literal_decides l m = (
  λ e. same_of l.variable m.variable l.is_negated m.is_negated e,
  λ e. subst (λ (k : Literal). (of_literals.eq-value).it l k ≡ true) e (itself_of l.variable l.is_negated),
)

pub returns : goal.returns
returns c = λ yes formula following.
    let step = c.in-Some.step.now in
    let at = c.in-Some.ensures.lookup.3 in
    let Follows : Step → Type 0 = λ s. FollowsFrom formula s.clause.items in
    let follows : FollowsFrom formula step.clause.items =
    subst Follows (sym (at.1 step)) (All-get_or Follows c.args.steps.now c.args.number step at.0 following) in
    let same = sym c.as_slice.ensures.value
    ∙ (slice_eq-Decides literal_decides c.as_slice.result.now c.args.clause.now c.eq.result c.eq.ensures).0 yes in
    subst (λ (clause : List Literal). FollowsFrom formula clause) same follows
