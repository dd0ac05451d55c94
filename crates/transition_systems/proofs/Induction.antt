-- What is shown of a step, step by step.
use Rattle.std.proofs.Common.{◌≡◌, ℕ, ◌+◌, ◌<◌, ◌≤◌, Bool, List, [], ◌∷◌, length, get_or, ap, subst, sym, ◌∙◌, ⊎_elim, arith}
use Rattle.std.proofs.lemmas.List.{get_or-map}
use Rattle.std.proofs.lemmas.Bool.{cases_lt}
use Rattle.std.specs.Global.{Vec}
use Rattle.clauses.specs.declared.literal.Literal.{Literal}
use Rattle.clauses.specs.declared.step.Step.{Step}
use Rattle.clauses.specs.Clauses.{AreFollowing}
use Rattle.transition_systems.specs.declared.certificate.Certificate.{Certificate}
use Rattle.transition_systems.specs.declared.system.TransitionSystem.{TransitionSystem}
use Rattle.transition_systems.specs.Systems.{NeverBad, NeverBadFrom, bits_at}
use Rattle.transition_systems.specs.Certificates.{AreInductive, HoldOf, LeadTo}
use Rattle.transition_systems.specs.Steps.Depths.{clauses_or, its_clauses}
use Rattle.transition_systems.specs.Steps.Inductive.{AreShown, IsFormula, IsShownFalse}

-- what steps that follow show of a step of the system
pub lead_to : (t : TransitionSystem) (clauses next formula : List (Vec Literal)) (steps : List Step) → IsFormula t clauses formula
    → AreFollowing formula steps → AreShown steps next t.next.items → IsShownFalse steps t.bad → LeadTo t clauses next
lead_to t clauses next formula steps is following kept safe = record {
  safe = λ state row v holds at given.
      safe formula following v (is v at.agree given (subst (HoldOf clauses) (sym at.state_is) holds));
  kept = λ state row v holds at given.
      kept formula following v (is v at.agree given (subst (HoldOf clauses) (sym at.state_is) holds));
}

-- from a state of which inductive clauses hold, none is bad
never_from : (t : TransitionSystem) (clauses : List (Vec Literal)) → LeadTo t clauses clauses
    → (rows : List (List Bool)) (state : List Bool) → HoldOf clauses state → NeverBadFrom t state rows
never_from t clauses ever [] state holds = tt
never_from t clauses ever (row ∷ rows) state holds = λ v at given. (
  ever.safe state row v holds at given,
  never_from t clauses ever rows (bits_at v t.next.items) (ever.kept state row v holds at given),
)

-- a system with inductive clauses is never bad
pub never_bad : (t : TransitionSystem) (clauses : List (Vec Literal)) → AreInductive t clauses → NeverBad t
never_bad t clauses are = λ rows. never_from t clauses are.ever rows t.first.items are.at_first

-- from a state of which the clauses of a depth hold, none is bad under as many rows as there are depths from it on
pub never_within : (t : TransitionSystem) (depths : List Certificate) (none : List (Vec Literal))
    → ((k : ℕ) → k < length depths → LeadTo t (clauses_or depths k none) (clauses_or depths (k + 1) none))
    → (rows : List (List Bool)) (k : ℕ) (state : List Bool) → k + length rows ≤ length depths → HoldOf (clauses_or depths k none) state
    → NeverBadFrom t state rows
never_within t depths none lead [] k state le holds = tt
never_within t depths none lead (row ∷ rows) k state le holds = λ v at given.
    let step = lead k (omega arith) in (
      step.safe state row v holds at given,
      never_within t depths none lead rows (k + 1) (bits_at v t.next.items) (omega arith) (step.kept state row v holds at given),
    )

-- a depth more leads to the next one
pub depths_more : (t : TransitionSystem) (depths : List Certificate) (none next : List (Vec Literal)) (number : ℕ) (depth : Certificate)
    → number < length depths → depth ≡ get_or depths number depth → next ≡ clauses_or depths (number + 1) none
    → LeadTo t depth.clauses.items next
    → ((k : ℕ) → k < number → LeadTo t (clauses_or depths k none) (clauses_or depths (k + 1) none))
    → (k : ℕ) → k < number + 1 → LeadTo t (clauses_or depths k none) (clauses_or depths (k + 1) none)
depths_more t depths none next number depth lt is e here before k less =
    ⊎_elim
    (λ below. before k below)
    (λ le.
    let same : number ≡ k = omega arith in
    let own : depth.clauses.items ≡ clauses_or depths number none = ap its_clauses is ∙ sym (get_or-map its_clauses depths number depth none lt) in
    subst (λ (n : ℕ). LeadTo t (clauses_or depths n none) (clauses_or depths (n + 1) none)) same
    (subst (λ (clauses : List (Vec Literal)). LeadTo t clauses (clauses_or depths (number + 1) none)) own
    (subst (λ (clauses : List (Vec Literal)). LeadTo t depth.clauses.items clauses) e here)))
    (cases_lt k number)
