-- The tickets of some of the commands that are numbered rise.
use Rattle.std.proofs.Common.{◌≡◌, ℕ, zero, suc, ◌+◌, ◌<◌, Bool, true, false, cond, List, [], ◌∷◌, length, map, filter, get_or, All, Some, slice_get, refl, subst, arith}
use Rattle.std.specs.List.Sorted.{IsStrictlyIncreasing}
use Rattle.std.proofs.lemmas.List.Elements.{All-nil, All-cons, All-weaker}
use Rattle.evaluation.specs.Meaning.{Evaluated}
use Rattle.node_reports.specs.declared.command.Command.{Command}
use Rattle.node_reports.specs.Commands.{AreNumbered}
use Rattle.node_reports.specs.Reports.{is_unanswered, unanswered_of}

-- one number below those that rise
rise_cons : (x : ℕ) (xs : List ℕ) → All (λ y. x < y) xs → IsStrictlyIncreasing xs → IsStrictlyIncreasing (x ∷ xs)
rise_cons x xs above rising = by where
  by : (k : ℕ) → k + 1 < length (x ∷ xs) → get_or (x ∷ xs) k 0 < get_or (x ∷ xs) (k + 1) 0
  by zero lt = above 0 0 (let short : 1 < suc (length xs) = lt in omega arith)
  by (suc k) lt =
      let short : suc k + 1 < suc (length xs) = lt in
      let place : suc (k + 1) ≡ suc k + 1 = omega arith in
      subst (λ (n : ℕ). get_or xs k 0 < get_or (x ∷ xs) n 0) place (rising k (omega arith))

-- the tickets of commands that are numbered from a number on rise, and are above it; and so are those of some of them
some_rise : (xs : List Evaluated) (n : ℕ) (cs : List Command) → ((k : ℕ) (c : Command) → slice_get cs k ≡ Some c → c.ticket ≡ n + k + 1)
    → IsStrictlyIncreasing (unanswered_of cs xs) × All (λ (t : ℕ). n < t) (unanswered_of cs xs)
some_rise xs n [] numbered = (λ k lt. absurd (omega arith), All-nil (λ (t : ℕ). n < t))
some_rise xs n (c ∷ cs) numbered =
    by (is_unanswered xs c) (some_rise xs (n + 1) cs (λ k d at. let own = numbered (suc k) d at in omega (arith, own)))
  where
    own : c.ticket ≡ n + 1
    own = let is = numbered 0 c refl in omega (arith, is)

    by : (b : Bool) → IsStrictlyIncreasing (unanswered_of cs xs) × All (λ (t : ℕ). n + 1 < t) (unanswered_of cs xs)
        → IsStrictlyIncreasing (map (λ (d : Command). d.ticket) (cond b (c ∷ filter (is_unanswered xs) cs) (filter (is_unanswered xs) cs)))
        × All (λ (t : ℕ). n < t) (map (λ (d : Command). d.ticket) (cond b (c ∷ filter (is_unanswered xs) cs) (filter (is_unanswered xs) cs)))
    by true rest = (
      rise_cons c.ticket (unanswered_of cs xs) (All-weaker (λ (t : ℕ). n + 1 < t) (λ (t : ℕ). c.ticket < t) (λ t lt. omega (arith, own, lt)) (unanswered_of cs xs) rest.1) rest.0,
      All-cons (λ (t : ℕ). n < t) c.ticket (unanswered_of cs xs) (omega (arith, own)) (All-weaker (λ (t : ℕ). n + 1 < t) (λ (t : ℕ). n < t) (λ t lt. omega (arith, lt)) (unanswered_of cs xs) rest.1),
    )
    by false rest = (rest.0, All-weaker (λ (t : ℕ). n + 1 < t) (λ (t : ℕ). n < t) (λ t lt. omega (arith, lt)) (unanswered_of cs xs) rest.1)

pub unanswered_rise : (cs : List Command) (xs : List Evaluated) → AreNumbered cs → IsStrictlyIncreasing (unanswered_of cs xs)
unanswered_rise cs xs numbered = (some_rise xs 0 cs (λ k c at. let own = numbered k c at in omega (arith, own))).0
