-- What is known in a round.
use Rattle.std.proofs.Common.{◌≡◌, ℕ, ◌<◌, ◌≤◌, Bool, true, false, List, Option, Some, None, cond, set, refl, ap, ◌∙◌, arith, eq-eqb, ne_eqb, replicate, ⊎_elim}
use Rattle.std.proofs.lemmas.List.{map-set}
use Rattle.std.proofs.lemmas.List.Elements.{All-map, All-replicate, All-same, All-weaker}
use Rattle.std.proofs.lemmas.Bool.{cases_lt, false≢true}
use Rattle.clauses.specs.declared.assignment.Assigned.{Assigned}
use Rattle.clauses.specs.Steps.Assignments.{AreOfRounds, AreUnknown, known, known_in}

-- what is assigned in a round is known in it
pub known_now : (round : ℕ) (value : Bool) → known_in round (record { round = round; value = value }) ≡ Some value
known_now round value = ap (λ b. cond b (Some value) None) (eq-eqb round round refl)

-- what was assigned in an earlier round isn't
pub known_past : (round : ℕ) (a : Assigned) → a.round < round → known_in round a ≡ None
known_past round a h = ap (λ b. cond b (Some a.value) None) (ne_eqb a.round round (omega arith))

-- in a later round nothing is known
pub all_past : (round later : ℕ) (entries : List Assigned) → round < later → AreOfRounds round entries
    → AreUnknown (known later entries)
all_past round later entries lt h =
    All-map (λ (o : Option Bool). o ≡ None) (known_in later) entries
    (All-weaker (λ (a : Assigned). a.round ≤ round) (λ (a : Assigned). known_in later a ≡ None)
    (λ a le. known_past later a (omega arith)) entries h)

-- of variables of which all were assigned in an earlier round nothing is known
pub none_of_past : (round variables : ℕ) (a : Assigned) → known_in round a ≡ None → (entries : List Assigned)
    → entries ≡ replicate variables a → AreUnknown (known round entries)
none_of_past round variables a none entries e =
    let IsSuch : Assigned → Type 0 = λ b. known_in round b ≡ None in
    All-map (λ (o : Option Bool). o ≡ None) (known_in round) entries
    (All-same IsSuch entries (replicate variables a) e (All-replicate IsSuch variables a none))

-- an assignment puts its value there
pub assigned_known : (round : ℕ) (entries : List Assigned) (k : ℕ) (value : Bool)
    → known round (set entries k (record { round = round; value = value })) ≡ set (known round entries) k (Some value)
assigned_known round entries k value =
    map-set (known_in round) entries k (record { round = round; value = value })
    ∙ ap (λ o. set (known round entries) k o) (known_now round value)

-- what isn't below the end is past it
pub past_end : (k n m : ℕ) → n ≡ m → (k < n → false ≡ true) → m ≤ k
past_end k n m e h = ⊎_elim (λ lt. absurd (false≢true (h lt))) (λ le. omega arith) (cases_lt k n)
