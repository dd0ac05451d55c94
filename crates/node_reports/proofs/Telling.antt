-- Which faults are told of commands, and of which resources they are.
use Rattle.std.proofs.Common.{◌≡◌, ◌⊎◌, ◌↔◌, inl, inr, ℕ, ◌+◌, ◌-◌, ◌<◌, ◌≤◌, Bool, false, IsTrue, List, length, get_or, All, Contains, Result, Ok, Err, MatchResult, is_ok, refl, ap, sym, ◌∙◌, subst, arith}
use Rattle.std.specs.List.{list_any}
use Rattle.std.specs.List.Sorted.{IsStrictlyIncreasing, IsBinarySearchResult}
use Rattle.std.specs.Ordering.{nat_cmp}
use Rattle.std.proofs.lemmas.Bool.{cases_lt, cases_eq, false≢true, cases_Bool}
use Rattle.std.proofs.lemmas.List.{get_or_default}
use Rattle.std.proofs.lemmas.List.Elements.{All-contains}
use Rattle.std.proofs.lemmas.List.Folds.{list_any_none, list_any_at}
use Rattle.std.proofs.lemmas.List.Kept.{AllPairs-from_increasing}
use Rattle.std.proofs.lemmas.List.Sorted.{searched}
use Rattle.plant.specs.PlantValue.{PlantValue}
use Rattle.node_reports.specs.declared.act.Act.{Act}
use Rattle.node_reports.specs.declared.act.Act.TheVariants.{Restart}
use Rattle.node_reports.specs.declared.command.Command.{Command}
use Rattle.node_reports.specs.declared.journal.Journal.{Journal}
use Rattle.node_reports.specs.declared.cause.Cause.{Cause}
use Rattle.node_reports.specs.declared.cause.Cause.TheVariants.{OutOfTurns, NoSuchTask, NumbersSpent, Memory, Misfit, Keeper, NotSent, Stopped}
use Rattle.node_reports.specs.declared.node_fault.NodeFault.{NodeFault}
use Rattle.node_reports.specs.Commands.{AreForPlant}
use Rattle.node_reports.specs.Reports.{is_restart_of, IsUnobeyed, MayMeet, IsToldOf, AllTold}
use Rattle.node_reports.specs.Steps.Collecting.{AreRestartMarks, IsNoTicket, IsOfTicket, HasMark, AreWithin}

-- where one of a list hasn't what is asked of each, not each has it
pub refuted : {X : Type 0} (P : X → Type 0) (xs : List X) (k : ℕ) (x : X) → k < length xs → x ≡ get_or xs k x → (IsTrue false ↔ P x) → IsTrue false ↔ All P xs
refuted P xs k x lt is other = (λ yes. absurd (false≢true yes), λ all. other.1 (subst P (sym is) (all k x lt)))

-- no element passes a test exactly where it fails at each
pub none_passes : {X : Type 0} (p : X → Bool) (xs : List X) → (list_any p xs ≡ false) ↔ All (λ x. p x ≡ false) xs
none_passes p xs = (
  λ none k d lt. elim (cases_Bool (p (get_or xs k d))) [ inl h ↦ absurd (false≢true (sym none ∙ list_any_at p xs k d lt h)) | inr h ↦ h ],
  λ all. list_any_none p xs all,
)

-- a search in numbers that rise finds one exactly where it is among them
pub found_if_among : (xs : List ℕ) (x : ℕ) (r : Result ℕ ℕ) → IsBinarySearchResult (λ y. nat_cmp y x) xs r → IsStrictlyIncreasing xs → IsTrue (is_ok r) ↔ Contains xs x
found_if_among xs x r is rising = by r (searched xs x r is up)
  where
    up : (i j : ℕ) → i ≤ j → j < length xs → get_or xs i 0 ≤ get_or xs j 0
    up i j le lt = elim (cases_eq i j) [
      | inl same ↦ (let e = ap (λ (n : ℕ). get_or xs n 0) same in omega (arith, e))
      | inr other ↦ (let below = AllPairs-from_increasing xs rising i j 0 (omega arith) lt in omega (arith, below))
    ]

    by : (q : Result ℕ ℕ)
        → MatchResult q (λ i. (i < length xs) × (get_or xs i 0 ≡ x)) (λ i. (i ≤ length xs) × ((k : ℕ) → k < i → get_or xs k 0 < x) × ((k : ℕ) → i ≤ k → k < length xs → x < get_or xs k 0))
        → IsTrue (is_ok q) ↔ Contains xs x
    by (Ok i) found = (λ yes. (i, found.0, get_or_default xs i x 0 found.0 ∙ found.1), λ among. refl)
    by (Err i) found = (λ yes. absurd (false≢true yes), λ among. absurd (apart i found among.0 among.1 (get_or_default xs among.0 0 x among.1 ∙ among.2) (cases_lt among.0 i)))
      where
        apart : (i : ℕ) → (i ≤ length xs) × ((k : ℕ) → k < i → get_or xs k 0 < x) × ((k : ℕ) → i ≤ k → k < length xs → x < get_or xs k 0)
            → (k : ℕ) → k < length xs → get_or xs k 0 ≡ x → (k < i) ⊎ (i ≤ k) → ⊥
        apart i found k lt is (inl before) = let low = found.1 k before in omega (arith, low, is)
        apart i found k lt is (inr behind) = let high = found.2 k behind lt in omega (arith, high, is)

-- a restart isn't obeyed exactly where its place isn't marked
pub unobeyed_if_unmarked : (marks : List Bool) (journals : List Journal) (unanswered : List ℕ) (c : Command) (answer : Bool) → HasMark marks c.ticket → AreRestartMarks journals marks → c.act ≡ Restart
    → (IsTrue answer ↔ (get_or marks (c.ticket - 1) false ≡ false)) → IsTrue answer ↔ IsUnobeyed unanswered journals c
unobeyed_if_unmarked marks journals unanswered c answer has are restart tells = (
  λ yes. subst (IsUnobeyed unanswered journals) (sym is) ((none_passes passes journals).0 (sym mark ∙ tells.0 yes)),
  λ unobeyed. tells.1 (mark ∙ (none_passes passes journals).1 (subst (IsUnobeyed unanswered journals) is unobeyed)),
)
  where
    passes : Journal → Bool
    passes j = list_any (is_restart_of c.ticket) j.steps

    is : c ≡ record { ticket = c.ticket; resource = c.resource; act = Restart }
    is = ap (λ (a : Act). record { ticket = c.ticket; resource = c.resource; act = a }) restart

    mark : get_or marks (c.ticket - 1) false ≡ list_any passes journals
    mark =
        let place : c.ticket - 1 + 1 ≡ c.ticket = (let low = has.0 in omega (arith, low)) in
        subst (λ (n : ℕ). get_or marks (c.ticket - 1) false ≡ list_any (λ (j : Journal). list_any (is_restart_of n) j.steps) journals) place
        (are (c.ticket - 1) (let low = has.0 in let high = has.1 in omega (arith, low, high)))

-- what a command may have met is told as well by what says the same of its being unobeyed
pub may_meet_where : (plant : PlantValue) (c : Command) (A B : Type 0) (cause : Cause) → (A ↔ B) → MayMeet plant c A cause → MayMeet plant c B cause
may_meet_where plant c A B OutOfTurns same meets = tt
may_meet_where plant c A B NoSuchTask same meets = (meets.0, same.0 meets.1)
may_meet_where plant c A B NumbersSpent same meets = (meets.0, same.0 meets.1)
may_meet_where plant c A B Memory same (inl unobeyed) = inl (same.0 unobeyed)
may_meet_where plant c A B Memory same (inr keeps) = inr keeps
may_meet_where plant c A B Misfit same meets = (meets.0, same.0 meets.1)
may_meet_where plant c A B Keeper same (inl restart) = inl (restart.0, same.0 restart.1)
may_meet_where plant c A B Keeper same (inr keeps) = inr (keeps.0, λ unobeyed. keeps.1 (same.1 unobeyed))
may_meet_where plant c A B NotSent same meets = tt
may_meet_where plant c A B Stopped same meets = same.0 meets

-- a fault is told of the command of its ticket, if that is of its resource and may have met its cause
pub told_of_one : (plant : PlantValue) (commands : List Command) (journals : List Journal) (unanswered : List ℕ) (f : NodeFault) (c : Command) (unobeyed answer : Bool)
    → IsOfTicket commands f.ticket c → (IsTrue unobeyed ↔ IsUnobeyed unanswered journals c) → (IsTrue answer ↔ ((c.resource ≡ f.resource) × MayMeet plant c (IsTrue unobeyed) f.cause))
    → IsTrue answer ↔ IsToldOf plant commands journals unanswered f
told_of_one plant commands journals unanswered f c unobeyed answer one obeys meets = (
  λ yes. record {
    command = c;
    listed = one.listed;
    ticket_is = one.ticket_is;
    resource_is = (meets.0 yes).0;
    may_meet = may_meet_where plant c (IsTrue unobeyed) (IsUnobeyed unanswered journals c) f.cause obeys (meets.0 yes).1;
  },
  λ told.
      let same : told.command ≡ c = one.only told.command told.listed told.ticket_is in
      meets.1 (
        ap (λ (d : Command). d.resource) (sym same) ∙ told.resource_is,
        may_meet_where plant c (IsUnobeyed unanswered journals c) (IsTrue unobeyed) f.cause (obeys.1, obeys.0)
            (subst (λ (d : Command). MayMeet plant d (IsUnobeyed unanswered journals d) f.cause) same told.may_meet),
      ),
)

-- and of none where no command has its ticket
pub told_of_none : (plant : PlantValue) (commands : List Command) (journals : List Journal) (unanswered : List ℕ) (f : NodeFault) → IsNoTicket commands f.ticket
    → IsToldOf plant commands journals unanswered f → ⊥
told_of_none plant commands journals unanswered f none told = none told.command told.listed told.ticket_is

-- faults that are told are of resources of the plant
pub within_told : (plant : PlantValue) (commands : List Command) (journals : List Journal) (unanswered : List ℕ) (faults : List NodeFault) → AreForPlant plant commands
    → AllTold plant commands journals unanswered faults → AreWithin (length plant.resources) faults
within_told plant commands journals unanswered faults for_plant told = λ k d lt.
    let own = told k d lt in
    let here = All-contains (λ (c : Command). c.resource < length plant.resources) commands own.command for_plant own.listed in
    subst (λ (r : ℕ). r < length plant.resources) own.resource_is here
