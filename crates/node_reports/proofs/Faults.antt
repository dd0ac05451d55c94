-- The faults of a report are the first ones of their tickets.
use Rattle.std.proofs.Common.{◌≡◌, ◌⊎◌, inl, inr, ℕ, zero, suc, ◌+◌, ◌-◌, ◌<◌, ◌≤◌, ◌++◌, Bool, true, false, cond, eqb, List, [], ◌∷◌, length, filter, Contains, get_or, Option, Some, None, IfSome, MatchOption, slice_get, refl, ap, sym, ◌∙◌, subst, arith}
use Rattle.std.specs.List.{find}
use Rattle.std.specs.List.Sorted.{IsNonDecreasingBy, IsPermutation, IsStableBy, ties}
use Rattle.std.specs.Ordering.{is_lt, nat_cmp}
use Rattle.std.proofs.lemmas.Bool.{cases_lt, eq-eqb}
use Rattle.std.proofs.lemmas.Bool.Decides.{nat_tests}
use Rattle.std.proofs.lemmas.List.{map-append}
use Rattle.std.proofs.lemmas.List.Elements.{All-push, All-weaker, Contains-append_left, Contains-push}
use Rattle.std.proofs.lemmas.List.Sorted.{IsPermutation-sym, All-permutation}
use Rattle.std.proofs.lemmas.Option.{slice_get_within, same_Some, get_or_from_slice_get}
use Rattle.lists.proofs.Members.{contains_at}
use Rattle.node_reports.specs.declared.node_fault.NodeFault.{NodeFault}
use Rattle.node_reports.specs.Steps.Collecting.{RiseTo, AreListedUpTo}
use Rattle.node_reports.specs.Reports.{fault_tickets, first_of_ticket, AreByTicket}
use Rattle.node_reports.proofs.Collecting.{rise-more}

-- one more ticket is the last one again, or above it
tickets-push : (listed : List NodeFault) (f : NodeFault) → fault_tickets (listed ++ f ∷ []) ≡ fault_tickets listed ++ f.ticket ∷ []
tickets-push listed f = map-append (λ (g : NodeFault). g.ticket) listed (f ∷ [])

-- the first one that passes a test, if none before it does
find_first : {X : Type 0} (p : X → Bool) (xs : List X) (k : ℕ) (x : X) → slice_get xs k ≡ Some x → p x ≡ true → ((i : ℕ) (y : X) → i < k → slice_get xs i ≡ Some y → p y ≡ false) → find p xs ≡ Some x
find_first p [] k x at passes none = absurd cc
find_first p (y ∷ ys) zero x at passes none =
    let same : y ≡ x = same_Some y x at in
    ap (λ b. cond b (Some y) (find p ys)) (ap p same ∙ passes) ∙ at
find_first p (y ∷ ys) (suc k) x at passes none =
    ap (λ b. cond b (Some y) (find p ys)) (none 0 y (omega arith) refl) ∙ find_first p ys k x at passes (λ i z lt found. none (suc i) z (omega arith) found)

below_last : (last : Option ℕ) (t u : ℕ) → MatchOption last ⊥ (λ before. t ≤ before) → IfSome last (λ before. before < u) → t < u
below_last None t u high above = absurd high
below_last (Some before) t u high above = omega arith

pub list_more : (noted listed : List NodeFault) (last : Option ℕ) (k : ℕ) (f : NodeFault) → IsNonDecreasingBy (λ (g : NodeFault). g.ticket) noted → AreListedUpTo k noted listed last
    → slice_get noted k ≡ Some f → IfSome last (λ before. before < f.ticket) → AreListedUpTo (k + 1) noted (listed ++ f ∷ []) (Some f.ticket)
list_more noted listed last k f sorted are at above = record {
  rise = subst (λ (ts : List ℕ). RiseTo ts (Some f.ticket)) (sym (tickets-push listed f)) (rise-more (fault_tickets listed) last f.ticket are.rise above);
  first = All-push (λ (g : NodeFault). first_of_ticket g.ticket noted ≡ Some g) listed f are.first
      (find_first (λ (g : NodeFault). eqb g.ticket f.ticket) noted k f at (eq-eqb f.ticket f.ticket refl)
      (λ i g lt found. let lower = below_last last g.ticket f.ticket (are.high i g lt found) above in grind (arith, nat_tests)));
  high = λ i g lt found. up_to i g found (cases_lt i k) lt;
  told = λ i g lt found. subst (λ (ts : List ℕ). Contains ts g.ticket) (sym (tickets-push listed f)) (by i g found (cases_lt i k) lt);
  low = λ i g le found.
      let fits = slice_get_within noted i g found in
      let order = sorted k i f (omega arith) fits in
      subst (λ (n : NodeFault). f.ticket ≤ n.ticket) (get_or_from_slice_get noted i g f found) (subst (λ (n : NodeFault). n.ticket ≤ (get_or noted i f).ticket) (get_or_from_slice_get noted k f f at) order);
}
  where
    up_to : (i : ℕ) (g : NodeFault) → slice_get noted i ≡ Some g → (i < k) ⊎ (k ≤ i) → i < k + 1 → g.ticket ≤ f.ticket
    up_to i g found (inl before) lt = let lower = below_last last g.ticket f.ticket (are.high i g before found) above in omega arith
    up_to i g found (inr behind) lt =
        let same_place : i ≡ k = omega arith in
        let same : f ≡ g = same_Some f g (sym at ∙ ap (slice_get noted) (sym same_place) ∙ found) in
        let ticket : f.ticket ≡ g.ticket = ap (λ (n : NodeFault). n.ticket) same in
        omega arith

    by : (i : ℕ) (g : NodeFault) → slice_get noted i ≡ Some g → (i < k) ⊎ (k ≤ i) → i < k + 1 → Contains (fault_tickets listed ++ f.ticket ∷ []) g.ticket
    by i g found (inl before) lt = Contains-append_left (fault_tickets listed) (f.ticket ∷ []) g.ticket (are.told i g before found)
    by i g found (inr behind) lt =
        let same_place : i ≡ k = omega arith in
        let same : f ≡ g = same_Some f g (sym at ∙ ap (slice_get noted) (sym same_place) ∙ found) in
        subst (λ (n : NodeFault). Contains (fault_tickets listed ++ f.ticket ∷ []) n.ticket) same (Contains-push (fault_tickets listed) f.ticket)

-- a fault whose ticket isn't above the last one has the last one's ticket
pub list_same : (noted listed : List NodeFault) (before : ℕ) (k : ℕ) (f : NodeFault) → AreListedUpTo k noted listed (Some before)
    → slice_get noted k ≡ Some f → f.ticket ≤ before → AreListedUpTo (k + 1) noted listed (Some before)
list_same noted listed before k f are at not_above = record {
  rise = are.rise;
  first = are.first;
  high = λ i g lt found. up_to i g found (cases_lt i k) lt;
  told = λ i g lt found. by i g found (cases_lt i k) lt;
  low = λ i g le found. are.low i g (omega arith) found;
}
  where
    up_to : (i : ℕ) (g : NodeFault) → slice_get noted i ≡ Some g → (i < k) ⊎ (k ≤ i) → i < k + 1 → g.ticket ≤ before
    up_to i g found (inl earlier) lt = are.high i g earlier found
    up_to i g found (inr behind) lt =
        let same_place : i ≡ k = omega arith in
        let same : f ≡ g = same_Some f g (sym at ∙ ap (slice_get noted) (sym same_place) ∙ found) in
        let ticket : f.ticket ≡ g.ticket = ap (λ (n : NodeFault). n.ticket) same in
        omega arith

    last_listed : Contains (fault_tickets listed) before
    last_listed = contains_at (fault_tickets listed) (length (fault_tickets listed) - 1) before are.rise.last_is

    by : (i : ℕ) (g : NodeFault) → slice_get noted i ≡ Some g → (i < k) ⊎ (k ≤ i) → i < k + 1 → Contains (fault_tickets listed) g.ticket
    by i g found (inl earlier) lt = are.told i g earlier found
    by i g found (inr behind) lt =
        let same_place : i ≡ k = omega arith in
        let same : f ≡ g = same_Some f g (sym at ∙ ap (slice_get noted) (sym same_place) ∙ found) in
        let not_below = are.low k f (omega arith) at in
        let ticket : before ≡ f.ticket = omega arith in
        subst (Contains (fault_tickets listed)) (ticket ∙ ap (λ (n : NodeFault). n.ticket) same) last_listed

abbrev head_of : {X : Type 0} → List X → Option X
head_of [] = None
head_of (x ∷ xs) = Some x

find_is : {X : Type 0} (p : X → Bool) (xs : List X) → find p xs ≡ head_of (filter p xs)
find_is p [] = refl
find_is p (x ∷ xs) = by (p x) (find_is p xs)
  where
    by : (b : Bool) → find p xs ≡ head_of (filter p xs) → cond b (Some x) (find p xs) ≡ head_of (cond b (x ∷ filter p xs) (filter p xs))
    by true rest = refl
    by false rest = rest

find_same_test : {X : Type 0} (p q : X → Bool) (xs : List X) → ((x : X) → p x ≡ q x) → find p xs ≡ find q xs
find_same_test p q [] same = refl
find_same_test p q (x ∷ xs) same = ap (λ b. cond b (Some x) (find p xs)) (same x) ∙ ap (λ o. cond (q x) (Some x) o) (find_same_test p q xs same)

-- a fault comes before another by its ticket
abbrev before_it : NodeFault → NodeFault → Bool
before_it f g = is_lt (nat_cmp f.ticket g.ticket)

tie_is : (f g : NodeFault) → eqb g.ticket f.ticket ≡ ties before_it f g
tie_is f g = by (cases_lt f.ticket g.ticket) (cases_lt g.ticket f.ticket)
  where
    by : (f.ticket < g.ticket) ⊎ (g.ticket ≤ f.ticket) → (g.ticket < f.ticket) ⊎ (f.ticket ≤ g.ticket) → eqb g.ticket f.ticket ≡ ties before_it f g
    by one other = grind (arith, nat_tests)

-- a sort in which ties keep their order keeps the first one of each ticket
pub first_kept : (noted sorted : List NodeFault) (f : NodeFault) → IsStableBy before_it noted sorted → first_of_ticket f.ticket sorted ≡ first_of_ticket f.ticket noted
first_kept noted sorted f stable =
    find_same_test (λ (g : NodeFault). eqb g.ticket f.ticket) (ties before_it f) sorted (tie_is f)
    ∙ find_is (ties before_it f) sorted
    ∙ ap head_of (stable f)
    ∙ sym (find_is (ties before_it f) noted)
    ∙ sym (find_same_test (λ (g : NodeFault). eqb g.ticket f.ticket) (ties before_it f) noted (tie_is f))

-- the faults noted may stand in any order in which those of one ticket stand as before
pub stable_order : (noted sorted listed : List NodeFault) → IsPermutation noted sorted → IsStableBy before_it noted sorted → AreByTicket sorted listed → AreByTicket noted listed
stable_order noted sorted listed order stable are = record {
  rising = are.rising;
  first = All-weaker (λ (f : NodeFault). first_of_ticket f.ticket sorted ≡ Some f) (λ (f : NodeFault). first_of_ticket f.ticket noted ≡ Some f) (λ f is. sym (first_kept noted sorted f stable) ∙ is) listed are.first;
  told = All-permutation (λ (f : NodeFault). Contains (fault_tickets listed) f.ticket) sorted noted (IsPermutation-sym noted sorted order) are.told;
}

-- a fault whose ticket isn't above the last one adds none
pub list_kept : (noted listed : List NodeFault) (last : Option ℕ) (k : ℕ) (f : NodeFault) → AreListedUpTo k noted listed last
    → slice_get noted k ≡ Some f → (IfSome last (λ before. before < f.ticket) → ⊥) → AreListedUpTo (k + 1) noted listed last
list_kept noted listed None k f are at not_above = absurd (not_above tt)
list_kept noted listed (Some before) k f are at not_above = list_same noted listed before k f are at (by (cases_lt before f.ticket))
  where
    by : (before < f.ticket) ⊎ (f.ticket ≤ before) → f.ticket ≤ before
    by (inl above) = absurd (not_above above)
    by (inr low) = low
