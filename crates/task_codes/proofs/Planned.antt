-- What is due of the tasks in order is the plan.
use Rattle.std.proofs.Common.{◌≡◌, ℕ, zero, suc, ◌/◌, ◌%◌, ◌<◌, ◌≤◌, Bool, true, false, ◌==◌, ◌&&◌, List, [], length, get_or, Option, Some, None, Result, Ok, Err, IfOk, IfErr, All, refl, sym, ap, subst, ◌∙◌, inl, inr, arith}
use Rattle.std.specs.Prelude.{AllPairs, Contains, nat_eq, slice_get, unwrap_or}
use Rattle.std.specs.Global.{Vec}
use Rattle.std.specs.Option.{option_map}
use Rattle.std.specs.List.{filter}
use Rattle.std.specs.List.Sorted.{IsSorted, IsPermutation}
use Rattle.std.specs.Cmp.{IsTotalOrder}
use Rattle.std.specs.Cmp.{nat_cmp_is}
use Rattle.std.specs.Ordering.{nat_cmp, ordering_then, is_lt}
use Rattle.std.specs.declared.cmp.Ordering.{Ordering}
use Rattle.std.specs.declared.cmp.Ordering.TheVariants.{Less, Equal, Greater}
use Rattle.std.proofs.Math.Nat.{mul-mod_left}
use Rattle.std.proofs.lemmas.Nat.{div-add-mod'}
use Rattle.std.proofs.lemmas.Bool.{cases_lt}
use Rattle.std.proofs.lemmas.Bool.Decides.{nat_tests}
use Rattle.std.proofs.lemmas.Cmp.{nat_cmp_total, nat_eq_equiv, on_equiv, and_equiv, on_total, then_total}
use Rattle.std.proofs.lemmas.Option.{slice_get_cases}
use Rattle.std.proofs.lemmas.List.Sorted.{All-permutation, Contains-permutation, sorted_far, ranks_by}
use Rattle.std.proofs.lemmas.List.Elements.{All-nil, All-cons, All-append, All-map, All-weaker, All-contains, All-filter, filter_passes, Contains-append_left, Contains-append_right}
use Rattle.std.proofs.lemmas.List.Kept.{AllPairs-filter}
use Rattle.std.proofs.lemmas.Map.Keys.{IsDistinct-from_apart, IsDistinct-IsPermutation, apart_from_distinct}
use Rattle.task_codes.specs.declared.slot.Slot.{Slot}
use Rattle.task_codes.specs.declared.due.Due.{Due}
use Rattle.task_codes.specs.declared.plan_fault.PlanFault.{PlanFault}
use Rattle.task_codes.specs.declared.plan_fault.PlanFault.TheVariants.{TooLong}
use Rattle.task_codes.specs.declared.timing.Timing.{Timing}
use Rattle.task_codes.specs.Plan.{timings_at}
use Rattle.task_codes.specs.Steps.Slots.{slot_of, slot_at, slots_within, slots_before, slots_of, is_due, due_of, dues_at, dues_until, slot_cmp}
use Rattle.task_codes.specs.Plan.{IsDue, priority_at, due_cmp, IsPlanOf}
use Rattle.task_codes.proofs.Ordered.{contains_map, contains_filter, rising_same}
use Rattle.lists.proofs.Pairs.{pairs_append, pairs_map}

-- a task at its place
pub record IsSlot (resources : List (List Timing)) (s : Slot) : Type 0 where
  pub timing : Timing
  pub stands : slice_get (timings_at resources s.resource) s.task ≡ Some timing
  pub priority_is : s.priority ≡ timing.priority
  pub interval_is : s.interval ≡ timing.interval

slot_is : (resources : List (List Timing)) (r k : ℕ) (o : Option Timing) → slice_get (timings_at resources r) k ≡ o → All (IsSlot resources) (slot_at r k o)
slot_is resources r k None is = All-nil (IsSlot resources)
slot_is resources r k (Some t) is = All-cons (IsSlot resources) (slot_of r k t) [] (record { timing = t; stands = is; priority_is = refl; interval_is = refl }) (All-nil (IsSlot resources))

within_are : (resources : List (List Timing)) (r n : ℕ) → All (IsSlot resources) (slots_within r (timings_at resources r) n)
within_are resources r zero = All-nil (IsSlot resources)
within_are resources r (suc n) = All-append (IsSlot resources) (slots_within r (timings_at resources r) n) (slot_at r n (slice_get (timings_at resources r) n)) (within_are resources r n) (slot_is resources r n (slice_get (timings_at resources r) n) refl)

before_are : (resources : List (List Timing)) (n : ℕ) → All (IsSlot resources) (slots_before resources n)
before_are resources zero = All-nil (IsSlot resources)
before_are resources (suc n) = All-append (IsSlot resources) (slots_before resources n) (slots_within n (timings_at resources n) (length (timings_at resources n))) (before_are resources n) (within_are resources n (length (timings_at resources n)))

found_at : (r n k : ℕ) (t : Timing) (o : Option Timing) → k ≡ n → o ≡ Some t → Contains (slot_at r n o) (slot_of r k t)
found_at r n k t None same is = cc
found_at r n k t (Some u) same is = let e : u ≡ t = cc in (0, omega arith, rw (e, same) refl)

found_within : (r : ℕ) (ts : List Timing) (n k : ℕ) (t : Timing) → k < n → slice_get ts k ≡ Some t → Contains (slots_within r ts n) (slot_of r k t)
found_within r ts zero k t lt is = absurd (omega (arith, lt))
found_within r ts (suc n) k t lt is =
    elim (cases_lt k n) [
      | inl less ↦ Contains-append_left (slots_within r ts n) (slot_at r n (slice_get ts n)) (slot_of r k t) (found_within r ts n k t less is)
      | inr more ↦ let same : k ≡ n = omega (arith, lt, more) in
          Contains-append_right (slots_within r ts n) (slot_at r n (slice_get ts n)) (slot_of r k t) (found_at r n k t (slice_get ts n) same (subst (λ j. slice_get ts j ≡ Some t) same is))
    ]

found_before : (resources : List (List Timing)) (n r : ℕ) (s : Slot) → r < n → Contains (slots_within r (timings_at resources r) (length (timings_at resources r))) s → Contains (slots_before resources n) s
found_before resources zero r s lt there = absurd (omega (arith, lt))
found_before resources (suc n) r s lt there =
    elim (cases_lt r n) [
      | inl less ↦ Contains-append_left (slots_before resources n) (slots_within n (timings_at resources n) (length (timings_at resources n))) s (found_before resources n r s less there)
      | inr more ↦ let same : r ≡ n = omega (arith, lt, more) in
          Contains-append_right (slots_before resources n) (slots_within n (timings_at resources n) (length (timings_at resources n))) s (subst (λ j. Contains (slots_within j (timings_at resources j) (length (timings_at resources j))) s) same there)
    ]

task_within : (ts : List Timing) (k : ℕ) (t : Timing) → slice_get ts k ≡ Some t → k < length ts
task_within ts k t is = elim ((slice_get_cases ts k).1) [ inl found ↦ found.1 | inr past ↦ let e = past.1 in cc ]

resource_within : (resources : List (List Timing)) (r k : ℕ) (t : Timing) → slice_get (timings_at resources r) k ≡ Some t → r < length resources
resource_within resources r k t is = elim ((slice_get_cases resources r).1) [ inl found ↦ found.1 | inr past ↦ absurd (let none = rw past.1 at is in cc) ]

slot_found : (resources : List (List Timing)) (r k : ℕ) (t : Timing) → slice_get (timings_at resources r) k ≡ Some t → Contains (slots_of resources) (slot_of r k t)
slot_found resources r k t is = found_before resources (length resources) r (slot_of r k t) (resource_within resources r k t is) (found_within r (timings_at resources r) (length (timings_at resources r)) k t (task_within (timings_at resources r) k t is) is)

-- two tasks stand at one place
abbrev same_place : Slot → Slot → Bool
same_place a b = nat_eq a.resource b.resource && nat_eq a.task b.task

apart_by_resource : (a b : Slot) → a.resource < b.resource → same_place a b ≡ false
apart_by_resource a b lt = grind (arith, nat_tests)

apart_by_task : (a b : Slot) → a.task < b.task → same_place a b ≡ false
apart_by_task a b lt = grind (arith, nat_tests)

place_flips : (a b : Slot) → same_place a b ≡ same_place b a
place_flips a b = (and_equiv (on_equiv (λ (s : Slot). s.resource) nat_eq_equiv) (on_equiv (λ (s : Slot). s.task) nat_eq_equiv)).symm a b

-- a task of resource r before its n-th
abbrev IsWithin : ℕ → ℕ → Slot → Type 0
IsWithin r n s = (s.resource ≡ r) × (s.task < n)

at_within : (r n : ℕ) (o : Option Timing) → All (λ s. (s.resource ≡ r) × (s.task ≡ n)) (slot_at r n o)
at_within r n None = All-nil (λ s. (s.resource ≡ r) × (s.task ≡ n))
at_within r n (Some t) = All-cons (λ s. (s.resource ≡ r) × (s.task ≡ n)) (slot_of r n t) [] (refl, refl) (All-nil (λ s. (s.resource ≡ r) × (s.task ≡ n)))

all_within : (r : ℕ) (ts : List Timing) (n : ℕ) → All (IsWithin r n) (slots_within r ts n)
all_within r ts zero = All-nil (IsWithin r 0)
all_within r ts (suc n) = All-append (IsWithin r (suc n)) (slots_within r ts n) (slot_at r n (slice_get ts n))
    (All-weaker (IsWithin r n) (IsWithin r (suc n)) (λ s h. (h.0, omega (arith, h.1))) (slots_within r ts n) (all_within r ts n))
    (All-weaker (λ s. (s.resource ≡ r) × (s.task ≡ n)) (IsWithin r (suc n)) (λ s h. (h.0, omega (arith, h.1))) (slot_at r n (slice_get ts n)) (at_within r n (slice_get ts n)))

one_apart : (r n : ℕ) (o : Option Timing) → AllPairs (λ a b. same_place a b ≡ false) (slot_at r n o)
one_apart r n None = λ i j d lt below. absurd (omega (arith, below))
one_apart r n (Some t) = λ i j d lt below. absurd (omega (arith, lt, below))

apart_within : (r : ℕ) (ts : List Timing) (n : ℕ) → AllPairs (λ a b. same_place a b ≡ false) (slots_within r ts n)
apart_within r ts zero = λ i j d lt below. absurd (omega (arith, below))
apart_within r ts (suc n) = pairs_append (λ a b. same_place a b ≡ false) (slots_within r ts n) (slot_at r n (slice_get ts n)) (apart_within r ts n) (one_apart r n (slice_get ts n))
    (All-weaker (IsWithin r n) (λ a. All (λ b. same_place a b ≡ false) (slot_at r n (slice_get ts n)))
    (λ a h. All-weaker (λ s. (s.resource ≡ r) × (s.task ≡ n)) (λ b. same_place a b ≡ false) (λ b g. apart_by_task a b (omega (arith, h.1, g.1))) (slot_at r n (slice_get ts n)) (at_within r n (slice_get ts n)))
    (slots_within r ts n) (all_within r ts n))

all_before : (resources : List (List Timing)) (n : ℕ) → All (λ s. s.resource < n) (slots_before resources n)
all_before resources zero = All-nil (λ s. s.resource < 0)
all_before resources (suc n) = All-append (λ s. s.resource < suc n) (slots_before resources n) (slots_within n (timings_at resources n) (length (timings_at resources n)))
    (All-weaker (λ s. s.resource < n) (λ s. s.resource < suc n) (λ s h. omega (arith, h)) (slots_before resources n) (all_before resources n))
    (All-weaker (IsWithin n (length (timings_at resources n))) (λ s. s.resource < suc n) (λ s h. omega (arith, h.0)) (slots_within n (timings_at resources n) (length (timings_at resources n))) (all_within n (timings_at resources n) (length (timings_at resources n))))

apart_before : (resources : List (List Timing)) (n : ℕ) → AllPairs (λ a b. same_place a b ≡ false) (slots_before resources n)
apart_before resources zero = λ i j d lt below. absurd (omega (arith, below))
apart_before resources (suc n) =
    let ts = timings_at resources n in
    pairs_append (λ a b. same_place a b ≡ false) (slots_before resources n) (slots_within n ts (length ts)) (apart_before resources n) (apart_within n ts (length ts))
    (All-weaker (λ s. s.resource < n) (λ a. All (λ b. same_place a b ≡ false) (slots_within n ts (length ts)))
    (λ a h. All-weaker (IsWithin n (length ts)) (λ b. same_place a b ≡ false) (λ b g. apart_by_resource a b (omega (arith, h, g.0))) (slots_within n ts (length ts)) (all_within n ts (length ts)))
    (slots_before resources n) (all_before resources n))

-- by priority, resource and task, which tells two places apart
abbrev place_cmp : Slot → Slot → Ordering
place_cmp a b = ordering_then (nat_cmp a.priority b.priority) (ordering_then (nat_cmp a.resource b.resource) (nat_cmp a.task b.task))

less_at : (x y : ℕ) → x < y → nat_cmp x y ≡ Less
less_at x y lt = sym (nat_cmp_is x y Less lt)

more_at : (x y : ℕ) → y < x → nat_cmp x y ≡ Greater
more_at x y gt = sym (nat_cmp_is x y Greater gt)

even_at : (x y : ℕ) → x ≡ y → nat_cmp x y ≡ Equal
even_at x y e = sym (nat_cmp_is x y Equal e)

-- no later and at another place: before
strict : (a b : Slot) → is_lt (slot_cmp b a) ≡ false → same_place a b ≡ false → place_cmp a b ≡ Less
strict a b later apart = grind (arith, nat_tests)

slot_total : IsTotalOrder slot_cmp
slot_total = then_total (on_total (λ (s : Slot). s.priority) nat_cmp_total) (then_total (on_total (λ (s : Slot). s.resource) nat_cmp_total) (then_total (on_total (λ (s : Slot). s.task) nat_cmp_total) (on_total (λ (s : Slot). s.interval) nat_cmp_total)))

-- tasks in order: each before all that follow
in_order : (resources : List (List Timing)) (order : List Slot) → IsPermutation (slots_of resources) order → IsSorted slot_cmp order → AllPairs (λ a b. place_cmp a b ≡ Less) order
in_order resources order moved sorted =
    let distinct = IsDistinct-IsPermutation same_place place_flips (slots_of resources) order moved (IsDistinct-from_apart same_place (slots_of resources) (apart_before resources (length resources))) in
    λ i j d lt below. strict (get_or order i d) (get_or order j d)
    (sorted_far (λ a b. is_lt (slot_cmp a b)) (ranks_by slot_total (λ (s : Slot). s)) order sorted i j d (omega (arith, lt)) below)
    (apart_from_distinct same_place order i j d distinct lt below)

-- what a task's place says of its priority
priority_is : (resources : List (List Timing)) (s : Slot) → IsSlot resources s → priority_at resources (record { resource = s.resource; task = s.task }) ≡ s.priority
priority_is resources s is = ap (λ (o : Option Timing). unwrap_or (option_map (λ (t : Timing). t.priority) o) 0) is.stands ∙ sym is.priority_is

-- tasks that are due at one moment go by priority, resource and task
due_before : (resources : List (List Timing)) (a b : Slot) → IsSlot resources a → IsSlot resources b → place_cmp a b ≡ Less → (m : ℕ) → due_cmp resources (due_of m a) (due_of m b) ≡ Less
due_before resources a b is is' less m = rw (even_at m m refl, priority_is resources a is, priority_is resources b is') less

-- an earlier moment comes first
sooner : (resources : List (List Timing)) (a b : Due) → a.moment < b.moment → due_cmp resources a b ≡ Less
sooner resources a b lt = rw (less_at a.moment b.moment lt) refl

rising_at : (resources : List (List Timing)) (order : List Slot) (m : ℕ) → All (IsSlot resources) order → AllPairs (λ a b. place_cmp a b ≡ Less) order → AllPairs (λ a b. due_cmp resources a b ≡ Less) (dues_at order m)
rising_at resources order m slots ordered =
    pairs_map (λ a b. due_cmp resources a b ≡ Less) (due_of m) (filter (is_due m) order)
    (AllPairs-filter (λ a b. due_cmp resources (due_of m a) (due_of m b) ≡ Less) (is_due m) order
    (λ i j d lt below. due_before resources (get_or order i d) (get_or order j d) (slots i d (omega (arith, lt, below))) (slots j d below) (ordered i j d lt below) m))

all_at : (order : List Slot) (m : ℕ) → All (λ d. d.moment ≡ m) (dues_at order m)
all_at order m = All-map (λ (d : Due). d.moment ≡ m) (due_of m) (filter (is_due m) order) (λ k d lt. refl)

all_until : (order : List Slot) (n : ℕ) → All (λ d. d.moment ≤ n) (dues_until order n)
all_until order zero = All-nil (λ (d : Due). d.moment ≤ 0)
all_until order (suc n) = All-append (λ (d : Due). d.moment ≤ suc n) (dues_until order n) (dues_at order (suc n))
    (All-weaker (λ (d : Due). d.moment ≤ n) (λ d. d.moment ≤ suc n) (λ d h. omega (arith, h)) (dues_until order n) (all_until order n))
    (All-weaker (λ (d : Due). d.moment ≡ suc n) (λ d. d.moment ≤ suc n) (λ d h. omega (arith, h)) (dues_at order (suc n)) (all_at order (suc n)))

rising_until : (resources : List (List Timing)) (order : List Slot) (n : ℕ) → All (IsSlot resources) order → AllPairs (λ a b. place_cmp a b ≡ Less) order → AllPairs (λ a b. due_cmp resources a b ≡ Less) (dues_until order n)
rising_until resources order zero slots ordered = λ i j d lt below. absurd (omega (arith, below))
rising_until resources order (suc n) slots ordered =
    pairs_append (λ a b. due_cmp resources a b ≡ Less) (dues_until order n) (dues_at order (suc n)) (rising_until resources order n slots ordered) (rising_at resources order (suc n) slots ordered)
    (All-weaker (λ (a : Due). a.moment ≤ n) (λ a. All (λ b. due_cmp resources a b ≡ Less) (dues_at order (suc n)))
    (λ a h. All-weaker (λ (b : Due). b.moment ≡ suc n) (λ b. due_cmp resources a b ≡ Less) (λ b g. sooner resources a b (omega (arith, h, g))) (dues_at order (suc n)) (all_at order (suc n)))
    (dues_until order n) (all_until order n))

zero_from_test : (n : ℕ) → (n == 0) ≡ true → n ≡ 0
zero_from_test n test = grind (arith, nat_tests)

-- a task whose interval divides the moment is due
due_is : (resources : List (List Timing)) (until m : ℕ) (s : Slot) → 0 < m → m ≤ until → IsSlot resources s → is_due m s ≡ true → IsDue resources until (due_of m s)
due_is resources until m s begun within is due = record {
  timing = is.timing;
  stands = is.stands;
  times = m / s.interval;
  multiple = let rest = zero_from_test (m % s.interval) due in rw (← is.interval_is) (let whole = div-add-mod' m s.interval in omega (arith, rest, whole));
  begun = begun;
  within = within;
}

dues_are_at : (resources : List (List Timing)) (until : ℕ) (order : List Slot) (m : ℕ) → 0 < m → m ≤ until → All (IsSlot resources) order → All (IsDue resources until) (dues_at order m)
dues_are_at resources until order m begun within slots =
    All-map (IsDue resources until) (due_of m) (filter (is_due m) order)
    (λ k d lt. due_is resources until m (get_or (filter (is_due m) order) k d) begun within (All-filter (is_due m) (IsSlot resources) order slots k d lt) (filter_passes (is_due m) order k d lt))

dues_are : (resources : List (List Timing)) (until : ℕ) (order : List Slot) (n : ℕ) → n ≤ until → All (IsSlot resources) order → All (IsDue resources until) (dues_until order n)
dues_are resources until order zero le slots = All-nil (IsDue resources until)
dues_are resources until order (suc n) le slots = All-append (IsDue resources until) (dues_until order n) (dues_at order (suc n))
    (dues_are resources until order n (omega (arith, le)) slots) (dues_are_at resources until order (suc n) (omega arith) le slots)

due_found : (order : List Slot) (n m : ℕ) (s : Slot) → 0 < m → m ≤ n → Contains order s → is_due m s ≡ true → Contains (dues_until order n) (due_of m s)
due_found order zero m s begun le there due = absurd (omega (arith, begun, le))
due_found order (suc n) m s begun le there due =
    elim (cases_lt n m) [
      | inl last ↦ let same : m ≡ suc n = omega (arith, last, le) in
          Contains-append_right (dues_until order n) (dues_at order (suc n)) (due_of m s) (subst (λ k. Contains (dues_at order k) (due_of m s)) same (contains_map (due_of m) (filter (is_due m) order) s (contains_filter (is_due m) order s there due)))
      | inr sooner ↦ Contains-append_left (dues_until order n) (dues_at order (suc n)) (due_of m s) (due_found order n m s begun (omega (arith, sooner)) there due)
    ]

whole_until : (resources : List (List Timing)) (until : ℕ) (order : List Slot) → IsPermutation (slots_of resources) order → (d : Due) → IsDue resources until d → Contains (dues_until order until) d
whole_until resources until order moved d is =
    let s = slot_of d.task.resource d.task.task is.timing in
    let due : is_due d.moment s ≡ true = ap (λ n. n == 0) (ap (λ n. n % is.timing.interval) is.multiple ∙ mul-mod_left is.times is.timing.interval) in
    due_found order until d.moment s is.begun is.within (Contains-permutation (slots_of resources) order s moved (slot_found resources d.task.resource d.task.task is.timing is.stands)) due

-- what is due of the tasks in order is the plan
pub plan_is : (resources : List (List Timing)) (until : ℕ) (order : List Slot) → IsPermutation (slots_of resources) order → IsSorted slot_cmp order → IsPlanOf resources until (dues_until order until)
plan_is resources until order moved sorted =
    let slots = All-permutation (IsSlot resources) (slots_of resources) order moved (before_are resources (length resources)) in
    record {
      each = dues_are resources until order until (omega arith) slots;
      whole = whole_until resources until order moved;
      in_order = rising_until resources order until slots (in_order resources order moved sorted);
    }

due_total : (resources : List (List Timing)) → IsTotalOrder (due_cmp resources)
due_total resources = then_total (on_total (λ (d : Due). d.moment) nat_cmp_total) (then_total (on_total (λ (d : Due). priority_at resources d.task) nat_cmp_total) (then_total (on_total (λ (d : Due). d.task.resource) nat_cmp_total) (on_total (λ (d : Due). d.task.task) nat_cmp_total)))

-- there is one plan
pub plan_is_one : (resources : List (List Timing)) (until : ℕ) (a b : List Due) → IsPlanOf resources until a → IsPlanOf resources until b → a ≡ b
plan_is_one resources until a b one other =
    rising_same (due_cmp resources) (due_total resources) a b one.in_order other.in_order
    (λ d there. other.whole d (All-contains (IsDue resources until) a d one.each there))
    (λ d there. one.whole d (All-contains (IsDue resources until) b d other.each there))

pub plan_short : (resources : List (List Timing)) (until : ℕ) (dues : List Due) → IsPlanOf resources until dues → (r : Result (Vec Due) PlanFault) → IfOk r (λ v. (v.items ≡ dues) × (length v.items ≤ 100000))
    → IfOk r (λ v. IsPlanOf resources until v.items × (length v.items ≤ 100000))
plan_short resources until dues is (Ok v) made = (subst (IsPlanOf resources until) (sym made.0) is, made.1)
plan_short resources until dues is (Err e) made = tt

pub plan_long : (resources : List (List Timing)) (until : ℕ) (dues : List Due) → IsPlanOf resources until dues → (r : Result (Vec Due) PlanFault) → IfErr r (λ fault. fault ≡ TooLong → 100000 < length dues)
    → IfErr r (λ fault. fault ≡ TooLong → (long : List Due) × IsPlanOf resources until long × (100000 < length long))
plan_long resources until dues is (Ok v) long = tt
plan_long resources until dues is (Err e) long = λ too. (dues, is, long too)
