-- Moments at which nothing is due can be left out.
use Rattle.std.proofs.Common.{◌≡◌, ℕ, zero, suc, ◌+◌, ◌-◌, ◌<◌, ◌≤◌, Bool, true, false, cond, List, [], ◌∷◌, ◌++◌, length, All, get_or, take, add-one, refl, sym, ap, subst, ◌∙◌, arith}
use Rattle.std.specs.Global.{Vec}
use Rattle.std.specs.Option.{option_map}
use Rattle.std.specs.Prelude.{Some, slice_get, unwrap_or}
use Rattle.std.proofs.lemmas.Option.{slice_get_read, slice_get-get_or, slice_get-map}
use Rattle.std.specs.List.{filter}
use Rattle.std.proofs.lemmas.List.{append-nil, length-append, length-map, get_or-map}
use Rattle.std.proofs.lemmas.List.Elements.{recursion_from_All}
use Rattle.std.specs.List.{AllByRecursion}
use Rattle.std.specs.List.Sorted.{IsPermutation}
use Rattle.std.proofs.lemmas.List.Sorted.{All-permutation}
use Rattle.task_codes.specs.declared.slot.Slot.{Slot}
use Rattle.task_codes.specs.declared.timing.Timing.{Timing}
use Rattle.task_codes.specs.Plan.{AllTimed, timings_at, timings_in}
use Rattle.task_codes.specs.Steps.Slots.{slot_of, slots_within, slots_before, is_due, NoneDue, dues_at, dues_until}

-- between two moments at which no task is due
none_due : (order : List Slot) (from to m : ℕ) → AllByRecursion (λ s. NoneDue s from to) order → from < m → m < to → dues_at order m ≡ []
none_due [] from to m none above below = refl
none_due (s ∷ order) from to m none above below = rw (none.0 m above below) (none_due order from to m none.1 above below)

skip : (order : List Slot) (from to n : ℕ) → AllByRecursion (λ s. NoneDue s from to) order → from + n < to → dues_until order (from + n) ≡ dues_until order from
skip order from to zero none below = let e : from + 0 ≡ from = omega arith in ap (λ (k : ℕ). dues_until order k) e
skip order from to (suc n) none below =
    let e : from + suc n ≡ suc (from + n) = omega arith in
    let nothing : dues_at order (suc (from + n)) ≡ [] = none_due order from to (suc (from + n)) none (omega arith) (omega (arith, below)) in
    ap (λ (k : ℕ). dues_until order k) e ∙ ap (λ ds. dues_until order (from + n) ++ ds) nothing ∙ append-nil (dues_until order (from + n)) ∙ skip order from to n none (omega (arith, below))

-- the next moment at which a task may be due
pub dues_go_on : (order : List Slot) (from to : ℕ) → All (λ s. NoneDue s from to) order → from < to → dues_until order (to - 1) ≡ dues_until order from
dues_go_on order from to none below =
    let e : from + (to - 1 - from) ≡ to - 1 = omega (arith, below) in
    subst (λ (n : ℕ). dues_until order n ≡ dues_until order from) e (skip order from to (to - 1 - from) (recursion_from_All _ order none) (omega (arith, below)))

-- one moment more
pub dues_with : (order : List Slot) (m : ℕ) → 0 < m → dues_until order m ≡ dues_until order (m - 1) ++ dues_at order m
dues_with order zero begun = absurd (omega (arith, begun))
dues_with order (suc n) begun = let e : suc n - 1 ≡ n = omega arith in rw e refl

grows : (order : List Slot) (m n : ℕ) → length (dues_until order m) ≤ length (dues_until order (m + n))
grows order m zero = let e : m + 0 ≡ m = omega arith in rw e (omega arith)
grows order m (suc n) = let e : m + suc n ≡ suc (m + n) = omega arith in rw e (omega (arith, grows order m n, length-append (dues_until order (m + n)) (dues_at order (suc (m + n)))))

pub dues_grow : (order : List Slot) (m n : ℕ) → m ≤ n → length (dues_until order m) ≤ length (dues_until order n)
dues_grow order m n le = let e : m + (n - m) ≡ n = omega (arith, le) in subst (λ (k : ℕ). length (dues_until order m) ≤ length (dues_until order k)) e (grows order m (n - m))

-- one more of them is due
filter_left : {A : Type 0} (p : A → Bool) (xs : List A) (i : ℕ) (d : A) → i < length xs → p (get_or xs i d) ≡ true → length (filter p (take i xs)) < length (filter p xs)
filter_left p [] i d lt is = absurd (omega (arith, lt))
filter_left p (x ∷ xs) zero d lt is = rw is (omega arith)
filter_left p (x ∷ xs) (suc i) d lt is =
    let more = filter_left p xs i d (omega (arith, lt)) is in
    elim (p x) as (λ b. length (cond b (x ∷ filter p (take i xs)) (filter p (take i xs))) < length (cond b (x ∷ filter p xs) (filter p xs))) [ true ↦ omega (arith, more) | false ↦ more ]

pub dues_left : (order : List Slot) (m i : ℕ) (d : Slot) → i < length order → is_due m (get_or order i d) ≡ true → length (dues_at (take i order) m) < length (dues_at order m)
dues_left order m i d lt is = simp length-map (filter_left (is_due m) order i d lt is)

pub positive_kept : (slots order : List Slot) → IsPermutation slots order → All (λ s. 0 < s.interval) slots → All (λ s. 0 < s.interval) order
positive_kept slots order p h = All-permutation (λ s. 0 < s.interval) slots order p h

-- one more task of a resource
pub slots_more : (r : ℕ) (ts : List Timing) (n : ℕ) (d : Timing) → n < length ts → slots_within r ts (n + 1) ≡ slots_within r ts n ++ slot_of r n (get_or ts n d) ∷ []
slots_more r ts n d lt = rw (add-one, slice_get-get_or ts n d lt) refl

vec_at : (rs : List (Vec Timing)) (n : ℕ) (v : Vec Timing) → n < length rs → v ≡ get_or rs n v → timings_at (timings_in rs) n ≡ v.items
vec_at rs n v lt is =
    let there : slice_get rs n ≡ Some v = slice_get_read rs (length rs) n v refl lt is in
    ap (λ o. unwrap_or o []) (slice_get-map (λ (x : Vec Timing). x.items) rs n ∙ ap (λ o. option_map (λ (x : Vec Timing). x.items) o) there)

-- the tasks of a resource as they are given
pub timed_at : (rs : List (Vec Timing)) (n : ℕ) (v : Vec Timing) → n < length rs → v ≡ get_or rs n v → All AllTimed (timings_in rs) → AllTimed v.items
timed_at rs n v lt is timed =
    subst AllTimed (get_or-map (λ (x : Vec Timing). x.items) rs n v v.items lt ∙ ap (λ (x : Vec Timing). x.items) (sym is)) (timed n v.items (simp length-map lt))

-- the tasks of one more resource, as they are given
pub slots_with_given : (rs : List (Vec Timing)) (n : ℕ) (v : Vec Timing) → n < length rs → v ≡ get_or rs n v
    → slots_before (timings_in rs) (n + 1) ≡ slots_before (timings_in rs) n ++ slots_within n v.items (length v.items)
slots_with_given rs n v lt is = rw (add-one, vec_at rs n v lt is) refl
