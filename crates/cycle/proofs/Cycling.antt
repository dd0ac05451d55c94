-- Tasks in a cycle.
use Rattle.std.proofs.Common.{◌≡◌, ℕ, ◌<◌, ◌≤◌, Bool, true, false, List, [], ◌∷◌, length, get_or, position, Option, Some, None, nat_lt, max, set, slice_get, refl, sym, ap, subst, ◌∙◌, arith, lt-ltb}
use Rattle.std.specs.List.{position_or_len}
use Rattle.std.proofs.lemmas.List.Sums.{position_or_len_is}
use Rattle.std.proofs.lemmas.List.Quantifiers.{position-Some}
use Rattle.std.proofs.lemmas.List.Sorted.{All-permutation}
use Rattle.std.specs.List.Sorted.{IsPermutation}
use Rattle.std.specs.Prelude.{suc}
use Rattle.plant.specs.PlantValue.{TaskValue}
use Rattle.cycle.specs.declared.cycled_task.CycledTask.{CycledTask}
use Rattle.std.specs.List.{AllByRecursion}
use Rattle.std.proofs.lemmas.List.Elements.{All-from_recursion}
use Rattle.cycle.specs.declared.asked.Asked.{Asked}
use Rattle.cycle.specs.Cycle.{CycleValue, cycle_of, is_due, round_at, round_from, place_at, place_or, asked_at, evaluated_at, declared_from, AllNarrow, AllPositive, AllReached, HasEvaluated, IsAsked}

pub some_same : {X : Type 0} {a b : X} → Some a ≡ Some b → a ≡ b
some_same e = cc

-- the first that passes stands here
pub position_here : {X : Type 0} (p : X → Bool) (xs : List X) (k : ℕ) (d : X) → k < length xs → ((j : ℕ) → j < k → (e : X) → p (get_or xs j e) ≡ false)
    → p (get_or xs k d) ≡ true → position p xs ≡ Some k
position_here p xs k d lt before passes =
    let at : position_or_len p xs ≡ k = position_or_len_is p xs k d (omega (arith, lt)) (λ j below. before j below d) (λ h. passes) in
    let inside : nat_lt k (length xs) ≡ true = lt-ltb k (length xs) lt in
    rw at (rw inside refl)

-- none passes
pub position_none : {X : Type 0} (p : X → Bool) (xs : List X) → ((j : ℕ) → j < length xs → (e : X) → p (get_or xs j e) ≡ false)
    → position p xs ≡ None
position_none p [] none = refl
position_none p (x ∷ xs) none =
    let at : position_or_len p (x ∷ xs) ≡ length (x ∷ xs) = position_or_len_is p (x ∷ xs) (length (x ∷ xs)) x (omega arith) (λ j below. none j below x) (λ h. absurd (omega (arith, h))) in
    grind (arith, at)

-- a task of the round
pub of_round : (c : CycleValue) (reading place : ℕ) → position (is_due c.round) c.tasks ≡ Some place
    → (place_at c reading ≡ Some place) × (round_at c reading ≡ c.round)
of_round c reading place e = (rw e refl, rw e refl)

-- the round is over
pub of_next : (c : CycleValue) (reading : ℕ) → position (is_due c.round) c.tasks ≡ None
    → (place_at c reading ≡ position (is_due reading) c.tasks) × (round_at c reading ≡ reading)
of_next c reading e = (rw e refl, rw e refl)

reached_from : (place : ℕ) (timings : List TaskValue) → AllByRecursion (λ (t : CycledTask). t.evaluated ≤ 0) (declared_from place timings)
reached_from place [] = tt
reached_from place (t ∷ more) = (omega arith, reached_from (suc place) more)

-- none is evaluated at the start
pub starts_reached : (timings : List TaskValue) (tasks : List CycledTask) → IsPermutation (declared_from 0 timings) tasks → AllReached 0 tasks
starts_reached timings tasks moved = All-permutation (λ (t : CycledTask). t.evaluated ≤ 0) (declared_from 0 timings) tasks moved (All-from_recursion _ (declared_from 0 timings) (reached_from 0 timings))

pub stays_positive : (before tasks : List CycledTask) → IsPermutation before tasks → AllPositive before → AllPositive tasks
stays_positive before tasks moved h = All-permutation (λ (t : CycledTask). 0 < t.interval) before tasks moved h

pub stays_narrow : (before tasks : List CycledTask) → IsPermutation before tasks → AllNarrow before → AllNarrow tasks
stays_narrow before tasks moved h = All-permutation (λ (t : CycledTask). t.interval ≤ 4294967295) before tasks moved h

-- what is seen of a cycle whose latest reading is another one
pub at_reading : (old inside : CycleValue) (latest reading : ℕ) → inside ≡ old → latest ≡ max inside.latest reading
    → cycle_of inside.tasks inside.round latest ≡ cycle_of old.tasks old.round (max old.latest reading)
at_reading old inside latest reading same late =
    ap (λ (r : ℕ). cycle_of inside.tasks inside.round r) late ∙ ap (λ (v : CycleValue). cycle_of v.tasks v.round (max v.latest reading)) same

pub none_or : (o other : Option ℕ) (round reading : ℕ) → place_or o other ≡ None → round_from o round reading ≡ reading
none_or None other round reading e = refl
none_or (Some p) other round reading e = absurd (let wrong : Some p ≡ None = e in cc)

-- nothing is due
pub asks_nothing : (old mid new : CycleValue) (now : ℕ) → mid ≡ cycle_of old.tasks old.round now → (found : Option ℕ) → found ≡ place_at mid mid.latest
    → new ≡ cycle_of mid.tasks (round_at mid mid.latest) mid.latest → found ≡ None → IsAsked old new now None
asks_nothing old mid new now same found place round none =
    let at : place_at old now ≡ None = sym (ap (λ (m : CycleValue). place_at m m.latest) same) ∙ sym place ∙ none in
    let over : round_at old now ≡ now = none_or (position (is_due old.round) old.tasks) (position (is_due now) old.tasks) old.round now at in
    (at, round ∙ ap (λ (m : CycleValue). cycle_of m.tasks (round_at m m.latest) m.latest) same ∙ ap (λ (r : ℕ). cycle_of old.tasks r now) over)

-- a task is evaluated
pub asks_one : (old mid next new : CycleValue) (now : ℕ) (task : CycledTask) (place : ℕ) (asked : Asked) → mid ≡ cycle_of old.tasks old.round now → (found : Option ℕ) → found ≡ place_at mid mid.latest
    → next ≡ cycle_of mid.tasks (round_at mid mid.latest) mid.latest → found ≡ Some place → slice_get next.tasks place ≡ Some task → asked ≡ asked_at next.latest task
    → new ≡ cycle_of (set next.tasks place (evaluated_at next.latest task)) next.round next.latest → HasEvaluated old new now asked
asks_one old mid next new now task place asked same found is round some stands made after =
    let whole : next ≡ cycle_of old.tasks (round_at old now) now = round ∙ ap (λ (m : CycleValue). cycle_of m.tasks (round_at m m.latest) m.latest) same in
    record {
      place = place;
      first = sym (ap (λ (m : CycleValue). place_at m m.latest) same) ∙ sym is ∙ some;
      task = task;
      stands = sym (ap (λ (m : CycleValue). slice_get m.tasks place) whole) ∙ stands;
      asked_is = made ∙ ap (λ (m : CycleValue). asked_at m.latest task) whole;
      new_is = after ∙ ap (λ (m : CycleValue). cycle_of (set m.tasks place (evaluated_at m.latest task)) m.round m.latest) whole;
    }

pub found_inside : (p : CycledTask → Bool) (xs : List CycledTask) (k : ℕ) → position p xs ≡ Some k → k < length xs
found_inside p xs k e = (position-Some p xs k (record { priority = 0; task = 0; interval = 0; evaluated = 0 }) e).0

pub inside_or : (p q : CycledTask → Bool) (xs : List CycledTask) (o : Option ℕ) (k : ℕ) → position p xs ≡ o → place_or o (position q xs) ≡ Some k → k < length xs
inside_or p q xs None k one e = found_inside q xs k e
inside_or p q xs (Some j) k one e = found_inside p xs k (one ∙ e)

-- the place stands among the tasks
pub place_inside : (c next : CycleValue) (round latest place : ℕ) → place_at c c.latest ≡ Some place → next ≡ cycle_of c.tasks round latest → place < length next.tasks
place_inside c next round latest place e same =
    let lt = inside_or (is_due c.round) (is_due c.latest) c.tasks (position (is_due c.round) c.tasks) place refl e in
    subst (λ (v : CycleValue). place < length v.tasks) (sym same) lt
