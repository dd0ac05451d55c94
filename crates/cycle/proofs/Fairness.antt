-- Each task that is due is asked for: while it isn't, what is left of its round grows less.
use Rattle.std.proofs.Common.{◌≡◌, ◌≢◌, ℕ, zero, suc, ◌+◌, ◌*◌, ◌<◌, ◌≤◌, ◌⊎◌, inl, inr, Bool, true, false, cond, max, List, [], ◌∷◌, length, get_or, set, slice_get, position, Option, Some, None, nat_lt, refl, sym, ap, subst, ◌∙◌, arith, le_trans, le_refl, lt-ltb, le-ltb, true≢false, length-set}
use Rattle.std.specs.List.{position_or_len}
use Rattle.std.proofs.lemmas.List.Sums.{fails_before_first}
use Rattle.std.proofs.lemmas.Bool.{cases_lt, cases_eq}
use Rattle.std.proofs.lemmas.Option.{slice_get-get_or, slice_get_past}
use Rattle.cycle.specs.declared.asked.Asked.{Asked}
use Rattle.cycle.specs.declared.cycled_task.CycledTask.{CycledTask}
use Rattle.cycle.specs.Cycle.{CycleValue, cycle_of, due_moments, dt_at, evaluated_at, is_due, place_or, round_from, round_at, HasEvaluated, IsAsked, IsCycle}
use Rattle.cycle.specs.Laws.{Step, HaveAsked, AreShort, IsShort, IsTask, AskFor}
use Rattle.cycle.proofs.Cycling.{some_same}
use Rattle.cycle.proofs.Counting.{nothing, more_moments, still_due, at_place, passes_at, within, stays_cycle}

not_true : (b : Bool) → (b ≡ true → ⊥) → b ≡ false
not_true true h = absurd (h refl)
not_true false h = refl

abbrev due_one : ℕ → CycledTask → ℕ
due_one r t = cond (is_due r t) 1 0

in_or_out : (b : Bool) → (b ≡ true) ⊎ (b ≡ false)
in_or_out true = inl refl
in_or_out false = inr refl

at_most_twice : (b : Bool) (m n : ℕ) → m ≤ n → m + cond b 0 n ≤ 2 * n
at_most_twice true m n le = omega (arith, le)
at_most_twice false m n le = omega (arith, le)

-- how many tasks are due at a reading
abbrev count_due : ℕ → List CycledTask → ℕ
count_due r [] = 0
count_due r (t ∷ more) = due_one r t + count_due r more

one_at_most : (r : ℕ) (t : CycledTask) → due_one r t ≤ 1
one_at_most r t = elim (is_due r t) as (λ b. cond b 1 0 ≤ 1) [ true ↦ omega arith | false ↦ omega arith ]

count_few : (r : ℕ) (tasks : List CycledTask) → count_due r tasks ≤ length tasks
count_few r [] = omega arith
count_few r (t ∷ more) = omega (arith, one_at_most r t, count_few r more)

count_some : (r : ℕ) (tasks : List CycledTask) (k : ℕ) (t : CycledTask) → slice_get tasks k ≡ Some t → is_due r t ≡ true → 1 ≤ count_due r tasks
count_some r [] k t stands due = absurd (let wrong : None ≡ Some t = stands in cc)
count_some r (x ∷ more) zero t stands due = let same : is_due r x ≡ true = ap (λ (y : CycledTask). is_due r y) (some_same stands) ∙ due in rw same (omega arith)
count_some r (x ∷ more) (suc k) t stands due = omega (arith, count_some r more k t stands due)

-- one that was due isn't any more
count_less : (r : ℕ) (tasks : List CycledTask) (k : ℕ) (t after : CycledTask) → slice_get tasks k ≡ Some t → is_due r t ≡ true → is_due r after ≡ false
    → count_due r (set tasks k after) + 1 ≡ count_due r tasks
count_less r [] k t after stands due done = absurd (let wrong : None ≡ Some t = stands in cc)
count_less r (x ∷ more) zero t after stands due done =
    let same : is_due r x ≡ true = ap (λ (y : CycledTask). is_due r y) (some_same stands) ∙ due in
    rw same (rw done (omega arith))
count_less r (x ∷ more) (suc k) t after stands due done = let rest = count_less r more k t after stands due done in omega (arith, rest)

stands_still : (tasks : List CycledTask) (k place : ℕ) (t after : CycledTask) → k ≢ place → slice_get tasks place ≡ Some t → slice_get (set tasks k after) place ≡ Some t
stands_still [] k place t after apart stands = stands
stands_still (x ∷ more) zero zero t after apart stands = absurd (apart refl)
stands_still (x ∷ more) zero (suc place) t after apart stands = stands
stands_still (x ∷ more) (suc k) zero t after apart stands = stands
stands_still (x ∷ more) (suc k) (suc place) t after apart stands = stands_still more k place t after (λ e. apart (ap suc e)) stands

-- what stands at a place stands inside
stands_inside : (tasks : List CycledTask) (place : ℕ) (t : CycledTask) → slice_get tasks place ≡ Some t → place < length tasks
stands_inside tasks place t stands = elim (cases_lt place (length tasks)) [
  | inl lt ↦ lt
  | inr past ↦ absurd (let none : None ≡ Some t = sym (slice_get_past tasks place (omega (arith, past))) ∙ stands in cc)
]

-- where a task is due one is found
found_one : (r : ℕ) (tasks : List CycledTask) (place : ℕ) (t : CycledTask) → slice_get tasks place ≡ Some t → is_due r t ≡ true → position (is_due r) tasks ≡ None → ⊥
found_one r tasks place t stands due none =
    let at = position_or_len (is_due r) tasks in
    elim (cases_lt at (length tasks)) [
      | inl lt ↦
          let inside : nat_lt at (length tasks) ≡ true = lt-ltb at (length tasks) lt in
          let some : position (is_due r) tasks ≡ Some at = rw inside refl in
          let wrong : Some at ≡ None = sym some ∙ none in cc
      | inr past ↦
          let lt = stands_inside tasks place t stands in
          let same : get_or tasks place nothing ≡ t = some_same (sym (slice_get-get_or tasks place nothing lt) ∙ stands) in
          let fails = fails_before_first (is_due r) tasks place nothing (omega (arith, lt, past)) in
          true≢false (sym due ∙ ap (λ (y : CycledTask). is_due r y) (sym same) ∙ fails)
    ]

-- it isn't due at a reading up to which its time is counted
not_due : (r : ℕ) (t : CycledTask) → 0 < t.interval → r ≤ t.evaluated → is_due r t ≡ false
not_due r t positive le = le-ltb (due_moments t.interval t.evaluated) (due_moments t.interval r) (more_moments t.interval r t.evaluated positive le)

-- how many readings may pass until the task is asked for: those of the round, and of the next one, where it isn't in this one
abbrev left : ℕ → ℕ → List CycledTask → CycledTask → ℕ
left r n tasks t = count_due r tasks + cond (is_due r t) 0 n

-- the task stands, is due, and no more than so many readings may pass
record Waits (c : CycleValue) (place : ℕ) (t : CycledTask) (n most : ℕ) : Type 0 where
  stands : slice_get c.tasks place ≡ Some t
  due : is_due c.latest t ≡ true
  many : length c.tasks ≡ n
  few : left c.round n c.tasks t ≤ most

-- a task of the round is evaluated
in_round : (tasks : List CycledTask) (round n k place : ℕ) (x after t : CycledTask) → k ≢ place → slice_get tasks k ≡ Some x → is_due round x ≡ true → is_due round after ≡ false
    → left round n (set tasks k after) t + 1 ≡ left round n tasks t
in_round tasks round n k place x after t apart stands due done = let less = count_less round tasks k x after stands due done in omega (arith, less)

-- the next round begins
next_round : (tasks : List CycledTask) (round reading n k place : ℕ) (x after t : CycledTask) → length tasks ≡ n → position (is_due round) tasks ≡ None → slice_get tasks place ≡ Some t → is_due reading t ≡ true
    → slice_get tasks k ≡ Some x → is_due reading x ≡ true → is_due reading after ≡ false
    → left reading n (set tasks k after) t + 1 ≤ left round n tasks t
next_round tasks round reading n k place x after t many none stands due at x_due done =
    let less = count_less reading tasks k x after at x_due done in
    let few = count_few reading tasks in
    let out : is_due round t ≡ false = not_true (is_due round t) (λ e. found_one round tasks place t stands e none) in
    rw (due, out) (omega (arith, less, few, many))

-- whichever of them it is of
few_left : (tasks : List CycledTask) (round reading n k place : ℕ) (x after t : CycledTask) (o : Option ℕ) → position (is_due round) tasks ≡ o → place_or o (position (is_due reading) tasks) ≡ Some k
    → k ≢ place → length tasks ≡ n → slice_get tasks k ≡ Some x → slice_get tasks place ≡ Some t → is_due reading t ≡ true → ((r : ℕ) → r ≤ reading → is_due r after ≡ false) → round ≤ reading
    → left (round_from o round reading) n (set tasks k after) t + 1 ≤ left round n tasks t
few_left tasks round reading n k place x after t None none found apart many at stands due done le =
    next_round tasks round reading n k place x after t many none stands due at (passes_at (is_due reading) tasks k x found at) (done reading (le_refl reading))
few_left tasks round reading n k place x after t (Some j) one found apart many at stands due done le =
    let less = in_round tasks round n k place x after t apart at (passes_at (is_due round) tasks k x (one ∙ found) at) (done round le) in omega (arith, less)

none_second : (o other : Option ℕ) → place_or o other ≡ None → other ≡ None
none_second None other e = e
none_second (Some p) other e = absurd (let wrong : Some p ≡ None = e in cc)

-- a reading at which something is asked
one_step : (c mid : CycleValue) (reading : ℕ) (a : Asked) → IsCycle c → c.latest ≤ reading → (h : HasEvaluated c mid reading a) → a.dt < 4294967295 → (place : ℕ) (t : CycledTask) (n most : ℕ) → Waits c place t n (suc most)
    → (a.task ≡ t.task) ⊎ Waits mid place t n most
one_step c mid reading a is le h short place t n most w =
    let x = h.task in
    let lt = within c mid reading a h in
    let dt : a.dt ≡ dt_at reading x = ap (λ (y : Asked). y.dt) h.asked_is in
    let reached = at_place (λ y. y.evaluated ≤ c.latest) c.tasks h.place x is.reached lt h.stands in
    let whole : x.evaluated + dt_at reading x ≡ reading = omega (arith, dt, short, reached, le) in
    let after = evaluated_at reading x in
    let positive = at_place (λ y. 0 < y.interval) c.tasks h.place x is.positive lt h.stands in
    let done : (r : ℕ) → r ≤ reading → is_due r after ≡ false = λ r below. not_due r after positive (omega (arith, below, whole)) in
    let own = at_place (λ y. 0 < y.interval) c.tasks place t is.positive (stands_inside c.tasks place t w.stands) w.stands in
    let due = still_due t c.latest reading own le w.due in
    elim (cases_eq h.place place) [
      | inl same ↦
          let at : slice_get c.tasks place ≡ Some x = subst (λ (k : ℕ). slice_get c.tasks k ≡ Some x) same h.stands in
          let one : x ≡ t = some_same (sym at ∙ w.stands) in
          inl (ap (λ (y : Asked). y.task) h.asked_is ∙ ap (λ (y : CycledTask). y.task) one)
      | inr apart ↦
          let fewer = few_left c.tasks c.round reading n h.place place x after t (position (is_due c.round) c.tasks) refl h.first apart w.many h.stands w.stands due done (le_trans is.begun le) in
          let next : Waits (cycle_of (set c.tasks h.place after) (round_at c reading) reading) place t n most = record {
            stands = stands_still c.tasks h.place place t after apart w.stands;
            due = due;
            many = length-set c.tasks h.place after ∙ w.many;
            few = omega (arith, fewer, w.few);
          } in
          inr (subst (λ (v : CycleValue). Waits v place t n most) (sym h.new_is) next)
    ]

any_step : (c mid : CycleValue) (reading : ℕ) (o : Option Asked) → IsCycle c → c.latest ≤ reading → IsAsked c mid reading o → IsShort o → (place : ℕ) (t : CycledTask) (n most : ℕ) → Waits c place t n (suc most)
    → IsTask t.task o ⊎ Waits mid place t n most
any_step c mid reading None is le asked short place t n most w =
    let own = at_place (λ y. 0 < y.interval) c.tasks place t is.positive (stands_inside c.tasks place t w.stands) w.stands in
    absurd (found_one reading c.tasks place t w.stands (still_due t c.latest reading own le w.due) (none_second (position (is_due c.round) c.tasks) (position (is_due reading) c.tasks) asked.0))
any_step c mid reading (Some a) is le asked short place t n most w = one_step c mid reading a is le asked short place t n most w

-- one reading at least may pass
some_left : (c : CycleValue) (place : ℕ) (t : CycledTask) (n most : ℕ) → Waits c place t n most → 1 ≤ most
some_left c place t n most w =
    let inside = stands_inside c.tasks place t w.stands in
    let at = in_or_out (is_due c.round t) in
    elim at [
      | inl within ↦ let some = count_some c.round c.tasks place t w.stands within in omega (arith, some, w.few)
      | inr out ↦ let all : left c.round n c.tasks t ≡ count_due c.round c.tasks + n = ap (λ (b : Bool). count_due c.round c.tasks + cond b 0 n) out in omega (arith, all, inside, w.many, w.few)
    ]

waits_asked : (steps : List Step) (c last : CycleValue) (place : ℕ) (t : CycledTask) (n most : ℕ) → IsCycle c → HaveAsked c steps last → AreShort steps → Waits c place t n most → most ≤ length steps → AskFor t.task steps
waits_asked [] c last place t n most is have short w enough = absurd (omega (arith, some_left c place t n most w, enough))
waits_asked (s ∷ more) c last place t n zero is have short w enough = absurd (omega (arith, some_left c place t n zero w))
waits_asked (s ∷ more) c last place t n (suc most) is have short w enough =
    let le : c.latest ≤ max c.latest s.0 = omega arith in
    elim (any_step c have.0 (max c.latest s.0) s.1 is le have.1 short.0 place t n most w) [
      | inl now ↦ inl now
      | inr later ↦ inr (waits_asked more have.0 last place t n most (stays_cycle c have.0 (max c.latest s.0) s.1 is le have.1) have.2 short.1 later (omega (arith, enough)))
    ]

pub is_asked : (first last : CycleValue) (steps : List Step) (place : ℕ) (t : CycledTask) → IsCycle first → HaveAsked first steps last → AreShort steps
    → slice_get first.tasks place ≡ Some t → is_due first.latest t ≡ true → 2 * length first.tasks ≤ length steps → AskFor t.task steps
is_asked first last steps place t is have short stands due enough =
    let n = length first.tasks in
    let few = count_few first.round first.tasks in
    waits_asked steps first last place t n (2 * n) is have short (record {
      stands = stands;
      due = due;
      many = refl;
      few = at_most_twice (is_due first.round t) (count_due first.round first.tasks) n few;
    }) enough
