-- What is counted along a cycle's readings.
use Rattle.std.proofs.Common.{◌≡◌, ℕ, ◌+◌, ◌-◌, ◌*◌, ◌/◌, ◌<◌, ◌≤◌, ◌⊎◌, inl, inr, Bool, true, false, cond, max, List, [], ◌∷◌, length, get_or, set, slice_get, position, Option, Some, None, sum_by, eqb, All, refl, sym, ap, subst, ◌∙◌, arith, lt-ltb, ltb-true, le_trans, lt_of_lt_of_le, div-mul-le_self, suc, suc-mul, ◌%◌, div-add-mod', le-ltb, div-lt_iff_lt-mul, le-div_iff_mul-le}
use Rattle.std.proofs.lemmas.Bool.{cases_lt}
use Rattle.std.proofs.lemmas.List.Elements.{All-weaker, All-set}
use Rattle.std.proofs.lemmas.List.Quantifiers.{position-Some}
use Rattle.std.proofs.lemmas.List.Sums.{sum_by-set}
use Rattle.std.proofs.lemmas.Option.{slice_get-get_or}
use Rattle.cycle.specs.declared.asked.Asked.{Asked}
use Rattle.cycle.specs.declared.cycled_task.CycledTask.{CycledTask}
use Rattle.cycle.specs.Cycle.{CycleValue, due_moments, dt_at, skipped_at, evaluated_at, asked_at, is_due, place_or, round_from, HasEvaluated, IsAsked, IsCycle}
use Rattle.cycle.specs.Laws.{Step, HaveAsked, dt_of, dts, counted_of, counted, done_of, done_moments, moments_of, moments}
use Rattle.cycle.proofs.Cycling.{inside_or, some_same}

pub nothing : CycledTask
nothing = record { priority = 0; task = 0; interval = 0; evaluated = 0 }

pub multiples : (interval reading k : ℕ) → 0 < interval
    → (k ≤ due_moments interval reading → k * interval ≤ reading) × (k * interval ≤ reading → k ≤ due_moments interval reading)
multiples interval reading k positive = ((le-div_iff_mul-le positive).0, (le-div_iff_mul-le positive).1)

-- later there are no fewer due moments
pub more_moments : (interval a b : ℕ) → 0 < interval → a ≤ b → due_moments interval a ≤ due_moments interval b
more_moments interval a b positive le = (multiples interval b (a / interval) positive).1 (le_trans (div-mul-le_self a interval) le)

pub still_due : (t : CycledTask) (a b : ℕ) → 0 < t.interval → a ≤ b → is_due a t ≡ true → is_due b t ≡ true
still_due t a b positive le due =
    let lt : due_moments t.interval t.evaluated < due_moments t.interval a = ltb-true (due_moments t.interval t.evaluated) (due_moments t.interval a) due in
    lt-ltb (due_moments t.interval t.evaluated) (due_moments t.interval b) (lt_of_lt_of_le lt (more_moments t.interval a b positive le))

-- what stands at the place of the first that passes
pub passes_at : (p : CycledTask → Bool) (tasks : List CycledTask) (k : ℕ) (t : CycledTask) → position p tasks ≡ Some k → slice_get tasks k ≡ Some t → p t ≡ true
passes_at p tasks k t found stands =
    let at = position-Some p tasks k nothing found in
    let same : get_or tasks k nothing ≡ t = some_same (sym (slice_get-get_or tasks k nothing at.0) ∙ stands) in
    ap p (sym same) ∙ at.1

passes_or : (p q : CycledTask → Bool) (tasks : List CycledTask) (o : Option ℕ) (k : ℕ) (t : CycledTask) → position p tasks ≡ o → place_or o (position q tasks) ≡ Some k → slice_get tasks k ≡ Some t
    → (p t ≡ true) ⊎ (q t ≡ true)
passes_or p q tasks None k t one e stands = inr (passes_at q tasks k t e stands)
passes_or p q tasks (Some j) k t one e stands = inl (passes_at p tasks k t (one ∙ e) stands)

-- what is so of all is so of the one at a place
pub at_place : (P : CycledTask → Type 0) (tasks : List CycledTask) (k : ℕ) (t : CycledTask) → All P tasks → k < length tasks → slice_get tasks k ≡ Some t → P t
at_place P tasks k t all lt stands =
    let same : get_or tasks k nothing ≡ t = some_same (sym (slice_get-get_or tasks k nothing lt) ∙ stands) in
    subst P same (all k nothing lt)

pub within : (old new : CycleValue) (reading : ℕ) (asked : Asked) → (h : HasEvaluated old new reading asked) → h.place < length old.tasks
within old new reading asked h = inside_or (is_due old.round) (is_due reading) old.tasks (position (is_due old.round) old.tasks) h.place refl h.first

-- the task that is evaluated is due
pub evaluated_is_due : (old new : CycleValue) (reading : ℕ) (asked : Asked) → IsCycle old → old.latest ≤ reading → (h : HasEvaluated old new reading asked) → is_due reading h.task ≡ true
evaluated_is_due old new reading asked is le h =
    let positive = at_place (λ t. 0 < t.interval) old.tasks h.place h.task is.positive (within old new reading asked h) h.stands in
    elim (passes_or (is_due old.round) (is_due reading) old.tasks (position (is_due old.round) old.tasks) h.place h.task refl h.first h.stands) [
      | inl due ↦ still_due h.task old.round reading positive (le_trans is.begun le) due
      | inr due ↦ due
    ]

pub is_never_early : (old new : CycleValue) (reading : ℕ) (asked : Asked) → IsCycle old → old.latest ≤ reading → (h : HasEvaluated old new reading asked)
    → (k : ℕ) × (h.task.evaluated < k * h.task.interval) × (k * h.task.interval ≤ reading)
is_never_early old new reading asked is le h =
    let t = h.task in
    let positive = at_place (λ t. 0 < t.interval) old.tasks h.place t is.positive (within old new reading asked h) h.stands in
    let due = ltb-true (due_moments t.interval t.evaluated) (due_moments t.interval reading) (evaluated_is_due old new reading asked is le h) in
    (due_moments t.interval reading, (div-lt_iff_lt-mul positive).0 due, div-mul-le_self reading t.interval)

-- a sum over the tasks where one is replaced
sum_at : (f : CycledTask → ℕ) (tasks : List CycledTask) (k : ℕ) (t after : CycledTask) → k < length tasks → slice_get tasks k ≡ Some t
    → sum_by f (set tasks k after) + f t ≡ sum_by f tasks + f after
sum_at f tasks k t after lt stands =
    let same : get_or tasks k nothing ≡ t = some_same (sym (slice_get-get_or tasks k nothing lt) ∙ stands) in
    subst (λ (x : CycledTask). sum_by f (set tasks k after) + f x ≡ sum_by f tasks + f after) same (sum_by-set f tasks k after nothing lt)

count_one : (n reading : ℕ) (t : CycledTask) → counted_of n (evaluated_at reading t) ≡ counted_of n t + dt_of n (Some (asked_at reading t))
count_one n reading t = elim (eqb t.task n) as (λ b. cond b (t.evaluated + dt_at reading t) 0 ≡ cond b t.evaluated 0 + cond b (dt_at reading t) 0) [ true ↦ refl | false ↦ refl ]

one_counted : (n : ℕ) (old new : CycleValue) (reading : ℕ) (o : Option Asked) → IsAsked old new reading o → counted n new.tasks ≡ counted n old.tasks + dt_of n o
one_counted n old new reading None asked = let e : counted n new.tasks ≡ counted n old.tasks = ap (λ (c : CycleValue). counted n c.tasks) asked.1 in omega (arith, e)
one_counted n old new reading (Some a) h =
    let e : counted n new.tasks ≡ counted n (set old.tasks h.place (evaluated_at reading h.task)) = ap (λ (c : CycleValue). counted n c.tasks) h.new_is in
    let dts : dt_of n (Some a) ≡ dt_of n (Some (asked_at reading h.task)) = ap (λ (x : Asked). dt_of n (Some x)) h.asked_is in
    let sums = sum_at (counted_of n) old.tasks h.place h.task (evaluated_at reading h.task) (within old new reading a h) h.stands in
    omega (arith, e, dts, sums, count_one n reading h.task)

pub all_counted : (n : ℕ) (first last : CycleValue) (steps : List Step) → HaveAsked first steps last
    → counted n last.tasks ≡ counted n first.tasks + dts n steps
all_counted n first last [] have = let e : counted n last.tasks ≡ counted n first.tasks = ap (λ (c : CycleValue). counted n c.tasks) have in omega (arith, e)
all_counted n first last (s ∷ more) have =
    let one = one_counted n first have.0 (max first.latest s.0) s.1 have.1 in
    let rest = all_counted n have.0 last more have.2 in
    omega (arith, one, rest)

-- an interval later there is one due moment more
one_more : (interval a d : ℕ) → 0 < interval → interval ≤ d → due_moments interval a < due_moments interval (a + d)
one_more interval a d positive le =
    let at : suc (a / interval) * interval ≤ a + d = rw (suc-mul (a / interval) interval) (omega (arith, div-mul-le_self a interval, le)) in
    (multiples interval (a + d) (suc (a / interval)) positive).1 at

-- an evaluation is done with one due moment at least
some_done : (t : CycledTask) (reading : ℕ) → 0 < t.interval → t.interval ≤ 4294967295 → t.evaluated ≤ reading → is_due reading t ≡ true
    → due_moments t.interval t.evaluated < due_moments t.interval (t.evaluated + dt_at reading t)
some_done t reading positive narrow reached due =
    elim (cases_lt (reading - t.evaluated) 4294967295) [
      | inl short ↦
          let whole : t.evaluated + dt_at reading t ≡ reading = omega (arith, short, reached) in
          subst (λ (r : ℕ). due_moments t.interval t.evaluated < due_moments t.interval r) (sym whole) (ltb-true (due_moments t.interval t.evaluated) (due_moments t.interval reading) due)
      | inr long ↦
          let most : dt_at reading t ≡ 4294967295 = omega (arith, long) in
          subst (λ (d : ℕ). due_moments t.interval t.evaluated < due_moments t.interval (t.evaluated + d)) (sym most) (one_more t.interval t.evaluated 4294967295 positive narrow)
    ]

moments_one : (n reading : ℕ) (t : CycledTask) → due_moments t.interval t.evaluated < due_moments t.interval (t.evaluated + dt_at reading t)
    → moments_of n (evaluated_at reading t) ≡ moments_of n t + done_of n (Some (asked_at reading t))
moments_one n reading t lt =
    let whole : due_moments t.interval (t.evaluated + dt_at reading t) ≡ due_moments t.interval t.evaluated + (skipped_at reading t + 1) = omega (arith, lt) in
    elim (eqb t.task n) as (λ b. cond b (due_moments t.interval (t.evaluated + dt_at reading t)) 0 ≡ cond b (due_moments t.interval t.evaluated) 0 + cond b (skipped_at reading t + 1) 0) [ true ↦ whole | false ↦ refl ]

one_done : (n : ℕ) (old new : CycleValue) (reading : ℕ) (o : Option Asked) → IsCycle old → old.latest ≤ reading → IsAsked old new reading o → moments n new.tasks ≡ moments n old.tasks + done_of n o
one_done n old new reading None is le asked = let e : moments n new.tasks ≡ moments n old.tasks = ap (λ (c : CycleValue). moments n c.tasks) asked.1 in omega (arith, e)
one_done n old new reading (Some a) is le h =
    let t = h.task in
    let lt = within old new reading a h in
    let some = some_done t reading (at_place (λ t. 0 < t.interval) old.tasks h.place t is.positive lt h.stands) (at_place (λ t. t.interval ≤ 4294967295) old.tasks h.place t is.narrow lt h.stands)
    (le_trans (at_place (λ t. t.evaluated ≤ old.latest) old.tasks h.place t is.reached lt h.stands) le) (evaluated_is_due old new reading a is le h) in
    let e : moments n new.tasks ≡ moments n (set old.tasks h.place (evaluated_at reading t)) = ap (λ (c : CycleValue). moments n c.tasks) h.new_is in
    let dones : done_of n (Some a) ≡ done_of n (Some (asked_at reading t)) = ap (λ (x : Asked). done_of n (Some x)) h.asked_is in
    let sums = sum_at (moments_of n) old.tasks h.place t (evaluated_at reading t) lt h.stands in
    omega (arith, e, dones, sums, moments_one n reading t some)

round_within : (o : Option ℕ) (round reading : ℕ) → round ≤ reading → round_from o round reading ≤ reading
round_within None round reading le = omega arith
round_within (Some p) round reading le = le

-- a cycle that was asked is a cycle
pub stays_cycle : (old new : CycleValue) (reading : ℕ) (o : Option Asked) → IsCycle old → old.latest ≤ reading → IsAsked old new reading o → IsCycle new
stays_cycle old new reading None is le asked = subst IsCycle (sym asked.1) (record {
  positive = is.positive;
  narrow = is.narrow;
  reached = All-weaker (λ (t : CycledTask). t.evaluated ≤ old.latest) (λ t. t.evaluated ≤ reading) (λ t h. le_trans h le) old.tasks is.reached;
  begun = omega arith;
})
stays_cycle old new reading (Some a) is le h =
    let t = h.task in
    let lt = within old new reading a h in
    subst IsCycle (sym h.new_is) (record {
      positive = All-set (λ (t : CycledTask). 0 < t.interval) old.tasks h.place (evaluated_at reading t) (at_place (λ t. 0 < t.interval) old.tasks h.place t is.positive lt h.stands) is.positive;
      narrow = All-set (λ (t : CycledTask). t.interval ≤ 4294967295) old.tasks h.place (evaluated_at reading t) (at_place (λ t. t.interval ≤ 4294967295) old.tasks h.place t is.narrow lt h.stands) is.narrow;
      reached = All-set (λ (t : CycledTask). t.evaluated ≤ reading) old.tasks h.place (evaluated_at reading t)
          (let le' = at_place (λ t. t.evaluated ≤ old.latest) old.tasks h.place t is.reached lt h.stands in omega (arith, le, le'))
          (All-weaker (λ (t : CycledTask). t.evaluated ≤ old.latest) (λ t. t.evaluated ≤ reading) (λ t h. le_trans h le) old.tasks is.reached);
      begun = round_within (position (is_due old.round) old.tasks) old.round reading (le_trans is.begun le);
    })

pub all_done : (n : ℕ) (first last : CycleValue) (steps : List Step) → IsCycle first → HaveAsked first steps last
    → moments n last.tasks ≡ moments n first.tasks + done_moments n steps
all_done n first last [] is have = let e : moments n last.tasks ≡ moments n first.tasks = ap (λ (c : CycleValue). moments n c.tasks) have in omega (arith, e)
all_done n first last (s ∷ more) is have =
    let le : first.latest ≤ max first.latest s.0 = omega arith in
    let one = one_done n first have.0 (max first.latest s.0) s.1 is le have.1 in
    let rest = all_done n have.0 last more (stays_cycle first have.0 (max first.latest s.0) s.1 is le have.1) have.2 in
    omega (arith, one, rest)

-- no due moment comes within an interval of one
pub none_before : (t : CycledTask) (moment reading : ℕ) → 0 < t.interval → moment ≤ t.evaluated - t.evaluated % t.interval + t.interval → reading < moment → is_due reading t ≡ false
none_before t moment reading positive le lt =
    let whole = div-add-mod' t.evaluated t.interval in
    let below : reading < suc (t.evaluated / t.interval) * t.interval = rw (suc-mul (t.evaluated / t.interval) t.interval) (omega (arith, whole, le, lt)) in
    let few = (div-lt_iff_lt-mul positive).1 below in
    le-ltb (due_moments t.interval t.evaluated) (due_moments t.interval reading) (omega (arith, few))
