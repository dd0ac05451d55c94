-- What a plan has, and a cycle.
use Rattle.std.proofs.Common.{◌≡◌, ◌≢◌, ℕ, ◌*◌, ◌/◌, ◌<◌, ◌≤◌, true, false, List, Option, refl, sym, ap, subst, ◌∙◌, arith, ltb-true, lt-ltb, lt_of_lt_of_le, div-mul-le_self, div-lt_iff_lt-mul, unwrap_or}
use Rattle.std.specs.Ordering.{nat_cmp, ordering_then, is_lt}
use Rattle.std.specs.Option.{option_map}
use Rattle.std.specs.declared.cmp.Ordering.{Ordering}
use Rattle.std.specs.declared.cmp.Ordering.TheVariants.{Less, Equal}
use Rattle.std.specs.Cmp.{nat_cmp_is}
use Rattle.std.proofs.lemmas.Bool.Decides.{nat_tests}
use Rattle.task_codes.specs.declared.timing.Timing.{Timing}
use Rattle.task_codes.specs.Plan.{due_cmp, priority_at, IsDue}
use Rattle.cycle.specs.declared.cycled_task.CycledTask.{CycledTask}
use Rattle.cycle.specs.Cycle.{cycled_cmp, due_moments, is_due}
use Rattle.cycle.specs.Laws.{entry, IsTimed}
use Rattle.cycle.proofs.Cycling.{some_same}
use Rattle.cycle.proofs.Counting.{multiples}

pub is_planned : (timings : List (List Timing)) (n : ℕ) (t : CycledTask) (reading : ℕ) → 0 < t.interval → IsTimed timings n t → is_due reading t ≡ true
    → (moment : ℕ) × (t.evaluated < moment) × IsDue timings reading (entry n moment t)
is_planned timings n t reading positive timed due =
    let times = reading / t.interval in
    let less : t.evaluated < times * t.interval = (div-lt_iff_lt-mul positive).0 (ltb-true (due_moments t.interval t.evaluated) (due_moments t.interval reading) due) in (
      times * t.interval,
      less,
      record {
        timing = record { interval = t.interval; priority = t.priority };
        stands = timed;
        times = times;
        multiple = refl;
        begun = omega (arith, less);
        within = div-mul-le_self reading t.interval;
      },
    )

pub planned_is : (timings : List (List Timing)) (n : ℕ) (t : CycledTask) (reading moment : ℕ) → 0 < t.interval → IsTimed timings n t → t.evaluated < moment → IsDue timings reading (entry n moment t) → is_due reading t ≡ true
planned_is timings n t reading moment positive timed later is =
    let same : is.timing.interval ≡ t.interval = ap (λ (x : Timing). x.interval) (some_same (sym is.stands ∙ timed)) in
    let at : moment ≡ is.times * t.interval = is.multiple ∙ ap (λ (i : ℕ). is.times * i) same in
    let few : due_moments t.interval t.evaluated < is.times = (div-lt_iff_lt-mul positive).1 (subst (λ (m : ℕ). t.evaluated < m) at later) in
    let many : is.times ≤ due_moments t.interval reading = (multiples t.interval reading is.times positive).1 (subst (λ (m : ℕ). m ≤ reading) at is.within) in
    lt-ltb (due_moments t.interval t.evaluated) (due_moments t.interval reading) (lt_of_lt_of_le few many)

less_at : (x y : ℕ) → x < y → nat_cmp x y ≡ Less
less_at x y lt = sym (nat_cmp_is x y Less lt)

even_at : (x y : ℕ) → x ≡ y → nat_cmp x y ≡ Equal
even_at x y e = sym (nat_cmp_is x y Equal e)

-- by priority and place
abbrev place_cmp : CycledTask → CycledTask → Ordering
place_cmp a b = ordering_then (nat_cmp a.priority b.priority) (nat_cmp a.task b.task)

strict : (a b : CycledTask) → is_lt (cycled_cmp b a) ≡ false → a.task ≢ b.task → place_cmp a b ≡ Less
strict a b later apart = grind (arith, nat_tests)

priority_is : (timings : List (List Timing)) (n : ℕ) (t : CycledTask) → IsTimed timings n t → priority_at timings (record { resource = n; task = t.task }) ≡ t.priority
priority_is timings n t timed = ap (λ (o : Option Timing). unwrap_or (option_map (λ (x : Timing). x.priority) o) 0) timed

pub in_order : (timings : List (List Timing)) (n moment : ℕ) (a b : CycledTask) → IsTimed timings n a → IsTimed timings n b → a.task ≢ b.task → is_lt (cycled_cmp b a) ≡ false
    → due_cmp timings (entry n moment a) (entry n moment b) ≡ Less
in_order timings n moment a b is of apart later =
    rw (even_at moment moment refl, even_at n n refl, priority_is timings n a is, priority_is timings n b of) (strict a b later apart)
