-- Moments begin one after the other, or several at once.
use Rattle.std.proofs.Common.{◌≡◌, ℕ, zero, suc, ◌+◌, ◌-◌, ◌*◌, ◌^◌, ◌<◌, ◌≤◌, cond, List, Option, Some, None, get_or, length, slice_get, refl, sym, ap, ◌∙◌, subst, add-one, mul-le-mul_left, arith}
use Rattle.std.specs.Option.{option_map_or}
use Rattle.std.specs.Ordering.{nat_cmp, ordering_then}
use Rattle.std.specs.declared.cmp.Ordering.{Ordering}
use Rattle.std.specs.declared.cmp.Ordering.TheVariants.{Less}
use Rattle.std.proofs.lemmas.Bool.{ne_eqb}
use Rattle.std.proofs.lemmas.Bool.Decides.{nat_tests}
use Rattle.std.proofs.lemmas.Option.{get_or_from_slice_get, slice_get_past, slice_get_within}
use Rattle.lists.proofs.Members.{all_at}
use Rattle.lists.proofs.Places.{element_at}
use Rattle.task_codes.specs.declared.due.Due.{Due}
use Rattle.task_codes.specs.declared.timing.Timing.{Timing}
use Rattle.task_codes.specs.Plan.{IsDue, IsPlanOf, due_cmp}
use Rattle.traces.specs.Times.{AreTimes, each, planned}

pub each_times : (step moments : ℕ) → step * moments < 2 ^ 64 → AreTimes (each step) moments
each_times step moments small = record {
  first = omega arith;
  order = λ k lt. mul-le-mul_left step (omega arith);
  small = small;
}

earlier : (x y : ℕ) (next : Ordering) → ordering_then (nat_cmp x y) next ≡ Less → x ≤ y
earlier x y next less = grind (arith, nat_tests)

module _ (resources : List (List Timing)) (until : ℕ) (dues : List Due) (plan : IsPlanOf resources until dues) where
  -- the next entry isn't before one
  in_turn : (k : ℕ) (a b : Due) → slice_get dues k ≡ Some a → slice_get dues (suc k) ≡ Some b → a.moment ≤ b.moment
  in_turn k a b is_a is_b =
      let ordered = plan.in_order k (suc k) a (omega arith) (slice_get_within dues (suc k) b is_b) in
      let here = subst (λ (x : Due). due_cmp resources x (get_or dues (suc k) a) ≡ Less) (get_or_from_slice_get dues k a a is_a) ordered in
      earlier a.moment b.moment _ (subst (λ (x : Due). due_cmp resources a x ≡ Less) (get_or_from_slice_get dues (suc k) b a is_b) here)

  abbrev moment_in : Option Due → ℕ
  moment_in found = option_map_or (λ (d : Due). d.moment) found (until + 1)

  at_entry : (k : ℕ) → planned dues until (suc k) ≡ moment_in (slice_get dues k)
  at_entry k =
      let back : suc k - 1 ≡ k = omega arith in
      ap (λ b. cond b 0 (moment_in (slice_get dues (suc k - 1)))) (ne_eqb (suc k) 0 (λ e. omega (arith, e))) ∙ ap (λ i. moment_in (slice_get dues i)) back

  later : (k : ℕ) (a : Due) → slice_get dues k ≡ Some a → a.moment ≤ moment_in (slice_get dues (suc k))
  later k a is = by (slice_get dues (suc k)) refl
    where
      by : (next : Option Due) → slice_get dues (suc k) ≡ next → a.moment ≤ moment_in next
      by (Some b) is_b = in_turn k a b is is_b
      by None past = let due : IsDue resources until a = all_at (IsDue resources until) dues k a plan.each is in omega (arith, due.within)

  rises_at : (k : ℕ) → k < length dues + 1 → planned dues until k ≤ planned dues until (k + 1)
  rises_at zero lt = omega arith
  rises_at (suc k) lt =
      let here = element_at dues k (omega (arith, lt)) in
      let now : planned dues until (suc k) ≡ here.0.moment = at_entry k ∙ ap moment_in here.1 in
      let next : planned dues until (suc k + 1) ≡ moment_in (slice_get dues (suc k)) = ap (planned dues until) (add-one (suc k)) ∙ at_entry (suc k) in
      subst (λ n. planned dues until (suc k) ≤ n) (sym next) (subst (λ n. n ≤ moment_in (slice_get dues (suc k))) (sym now) (later k here.0 here.1))

  pub planned_times : until + 1 < 2 ^ 64 → AreTimes (planned dues until) (length dues + 1)
  planned_times small =
      let end : planned dues until (length dues + 1) ≡ until + 1 =
      ap (planned dues until) (add-one (length dues)) ∙ at_entry (length dues) ∙ ap moment_in (slice_get_past dues (length dues) (omega arith)) in
      record { first = refl; order = rises_at; small = subst (λ n. n < 2 ^ 64) (sym end) small }
