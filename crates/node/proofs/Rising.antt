-- In which incarnations a resource was, in runs one after the other.
use Rattle.std.proofs.Common.{arith, ◌≡◌, ◌⊎◌, inl, inr, ℕ, ◌<◌, ◌≤◌, ◌++◌, List, [], ◌∷◌, Some, length, slice_get, sym, ap, ◌∙◌, subst}
use Rattle.std.specs.Prelude.{Contains, reverse}
use Rattle.std.specs.List.{filter_map}
use Rattle.std.proofs.lemmas.List.{reverse-append, reverse-reverse}
use Rattle.std.proofs.lemmas.List.Elements.{filter_map-append, Contains-append_cases}
use Rattle.std.proofs.lemmas.Option.{slice_get_within}
use Rattle.lists.proofs.Members.{cons_cases, all_at}
use Rattle.lists.proofs.Places.{element_at}
use Rattle.std_blocks.specs.declared.value.Value.{Value}
use Rattle.plant.specs.PlantValue.{PlantValue}
use Rattle.keepers.specs.Keepers.{Telling}
use Rattle.node_reports.specs.declared.journal.Journal.{Journal}
use Rattle.node_reports.specs.declared.step.Step.{Step}
use Rattle.node_reports.specs.declared.step.Step.TheVariants.{Took, Made, Restarted, Heard}
use Rattle.node_reports.specs.Journals.{incarnation_after, firsts_of, EachAfter, Follows, IsLawful}
use Rattle.node_reports.specs.Reports.{incarnations_of, restarted_in}
use Rattle.node.specs.Keeping.{KeepsLeft}
use Rattle.node.specs.Successors.{RunsRise}
use Rattle.node.proofs.Alls.{zip_at, zip_long}

-- nothing is in an empty list
in_none : (n : ℕ) → Contains [] n → ⊥
in_none n there = omega (arith, there.1)

-- the present incarnation is none before the first one
from_first : (plant : PlantValue) (firsts : List ℕ) (max_number resource first : ℕ) (opening : List (List Value)) (before : List Step) → EachAfter (Follows plant firsts max_number resource first opening) before
    → first ≤ incarnation_after first before
from_first plant firsts max_number resource first opening [] each = omega arith
from_first plant firsts max_number resource first opening (Took x ∷ before) each = from_first plant firsts max_number resource first opening before each.1
from_first plant firsts max_number resource first opening (Made x ∷ before) each = from_first plant firsts max_number resource first opening before each.1
from_first plant firsts max_number resource first opening (Restarted ticket incarnation ∷ before) each =
    let least = from_first plant firsts max_number resource first opening before each.1 in
    let above = each.0 in
    omega (arith, least, above)
from_first plant firsts max_number resource first opening (Heard of heard ∷ before) each = from_first plant firsts max_number resource first opening before each.1

-- the incarnations of the steps' restarts, that of the newest step last
newest_last : (s : Step) (before : List Step) → filter_map restarted_in (reverse (s ∷ before)) ≡ filter_map restarted_in (reverse before) ++ filter_map restarted_in (s ∷ [])
newest_last s before = ap (filter_map restarted_in) (reverse-append (s ∷ []) before) ∙ filter_map-append restarted_in (reverse before) (s ∷ [])

-- each is above the first one, and none is after the present one
between : (plant : PlantValue) (firsts : List ℕ) (max_number resource first : ℕ) (opening : List (List Value)) (before : List Step) → EachAfter (Follows plant firsts max_number resource first opening) before → (n : ℕ)
    → Contains (filter_map restarted_in (reverse before)) n → (first < n) × (n ≤ incarnation_after first before)
between plant firsts max_number resource first opening [] each n there = absurd (in_none n there)
between plant firsts max_number resource first opening (s ∷ before) each n there =
    by s each (λ lawful was. between plant firsts max_number resource first opening before lawful n was)
    (Contains-append_cases (filter_map restarted_in (reverse before)) (filter_map restarted_in (s ∷ [])) n (subst (λ (l : List ℕ). Contains l n) (newest_last s before) there))
  where
    by : (s : Step) → EachAfter (Follows plant firsts max_number resource first opening) (s ∷ before)
        → (EachAfter (Follows plant firsts max_number resource first opening) before → Contains (filter_map restarted_in (reverse before)) n → (first < n) × (n ≤ incarnation_after first before))
        → Contains (filter_map restarted_in (reverse before)) n ⊎ Contains (filter_map restarted_in (s ∷ [])) n → (first < n) × (n ≤ incarnation_after first (s ∷ before))
    by (Took x) each earlier (inl was) = earlier each.1 was
    by (Took x) each earlier (inr here) = absurd (in_none n here)
    by (Made x) each earlier (inl was) = earlier each.1 was
    by (Made x) each earlier (inr here) = absurd (in_none n here)
    by (Heard of heard) each earlier (inl was) = earlier each.1 was
    by (Heard of heard) each earlier (inr here) = absurd (in_none n here)
    by (Restarted ticket incarnation) each earlier (inl was) =
        let above = each.0 in
        let so = earlier each.1 was in
        let least = so.0 in
        let most = so.1 in
        (least, omega (arith, most, above))
    by (Restarted ticket incarnation) each earlier (inr here) = one (cons_cases incarnation [] n here)
      where
        one : (incarnation ≡ n) ⊎ Contains [] n → (first < n) × (n ≤ incarnation)
        one (inl is) =
            let above = each.0 in
            let least = from_first plant firsts max_number resource first opening before each.1 in
            (omega (arith, is, above, least), omega (arith, is))
        one (inr none) = absurd (in_none n none)

-- those of a lawful journal
of_journal : (plant : PlantValue) (firsts : List ℕ) (max_number : ℕ) (j : Journal) → IsLawful plant firsts max_number j → (n : ℕ) → Contains (incarnations_of j) n
    → (j.first ≤ n) × (n ≤ incarnation_after j.first (reverse j.steps))
of_journal plant firsts max_number j lawful n there = by (cons_cases j.first (filter_map restarted_in j.steps) n there)
  where
    by : (j.first ≡ n) ⊎ Contains (filter_map restarted_in j.steps) n → (j.first ≤ n) × (n ≤ incarnation_after j.first (reverse j.steps))
    by (inl is) =
        let least = from_first plant firsts max_number j.resource j.first j.opening (reverse j.steps) lawful.follows in
        (omega (arith, is), omega (arith, is, least))
    by (inr later) =
        let so = between plant firsts max_number j.resource j.first j.opening (reverse j.steps) lawful.follows n (subst (λ (steps : List Step). Contains (filter_map restarted_in steps) n) (sym (reverse-reverse j.steps)) later) in
        let least = so.0 in
        (omega (arith, least), so.1)

pub runs_rise : {K : Type 0} (last : K → ℕ) (tells : K → Telling) → RunsRise last tells
runs_rise {K} last tells = λ plant next max_number limit faults keepers old new are kept are_new above k earlier later a b at found there there_later.
    let within = slice_get_within old k a at in
    let many = zip_long (λ (keeper : K) (j : Journal). KeepsLeft (last keeper) (tells keeper) plant faults j) keepers old kept in
    let keeper = element_at keepers k (omega (arith, within, many)) in
    let left = zip_at (λ (one : K) (j : Journal). KeepsLeft (last one) (tells one) plant faults j) keepers old k keeper.0 a kept keeper.1 at in
    let below = left.incarnation in
    let begun = above k keeper.0 b keeper.1 found in
    let most = (of_journal plant (firsts_of old) max_number a (all_at (IsLawful plant (firsts_of old) max_number) old k a are.lawful at) earlier there).1 in
    let least = (of_journal next (firsts_of new) limit b (all_at (IsLawful next (firsts_of new) limit) new k b are_new.lawful found) later there_later).0 in
    omega (arith, most, below, begun, least)
