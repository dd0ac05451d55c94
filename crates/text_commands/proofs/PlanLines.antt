-- The lines for the entries of a plan are made one by one.
use Rattle.std.proofs.Common.{◌≡◌, ℕ, ◌+◌, ◌<◌, ◌≤◌, ◌++◌, ◌||◌, Bool, true, false, List, [], ◌∷◌, length, take, get_or, filter, cond, Option, inl, inr, sym, ap, ap₂, subst, ◌∙◌, append_assoc, arith}
use Rattle.std.specs.List.{flat_map, list_any, enumerate_from, range_with_len}
use Rattle.std.specs.Option.{option_map}
use Rattle.std.specs.Io.KnownBytes.{Appends}
use Rattle.std.proofs.KnownBytes.{Appends-trans}
use Rattle.std.proofs.lemmas.Bool.{false≢true}
use Rattle.std.proofs.lemmas.List.{take_all, append-nil}
use Rattle.std.proofs.lemmas.List.Concat.{flat_map-append}
use Rattle.std.proofs.lemmas.List.Elements.{filter_more}
use Rattle.std.proofs.lemmas.List.Folds.{list_any_at, list_any_more}
use Rattle.std.proofs.lemmas.List.FromFn.{length-enumerate_from, get_or-enumerate_from, length-range_with_len, get_or-range_with_len}
use Rattle.std.proofs.lemmas.Option.{slice_get_cases}
use Rattle.lists.specs.Items.{items_or_none}
use Rattle.task_codes.specs.declared.due.Due.{Due}
use Rattle.task_codes.specs.declared.task_ref.TaskRef.{TaskRef}
use Rattle.task_codes.specs.CodeValue.{CodeValue}
use Rattle.evaluation.specs.Last.{same_task}
use Rattle.plant.specs.PlantValue.{PlantValue, codes_at, producers_at}
use Rattle.text_lines.specs.Sending.{Sends}
use Rattle.text_lines.proofs.Sending.{line_made}
use Rattle.text_commands.specs.declared.plan_form.PlanForm.{PlanForm}
use Rattle.text_commands.specs.PlanText.{has_taker, entry_lines, plan_lines}

-- a code takes from a task
abbrev takes : TaskRef → CodeValue → Bool
takes q c = list_any (λ p. same_task p q) c.producers

-- a task takes what its code takes; without a code nothing
abbrev taken : TaskRef → Option CodeValue → Bool
taken q o = list_any (λ p. same_task p q) (items_or_none (option_map (λ (c : CodeValue). c.producers) o))

-- nor does the next task of a resource take from it
pub none_more : (plant : PlantValue) (resource k : ℕ) (q : TaskRef) → k < length (codes_at plant resource)
    → list_any (λ (c : CodeValue). list_any (λ p. same_task p q) c.producers) (take k (codes_at plant resource)) ≡ false
    → list_any (λ p. same_task p q) (producers_at plant (record { resource = resource; task = k })) ≡ false
    → list_any (λ (c : CodeValue). list_any (λ p. same_task p q) c.producers) (take (k + 1) (codes_at plant resource)) ≡ false
none_more plant resource k q lt none misses = elim ((slice_get_cases (codes_at plant resource) k).1) [
  | inl found ↦ (let last : takes q (get_or (codes_at plant resource) k found.0) ≡ false = ap (takes q) found.3 ∙ sym (ap (taken q) found.2) ∙ misses in
      list_any_more (takes q) (codes_at plant resource) k found.0 lt ∙ ap₂ (λ a b. a || b) none last)
  | inr past ↦ (let long = past.0 in absurd (omega (arith, lt, long)))
]

-- one that takes from it is found
pub taker_found : (plant : PlantValue) (resource k : ℕ) (q : TaskRef)
    → list_any (λ p. same_task p q) (producers_at plant (record { resource = resource; task = k })) ≡ true → has_taker plant resource q ≡ true
taker_found plant resource k q takes_it = elim ((slice_get_cases (codes_at plant resource) k).1) [
  | inl found ↦ list_any_at (takes q) (codes_at plant resource) k found.0 found.1 (ap (takes q) found.3 ∙ sym (ap (taken q) found.2) ∙ takes_it)
  | inr past ↦ absurd (false≢true (sym (ap (taken q) past.1) ∙ takes_it))
]

-- the lines of the takers up to a resource
abbrev up_to : (ℕ → List ℕ) → (ℕ → Bool) → ℕ → ℕ → List ℕ
up_to line p n k = flat_map line (filter p (take k (range_with_len 0 n)))

-- those of one resource more
one_more : (line : ℕ → List ℕ) (p : ℕ → Bool) (n k : ℕ) → k < n → up_to line p n (k + 1) ≡ up_to line p n k ++ flat_map line (cond (p k) (k ∷ []) [])
one_more line p n k lt =
    let within : k < length (range_with_len 0 n) = omega (arith, lt, length-range_with_len 0 n) in
    let counted : 0 + k ≡ k = omega arith in
    let at : get_or (range_with_len 0 n) k 0 ≡ k = get_or-range_with_len 0 n k 0 lt ∙ counted in
    ap (flat_map line) (filter_more p (range_with_len 0 n) k 0 within ∙ ap (λ j. filter p (take k (range_with_len 0 n)) ++ cond (p j) (j ∷ []) []) at)
    ∙ flat_map-append line (filter p (take k (range_with_len 0 n))) (cond (p k) (k ∷ []) [])

-- a taker's line was made
pub one_delivered : (line : ℕ → List ℕ) (p : ℕ → Bool) (n k : ℕ) (old before after : List ℕ) → k < n → p k ≡ true
    → before ≡ old ++ flat_map line (filter p (take k (range_with_len 0 n))) → after ≡ before ++ line k
    → after ≡ old ++ flat_map line (filter p (take (k + 1) (range_with_len 0 n)))
one_delivered line p n k old before after lt is all made =
    let last : up_to line p n (k + 1) ≡ up_to line p n k ++ line k = one_more line p n k lt ∙ ap (λ b. up_to line p n k ++ flat_map line (cond b (k ∷ []) [])) is ∙ ap (λ t. up_to line p n k ++ t) (append-nil (line k)) in
    made ∙ ap (λ t. t ++ line k) all ∙ append_assoc old (up_to line p n k) (line k) ∙ ap (λ t. old ++ t) (sym last)

-- one that is no taker has none
pub one_passed : (line : ℕ → List ℕ) (p : ℕ → Bool) (n k : ℕ) (old before : List ℕ) → k < n → p k ≡ false
    → before ≡ old ++ flat_map line (filter p (take k (range_with_len 0 n)))
    → before ≡ old ++ flat_map line (filter p (take (k + 1) (range_with_len 0 n)))
one_passed line p n k old before lt is all =
    let same : up_to line p n (k + 1) ≡ up_to line p n k = one_more line p n k lt ∙ ap (λ b. up_to line p n k ++ flat_map line (cond b (k ∷ []) [])) is ∙ append-nil (up_to line p n k) in
    all ∙ ap (λ t. old ++ t) (sym same)

-- these are all of them
pub all_delivered : (line : ℕ → List ℕ) (p : ℕ → Bool) (n k : ℕ) → n ≤ k → flat_map line (filter p (take k (range_with_len 0 n))) ≡ flat_map line (filter p (range_with_len 0 n))
all_delivered line p n k le = ap (λ xs. flat_map line (filter p xs)) (take_all k (range_with_len 0 n) (omega (arith, le, length-range_with_len 0 n)))

-- the next entry's lines were made
pub entry_made : (plant : PlantValue) (form : PlanForm) (dues : List Due) (i : ℕ) (d : Due) (rest after : List ℕ) (old new : Option (List ℕ)) → i < length dues
    → Sends (flat_map (entry_lines plant form) (take i (enumerate_from 1 dues))) rest old new → after ≡ rest ++ entry_lines plant form (i + 1, get_or dues i d)
    → Sends (flat_map (entry_lines plant form) (take (i + 1) (enumerate_from 1 dues))) after old new
entry_made plant form dues i d rest after old new lt sends is =
    let place : 1 + i ≡ i + 1 = omega arith in
    let numbered : get_or (enumerate_from 1 dues) i (0, d) ≡ (i + 1, get_or dues i d) = get_or-enumerate_from 1 dues i (0, d) lt ∙ ap (λ (m : ℕ). (m, get_or dues i d)) place in
    line_made (entry_lines plant form) (enumerate_from 1 dues) i (0, d) rest after old new (omega (arith, lt, length-enumerate_from 1 dues)) sends
    (is ∙ ap (λ x. rest ++ entry_lines plant form x) (sym numbered))

-- behind the last entry's lines all were written
pub all_written : (plant : PlantValue) (form : PlanForm) (dues : List Due) (i : ℕ) (rest : List ℕ) (old mid new : Option (List ℕ)) → length dues ≤ i
    → Sends (flat_map (entry_lines plant form) (take i (enumerate_from 1 dues))) rest old mid → Appends mid new rest → Appends old new (plan_lines plant form dues)
all_written plant form dues i rest old mid new le sends more =
    let long : length (enumerate_from 1 dues) ≤ i = omega (arith, le, length-enumerate_from 1 dues) in
    subst (Appends old new) (sends.whole ∙ ap (flat_map (entry_lines plant form)) (take_all i (enumerate_from 1 dues) long)) (Appends-trans old mid new sends.sent rest sends.appended more)
