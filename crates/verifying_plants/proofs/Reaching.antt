-- Which tasks are reached from others.
use Rattle.std.proofs.Common.{◌≡◌, ◌↔◌, ℕ, ◌+◌, ◌≤◌, true, List, [], ◌∷◌, ◌++◌, Some, length, refl, sym, ap, ◌∙◌, subst, inl, inr}
use Rattle.std.specs.Prelude.{slice_get}
use Rattle.std.specs.Global.{Vec}
use Rattle.std.specs.List.{flat_map}
use Rattle.std.proofs.lemmas.List.Concat.{flat_map-cons}
use Rattle.std.proofs.lemmas.Option.{slice_get_within}
use Rattle.lists.specs.Among.{Among}
use Rattle.lists.proofs.Each.{slice_get-among}
use Rattle.task_codes.specs.declared.task_ref.TaskRef.{TaskRef}
use Rattle.task_codes.specs.CodeValue.{lists_of}
use Rattle.plant.specs.PlantValue.{PlantValue, producers_at}
use Rattle.evaluation.specs.Last.{same_task}
use Rattle.plant_claims.specs.declared.output.Output.{Output}
use Rattle.plant_claims.specs.Steps.Scoping.{is_listed, tasks_of_all, AddsTasks, AreClosedBelow}
use Rattle.plant_claims.proofs.Distinct.{passes-longer}
use Rattle.plant_claims.proofs.Listing.{listed-among, completes-none, completes-more, completes-all}
use Rattle.plant_claims.proofs.RowsTried.{among-place}
use Rattle.verifying_plants.specs.ZeroWords.{asked_tasks, tasks_of, IsReached, listed, taken}
use Rattle.verifying_plants.specs.Steps.Reaching.{AreReached, Reaches, ReachesTo}

-- what is reached from tasks is reached from those from which these are
reached-onward : (plant : PlantValue) (from to : List TaskRef) → AreReached plant to from → {t : TaskRef} → IsReached plant from t → IsReached plant to t
reached-onward plant from to are (listed {t} among) = are t among
reached-onward plant from to are (taken {t} {p} reached among) = taken (reached-onward plant from to are reached) among

-- nothing is done yet
pub reaches-none : (plant : PlantValue) (old : List TaskRef) → ReachesTo plant 0 old old
reaches-none plant old = record { completes = completes-none plant old; only = λ t among. listed among }

-- one task after the other
pub reaches-more : (plant : PlantValue) (k : ℕ) (old now new : List TaskRef) (t : TaskRef) → ReachesTo plant k old now → slice_get now k ≡ Some t
    → AddsTasks now new (producers_at plant t) → ReachesTo plant (k + 1) old new
reaches-more plant k old now new t so_far at adds = record {
  completes = completes-more plant k old now new t so_far.completes at adds;
  only = λ u among. elim (adds.only u among) [
    | inl before ↦ so_far.only u before
    | inr last ↦ taken (so_far.only t (slice_get-among now k t at)) last
  ];
}

-- all is done
pub reaches-all : (plant : PlantValue) (k : ℕ) (old new : List TaskRef) → ReachesTo plant k old new → length new ≤ k → Reaches plant old new
reaches-all plant k old new so_far past = record { completes = completes-all plant k old new so_far.completes past; only = so_far.only }

-- what is reached is listed
reached-listed : (plant : PlantValue) (from tasks : List TaskRef) → ((t : TaskRef) → Among t from → is_listed tasks t ≡ true) → AreClosedBelow plant (length tasks) tasks
    → {t : TaskRef} → IsReached plant from t → is_listed tasks t ≡ true
reached-listed plant from tasks first closed (listed {t} among) = first t among
reached-listed plant from tasks first closed (taken {t} {p} reached among) =
    let at = among-place tasks t (listed-among tasks t (reached-listed plant from tasks first closed reached)) in
    closed at.0 t p (slice_get_within tasks at.0 t at.1) at.1 among

claims-same : (claims : List (Vec Output)) → flat_map tasks_of (lists_of claims) ≡ flat_map (λ (claim : Vec Output). tasks_of claim.items) claims
claims-same [] = refl
claims-same (claim ∷ claims) =
    flat_map-cons tasks_of claim.items (lists_of claims) ∙ ap (λ l. tasks_of claim.items ++ l) (claims-same claims)
    ∙ sym (flat_map-cons (λ (c : Vec Output). tasks_of c.items) claim claims)

asked-same : (given : List Output) (claims : List (Vec Output)) → asked_tasks given (lists_of claims) ≡ tasks_of_all claims given
asked-same given claims = ap (λ l. tasks_of given ++ l) (claims-same claims)

-- the tasks that came are those that are reached
pub tasks-reached : (plant : PlantValue) (given : List Output) (claims : List (Vec Output)) (first tasks : List TaskRef) → AddsTasks [] first (tasks_of_all claims given) → Reaches plant first tasks
    → (t : TaskRef) → (is_listed tasks t ≡ true) ↔ IsReached plant (asked_tasks given (lists_of claims)) t
tasks-reached plant given claims first tasks adds reaches t = (
  (λ on. subst (λ l. IsReached plant l t) (sym (asked-same given claims)) (reached-onward plant first (tasks_of_all claims given) from_first (reaches.only t (listed-among tasks t on)))),
  (λ reached. reached-listed plant (tasks_of_all claims given) tasks all_listed reaches.completes.closed (subst (λ l. IsReached plant l t) (asked-same given claims) reached)),
) where
  from_first : AreReached plant (tasks_of_all claims given) first
  from_first u among = elim (adds.only u among) [ inl none ↦ absurd none | inr asked ↦ listed asked ]

  all_listed : (u : TaskRef) → Among u (tasks_of_all claims given) → is_listed tasks u ≡ true
  all_listed u among = passes-longer (same_task u) first tasks reaches.completes.longer (adds.listed u among)
