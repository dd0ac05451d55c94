-- What doesn't change of a resource in its thread.
use Rattle.std.specs.Prelude.{◌≡◌, ℕ, ◌+◌, ◌<◌, List, [], ◌∷◌, Some, Result, Ok, map, slice_get}
use Rattle.std.specs.List.{AllZip}
use Rattle.std.specs.declared.thread.PromisedHandle.{PromisedHandle}
use Rattle.std_blocks.specs.declared.value.Value.{Value}
use Rattle.plant.specs.PlantValue.{PlantValue}
use Rattle.keepers.specs.Keepers.{Telling}
use Rattle.keepers.specs.declared.keeper_fault.KeeperFault.{KeeperFault}
use Rattle.node.specs.declared.threads.lawful_for.LawfulFor.{LawfulFor}
use Rattle.node.specs.declared.threads.raised.Raised.{Raised}
use Rattle.node.specs.declared.threads.ended.Ended.{Ended}
use Rattle.keepers.specs.Openings.{TellsOpening}
use Rattle.node_reports.specs.declared.journal.Journal.{Journal}
use Rattle.node.specs.Steps.States.{journal_of}
use Rattle.exchange_core.specs.CoreValue.{AreOpeningOf}

-- the plant, the first incarnation of each resource, the greatest number of an evaluation, its own first incarnation, and
-- the retained values with which its tasks open
pub record WorkerValue : Type 0 where
  pub plant : PlantValue
  pub firsts : List ℕ
  pub max_number : ℕ
  pub first : ℕ
  pub opening : List (List Value)

-- a worker is of this plant and these first incarnations, and numbers its evaluations up to this
abbrev pub IsWorkerFor : PlantValue → List ℕ → ℕ → WorkerValue → Type 0
IsWorkerFor plant firsts max_number w = (w.plant ≡ plant) × (w.firsts ≡ firsts) × (w.max_number ≡ max_number)

-- a thread promises what is lawful for this plant, these first incarnations and this limit
abbrev pub IsPromisedFor : PlantValue → List ℕ → ℕ → LawfulFor → Type 0
IsPromisedFor plant firsts max_number p =
    (p.plant.now ≡ plant) × (p.firsts.now ≡ firsts) × (p.max_number ≡ max_number)

-- the first incarnations of workers, and of the journals that threads leave
abbrev pub firsts_of_workers : List WorkerValue → List ℕ
firsts_of_workers workers = map (λ (w : WorkerValue). w.first) workers

abbrev pub firsts_of_ended : {K : Type 0} → List (Ended K) → List ℕ
firsts_of_ended ended = map (λ e. e.journal.first) ended

-- those that threads promise
abbrev pub first_promised : {K : Type 0} → PromisedHandle (Ended K) LawfulFor → ℕ
first_promised h = h.promise.first

-- what the tasks open with: of raised keepers, of workers, as threads promise, and of the journals that they leave
abbrev pub openings_of_raised : {K : Type 0} → List (Raised K) → List (List (List Value))
openings_of_raised raised = map (λ r. r.opening) raised

abbrev pub openings_of_workers : List WorkerValue → List (List (List Value))
openings_of_workers workers = map (λ (w : WorkerValue). w.opening) workers

abbrev pub opening_promised : {K : Type 0} → PromisedHandle (Ended K) LawfulFor → List (List Value)
opening_promised h = (journal_of h.promise.began.value).opening

abbrev pub openings_of_ended : {K : Type 0} → List (Ended K) → List (List (List Value))
openings_of_ended ended = map (λ e. e.journal.opening) ended

-- the journals that threads leave
abbrev pub journals_of_ended : {K : Type 0} → List (Ended K) → List Journal
journals_of_ended ended = map (λ e. e.journal) ended

-- each of these openings is what the keeper at its place may tell that it keeps of the tasks of the resource there
abbrev pub AreTold : {K : Type 0} → (K → Telling) → PlantValue → List K → List (List (List Value)) → Type 0
AreTold {K} tells plant keepers openings =
    (k : ℕ) (keeper : K) (opening : List (List Value)) → slice_get keepers k ≡ Some keeper
    → slice_get openings k ≡ Some opening → TellsOpening (tells keeper) plant k opening

-- each of these first incarnations is above the number that the keeper at its place held last
abbrev pub AreAbove : {K : Type 0} → (K → ℕ) → List K → List ℕ → Type 0
AreAbove last keepers firsts = AllZip (λ held first. held < first) (map last keepers) firsts

-- each of these first incarnations is what the keeper at its place answers to a raise
abbrev pub AreRaised : {K : Type 0} → (K → Result ℕ KeeperFault → Type 0) → List K → List ℕ → Type 0
AreRaised gives keepers firsts = AllZip (λ keeper first. gives keeper (Ok first)) keepers firsts

-- the numbers that raised keepers held last
abbrev pub lasts_of : {K : Type 0} → (K → ℕ) → List (Raised K) → List ℕ
lasts_of last raised = map (λ r. last r.keeper) raised

-- what a raised keeper has kept of the tasks of a resource suits them, and may still be told
pub record IsOpened {K : Type 0} (tells : K → Telling) (plant : PlantValue) (resource : ℕ) (r : Raised K) : Type 0 where
  pub suits : AreOpeningOf plant resource r.opening
  pub told : TellsOpening (tells r.keeper) plant resource r.opening

-- and so it is of raised keepers, which are those of the resources from this one on
abbrev pub AreOpened : {K : Type 0} → (K → Telling) → PlantValue → ℕ → List (Raised K) → Type 0
AreOpened tells plant resource [] = Unit {0}
AreOpened tells plant resource (r ∷ raised) =
    IsOpened tells plant resource r × AreOpened tells plant (resource + 1) raised
