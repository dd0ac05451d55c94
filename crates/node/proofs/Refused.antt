-- Which keeper may have answered a fault before the start.
use Rattle.std.proofs.Common.{◌≡◌, ◌≢◌, ℕ, ◌<◌, ◌^◌, ◌++◌, List, [], ◌∷◌, Some, Result, Ok, Err, slice_get, length, refl, sym, ap, subst, ◌∙◌}
use Rattle.std.proofs.lemmas.Option.{none-some, same_Some}
use Rattle.std.proofs.lemmas.List.{append-nil}
use Rattle.task_codes.specs.CodeValue.{CodeValue}
use Rattle.plant.specs.PlantValue.{PlantValue, code_at}
use Rattle.keepers.specs.declared.keeper_fault.KeeperFault.{KeeperFault}
use Rattle.keepers.specs.Keepers.{Telling, TellsNoMore}
use Rattle.node_reports.specs.declared.run_fault.RunFault.{RunFault}
use Rattle.node_reports.specs.declared.run_fault.RunFault.TheVariants.{Memory, Keeper}
use Rattle.book.specs.Book.{BookValue}
use Rattle.node_reports.specs.declared.command.Command.{Command}
use Rattle.node_reports.specs.declared.journal.Journal.{Journal}
use Rattle.node_reports.specs.declared.node_fault.NodeFault.{NodeFault}
use Rattle.node_reports.specs.Reports.{IsCollectFault}
use Rattle.node_reports.specs.RunFaults.{IsStartFault}
use Rattle.node.specs.Raises.{MayNotTell, MayRefuse, OneMayRefuse, MayRaise, FirstMayRaise, ComesAfterFirst}

-- a fault of a task's telling, which could be told at first too
pub not_told : (first now : Telling) (plant : PlantValue) (resource task : ℕ) (code : CodeValue) (why : KeeperFault) → TellsNoMore first now → code_at plant (record { resource = resource; task = task }) ≡ Some code → now task code (Err why)
    → MayNotTell first plant resource
not_told first now plant resource task code why stays found told = (task, code, why, found, stays task code (Err why) told)

pub not_told_first : (first now : Telling) (plant : PlantValue) (resource : ℕ) → TellsNoMore first now → MayNotTell now plant resource → MayNotTell first plant resource
not_told_first first now plant resource stays may = (may.0, may.1, may.2, may.3, stays may.0 may.1 (Err may.2) may.4)

-- of want of memory nothing is said
pub of_memory : (P : Type 0) (f : RunFault) → f ≡ Memory → f ≡ Keeper → P
of_memory P f is e = absurd (subst IsStartFault (sym is ∙ e) tt)

-- a fault of the start is none of a keeper
pub none_refused : {K : Type 0} (f : RunFault) (gives : K → Result ℕ KeeperFault → Type 0) (tells : K → Telling) (plant : PlantValue) (keepers : List K) → IsStartFault f → OneMayRefuse gives tells plant keepers f
none_refused f gives tells plant keepers is = λ e. absurd (subst IsStartFault e is)

-- nor is any other that isn't told as Keeper's; the keeper that was asked last is told of
pub one_refused : {K : Type 0} (f : RunFault) (gives : K → Result ℕ KeeperFault → Type 0) (tells : K → Telling) (plant : PlantValue) (all asked : List K) (keeper : K) (rest : List K) (resource : ℕ) → all ≡ asked ++ keeper ∷ rest → resource ≡ length asked
    → (f ≡ Keeper → MayRefuse (gives keeper) (tells keeper) plant resource) → OneMayRefuse gives tells plant all f
one_refused {K} f gives tells plant all asked keeper rest resource are counted may = λ e.
    let at : slice_get all resource ≡ Some keeper = ap (λ (l : List K). slice_get l resource) are ∙ ap (slice_get (asked ++ keeper ∷ rest)) counted ∙ at_seam asked keeper rest in
    (resource, keeper, at, may e)
  where
    at_seam : (xs : List K) (x : K) (ys : List K) → slice_get (xs ++ x ∷ ys) (length xs) ≡ Some x
    at_seam [] x ys = refl
    at_seam (y ∷ xs) x ys = at_seam xs x ys

-- nor is what the collector answers
pub none_collected : {K : Type 0} (f : RunFault) (gives : K → Result ℕ KeeperFault → Type 0) (tells : K → Telling) (plant : PlantValue) (keepers : List K) (found : PlantValue) (commands : List Command) (book : BookValue) (journals : List Journal) (noted : List NodeFault)
    → IsCollectFault found commands book journals noted f → OneMayRefuse gives tells plant keepers f
none_collected f gives tells plant keepers found commands book journals noted is = λ e. absurd (subst (IsCollectFault found commands book journals noted) e is)

-- where a keeper was raised it may be
pub may_raise : (gives : Result ℕ KeeperFault → Type 0) (incarnation : ℕ) → incarnation < 2 ^ 32 → gives (Ok incarnation) → MayRaise gives
may_raise gives incarnation small given = (incarnation, small, given)

-- the first of those that were asked, and then this one
pub first_none : {K : Type 0} (gives : K → Result ℕ KeeperFault → Type 0) → FirstMayRaise gives []
first_none gives = λ keeper at. absurd (none-some keeper at)

pub first_asked : {K : Type 0} (gives : K → Result ℕ KeeperFault → Type 0) (all asked : List K) (keeper : K) (rest : List K) → all ≡ asked ++ keeper ∷ rest → FirstMayRaise gives asked → MayRaise (gives keeper) → FirstMayRaise gives all
first_asked {K} gives all asked keeper rest are first may = subst (FirstMayRaise gives) (sym are) (by asked first)
  where
    by : (asked : List K) → FirstMayRaise gives asked → FirstMayRaise gives (asked ++ keeper ∷ rest)
    by [] first = λ one at. subst (λ (k : K). MayRaise (gives k)) (same_Some keeper one at) may
    by (a ∷ asked) first = λ one at. first one at

pub first_all : {K : Type 0} (gives : K → Result ℕ KeeperFault → Type 0) (all asked rest : List K) → all ≡ asked ++ rest → rest ≡ [] → FirstMayRaise gives asked → FirstMayRaise gives all
first_all {K} gives all asked rest are none first = subst (FirstMayRaise gives) (sym (are ∙ ap (λ (l : List K). asked ++ l) none ∙ append-nil asked)) first
