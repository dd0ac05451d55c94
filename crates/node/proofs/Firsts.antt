-- In which incarnations the journals begin, and with what.
use Rattle.std.proofs.Common.{◌≡◌, ℕ, Result, Ok, ◌<◌, List, [], ◌∷◌, ◌++◌, ◌+◌, length, map, get_or, slice_index, length-append, Some, slice_get, refl, ap, sym, ◌∙◌, subst, arith}
use Rattle.std.specs.Option.{option_map}
use Rattle.std.specs.declared.thread.PromisedHandle.{PromisedHandle}
use Rattle.std.proofs.lemmas.List.{length-map}
use Rattle.std.proofs.lemmas.Option.{slice_get-map, same_Some, slice_get_within, slice_get_read, get_or_from_slice_get}
use Rattle.lists.proofs.Places.{element_at, same_by_each}
use Rattle.keepers.specs.declared.keeper_fault.KeeperFault.{KeeperFault}
use Rattle.node_reports.specs.declared.journal.Journal.{Journal}
use Rattle.node_reports.specs.Journals.{BeginAbove}
use Rattle.node.specs.Raises.{BeginAsRaised}
use Rattle.node.specs.declared.threads.ended.Ended.{Ended}
use Rattle.node.specs.declared.threads.lawful_for.LawfulFor.{LawfulFor}
use Rattle.node.specs.Steps.Working.{WorkerValue, firsts_of_workers, firsts_of_ended, openings_of_ended, journals_of_ended, AreAbove, AreRaised}
use Rattle.node.proofs.Alls.{zip_at}

pub firsts_parted : {K : Type 0} (es : List (Ended K)) → map (λ (j : Journal). j.first) (journals_of_ended es) ≡ firsts_of_ended es
firsts_parted [] = refl
firsts_parted (e ∷ es) = ap (λ firsts. e.journal.first ∷ firsts) (firsts_parted es)

pub openings_parted : {K : Type 0} (es : List (Ended K)) → map (λ (j : Journal). j.opening) (journals_of_ended es) ≡ openings_of_ended es
openings_parted [] = refl
openings_parted (e ∷ es) = ap (λ openings. e.journal.opening ∷ openings) (openings_parted es)

-- the first incarnation at a place, from the journal there
first_at : {K : Type 0} (workers : List WorkerValue) (ended : List (Ended K)) (journals : List Journal) (k : ℕ) (j : Journal) → firsts_of_ended ended ≡ firsts_of_workers workers → journals ≡ journals_of_ended ended
    → slice_get journals k ≡ Some j → slice_get (firsts_of_workers workers) k ≡ Some j.first
first_at workers ended journals k j kept are found =
    let first_of : Journal → ℕ = λ (i : Journal). i.first in
    let begun : slice_get (map first_of journals) k ≡ Some j.first = slice_get-map first_of journals k ∙ ap (option_map first_of) found in
    let same : map first_of journals ≡ firsts_of_workers workers = ap (map first_of) are ∙ firsts_parted ended ∙ kept in
    subst (λ (l : List ℕ). slice_get l k ≡ Some j.first) same begun

-- the journals that threads leave begin above what their keepers held, if the workers did
pub begin_above : {K : Type 0} (last : K → ℕ) (keepers : List K) (workers : List WorkerValue) (ended : List (Ended K)) (journals : List Journal) → AreAbove last keepers (firsts_of_workers workers)
    → firsts_of_ended ended ≡ firsts_of_workers workers → journals ≡ journals_of_ended ended → BeginAbove last keepers journals
begin_above last keepers workers ended journals above kept are = λ k keeper j at found.
    let held : slice_get (map last keepers) k ≡ Some (last keeper) = slice_get-map last keepers k ∙ ap (option_map last) at in
    zip_at (λ a b. a < b) (map last keepers) (firsts_of_workers workers) k (last keeper) j.first above held (first_at workers ended journals k j kept are found)

-- and in those that their keepers answered
pub begin_as_raised : {K : Type 0} (gives : K → Result ℕ KeeperFault → Type 0) (keepers : List K) (workers : List WorkerValue) (ended : List (Ended K)) (journals : List Journal) → AreRaised gives keepers (firsts_of_workers workers)
    → firsts_of_ended ended ≡ firsts_of_workers workers → journals ≡ journals_of_ended ended → BeginAsRaised gives keepers journals
begin_as_raised {K} gives keepers workers ended journals raised kept are = λ k keeper j at found.
    zip_at (λ (one : K) (first : ℕ). gives one (Ok first)) keepers (firsts_of_workers workers) k keeper j.first raised at (first_at workers ended journals k j kept are found)

-- what each thread left is as its promise says, place by place
pub each_kept : {K X : Type 0} (left : Ended K → X) (promised : PromisedHandle (Ended K) LawfulFor → X) (hs : List (PromisedHandle (Ended K) LawfulFor)) (es : List (Ended K)) → length es ≡ length hs
    → ((i : ℕ) (d : Ended K) → i < length hs → (handle : PromisedHandle (Ended K) LawfulFor) × (handle ≡ get_or hs i handle) × (left (get_or es i d) ≡ promised handle))
    → map left es ≡ map promised hs
each_kept {K} {X} left promised hs es many each = same_by_each (map left es) (map promised hs) (length-map es left ∙ many ∙ sym (length-map hs promised)) at_place
  where
    at_place : (k : ℕ) (x y : X) → slice_get (map left es) k ≡ Some x → slice_get (map promised hs) k ≡ Some y → x ≡ y
    at_place k x y at found =
        let within = slice_get_within (map left es) k x at in
        let long = length-map es left in
        let inside : k < length es = omega (arith, within, long) in
        let e = element_at es k inside in
        let kept = each k e.0 (omega (arith, inside, many)) in
        let handle : slice_get hs k ≡ Some kept.0 = slice_get_read hs (length hs) k kept.0 refl (omega (arith, inside, many)) kept.1 in
        same_Some x (left e.0) (sym at ∙ slice_get-map left es k ∙ ap (option_map left) e.1)
        ∙ ap left (sym (get_or_from_slice_get es k e.0 e.0 e.1))
        ∙ kept.2
        ∙ same_Some (promised kept.0) y (sym (slice_get-map promised hs k ∙ ap (option_map promised) handle) ∙ found)

-- the number behind the first ones
at_seam : (xs : List ℕ) (x : ℕ) (rest : List ℕ) → slice_index (xs ++ x ∷ rest) (length xs) ≡ x
at_seam [] x rest = refl
at_seam (y ∷ ys) x rest = at_seam ys x rest

-- the next resource exists, and this is its first incarnation
pub next_first : (firsts xs rest : List ℕ) (x place : ℕ) → firsts ≡ xs ++ x ∷ rest → place ≡ length xs → (place < length firsts) × (slice_index firsts place ≡ x)
next_first firsts xs rest x place are at =
    let long : length firsts ≡ length xs + length (x ∷ rest) = ap length are ∙ length-append xs (x ∷ rest) in
    (omega (arith, long, at), ap (λ (l : List ℕ). slice_index l place) are ∙ ap (slice_index (xs ++ x ∷ rest)) at ∙ at_seam xs x rest)
