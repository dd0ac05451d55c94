-- Why a later keeper answers above an earlier one.
use Rattle.std.proofs.Common.{arith, ◌≡◌, ◌≢◌, inl, inr, ℕ, ◌+◌, ◌<◌, ◌≤◌, ◌^◌, List, [], ◌∷◌, get_or, Result, Ok, Err, sym, ap, refl, subst}
use Rattle.std.specs.Prelude.{codes}
use Rattle.std.specs.Fmt.{decimal}
use Rattle.std.proofs.lemmas.List.{append_cancel_left}
use Rattle.keepers.specs.declared.keeper_fault.KeeperFault.{KeeperFault}
use Rattle.keepers.specs.declared.keeper_fault.KeeperFault.TheVariants as fault
use Rattle.keepers.specs.KnownFiles.{KnownFile, Replacing, Holds, AreOthersKept, IsKeptOrReplaced, IsReplaced, IsStored}
use Rattle.keepers.specs.KnownFiles.KnownFile.{Unknown, Missing, Holding, Broken}
use Rattle.keepers.specs.KeptNumbers.{KeepsNumber, IsRaisedIn, number_file, number_text, temporary_file}
use Rattle.keepers.specs.KeptRetained.{retained_file}
use Rattle.keepers.specs.Successors.{KeeperDid, IsNumberKnown, KeepersDid, RaisesRise}
use Rattle.keepers.proofs.Keeping.{longer_name}
use Rattle.keepers.proofs.NumberTexts.{same_number}

-- a file holds the text of an incarnation, no less than this
record HoldsFrom (least : ℕ) (file : KnownFile) : Type 0 where
  number : ℕ
  above : least ≤ number
  small : number < 2 ^ 32
  holds : file ≡ Holding (number_text number)

holding : (file : KnownFile) (least n : ℕ) → file ≢ Unknown → Holds file (number_text n) → least ≤ n → n < 2 ^ 32 → HoldsFrom least file
holding Unknown least n known held above small = absurd (known refl)
holding Missing least n known held above small = absurd held
holding (Holding bytes) least n known held above small = record { number = n; above = above; small = small; holds = ap Holding held }
holding Broken least n known held above small = absurd held

-- what is kept of such a file is no less
keeps_above : (file : KnownFile) (least n : ℕ) → n < 2 ^ 32 → HoldsFrom least file → KeepsNumber file n → least ≤ n
keeps_above file least n small from keeps =
    let text : number_text from.number ≡ number_text n = subst (λ f. KeepsNumber f n) from.holds keeps in
    let above = from.above in
    let same = same_number from.number n from.small small text in
    omega (arith, above, same)

names_differ : (resource : List ℕ) → number_file resource ≡ temporary_file resource → ⊥
names_differ resource is = ends (append_cancel_left resource (codes ".inc") (codes ".tmp") is)
  where
    ends : codes ".inc" ≡ codes ".tmp" → ⊥
    ends e = let second : 105 ≡ 116 = ap (λ (l : List ℕ). get_or l 1 0) e in omega (arith, second)

kept_or_next : (old new : List ℕ → KnownFile) (resource : List ℕ) (least n : ℕ) → HoldsFrom least (old (number_file resource)) → new (number_file resource) ≢ Unknown → KeepsNumber (old (number_file resource)) n → n + 1 < 2 ^ 32
    → IsKeptOrReplaced old new (number_file resource) (temporary_file resource) (number_text (n + 1)) → HoldsFrom least (new (number_file resource))
kept_or_next old new resource least n from known keeps small (inl kept) = subst (HoldsFrom least) (sym kept.same) from
kept_or_next old new resource least n from known keeps small (inr replaced) =
    let above = keeps_above (old (number_file resource)) least n (omega (arith, small)) from keeps in
    holding (new (number_file resource)) least (n + 1) known replaced.held (omega (arith, above)) (omega (arith, small))

same_files : (old new : List ℕ → KnownFile) (name : List ℕ) (least : ℕ) → new ≡ old → HoldsFrom least (old name) → HoldsFrom least (new name)
same_files old new name least same from = subst (λ (f : List ℕ → KnownFile). HoldsFrom least (f name)) (sym same) from

raised_from : (answers : Replacing) (old new : List ℕ → KnownFile) (resource : List ℕ) (least last : ℕ) (r : Result ℕ KeeperFault) → HoldsFrom least (old (number_file resource)) → new (number_file resource) ≢ Unknown
    → IsRaisedIn answers old new resource last r → HoldsFrom least (new (number_file resource))
raised_from answers old new resource least last (Ok i) from known did =
    kept_or_next old new resource least did.0 from known did.1.kept did.1.small (inr (subst (λ n. IsReplaced old new (number_file resource) (temporary_file resource) (number_text n)) did.2 did.3))
raised_from answers old new resource least last (Err fault.Unreadable) from known did = same_files old new (number_file resource) least did.1 from
raised_from answers old new resource least last (Err fault.Spent) from known did = same_files old new (number_file resource) least did.1 from
raised_from answers old new resource least last (Err fault.Unwritable) from known did = kept_or_next old new resource least did.n from known did.raisable.kept did.raisable.small did.refused.1
raised_from answers old new resource least last (Err fault.Memory) from known (inl same) = same_files old new (number_file resource) least same from
raised_from answers old new resource least last (Err fault.Memory) from known (inr did) = kept_or_next old new resource least did.n from known did.raisable.kept did.raisable.small did.refused.1

-- a task's file is another one
other_file : (old new : List ℕ → KnownFile) (resource : List ℕ) (task least : ℕ) → AreOthersKept old new (retained_file resource task) (temporary_file resource) → HoldsFrom least (old (number_file resource))
    → HoldsFrom least (new (number_file resource))
other_file old new resource task least others from =
    subst (HoldsFrom least)
    (sym (others (number_file resource) (λ is. longer_name resource (codes ".") (decimal task) (codes ".ret") (codes ".inc") refl refl (sym is)) (λ is. names_differ resource is))) from

left_file : (old new : List ℕ → KnownFile) (resource bytes : List ℕ) (task least : ℕ) → IsKeptOrReplaced old new (retained_file resource task) (temporary_file resource) bytes → HoldsFrom least (old (number_file resource))
    → HoldsFrom least (new (number_file resource))
left_file old new resource bytes task least (inl kept) from = other_file old new resource task least kept.others from
left_file old new resource bytes task least (inr replaced) from = other_file old new resource task least replaced.others from

stored_from : (answers : Replacing) (old new : List ℕ → KnownFile) (resource bytes : List ℕ) (task least : ℕ) (r : Result (Unit {0}) KeeperFault) → HoldsFrom least (old (number_file resource))
    → IsStored answers old new (retained_file resource task) (temporary_file resource) bytes r → HoldsFrom least (new (number_file resource))
stored_from answers old new resource bytes task least (Ok done) from stored = other_file old new resource task least stored.others from
stored_from answers old new resource bytes task least (Err fault.Unreadable) from stored = absurd stored
stored_from answers old new resource bytes task least (Err fault.Unwritable) from stored = left_file old new resource bytes task least stored.1 from
stored_from answers old new resource bytes task least (Err fault.Spent) from stored = absurd stored
stored_from answers old new resource bytes task least (Err fault.Memory) from (inl same) = same_files old new (number_file resource) least same from
stored_from answers old new resource bytes task least (Err fault.Memory) from (inr stored) = left_file old new resource bytes task least stored.1 from

did_from : {F : Type 0} (answers : F → Replacing) (file : F → List ℕ → KnownFile) (resource : List ℕ) (least : ℕ) (old new : F) → KeeperDid answers file resource old new → IsNumberKnown file resource new
    → HoldsFrom least (file old (number_file resource)) → HoldsFrom least (file new (number_file resource))
did_from answers file resource least old new (inl raised) known from = raised_from (answers old) (file old) (file new) resource least raised.0 raised.1 from known raised.2
did_from answers file resource least old new (inr stored) known from = stored_from (answers old) (file old) (file new) resource stored.1 stored.0 least stored.2 from stored.3

all_from : {F : Type 0} (answers : F → Replacing) (file : F → List ℕ → KnownFile) (resource : List ℕ) (least : ℕ) (old new : F) (between : List F) → KeepersDid answers file resource old between new
    → HoldsFrom least (file old (number_file resource)) → HoldsFrom least (file new (number_file resource))
all_from answers file resource least old new [] did from = subst (λ f. HoldsFrom least (file f (number_file resource))) (sym did) from
all_from answers file resource least old new (next ∷ later) did from = all_from answers file resource least next new later did.2 (did_from answers file resource least old next did.0 did.1 from)

pub raises_rise : {F : Type 0} (answers : F → Replacing) (file : F → List ℕ → KnownFile) → RaisesRise answers file
raises_rise answers file = λ resource first last second other before raised now after between one known did two.
    let small_one = one.1.small in
    let is_one = one.2 in
    let from = holding (file raised (number_file resource)) first first known one.3.held (omega arith) (omega (arith, small_one, is_one)) in
    let small = two.1.small in
    let is = two.2 in
    let above = keeps_above (file now (number_file resource)) first two.0 (omega (arith, small)) (all_from answers file resource first raised now between did from) two.1.kept in
    omega (arith, above, is)
