-- What a keeper keeps, step by step of its resource.
use Rattle.std.proofs.Common.{arith, ◌≡◌, ◌≢◌, ◌⊎◌, inl, inr, ℕ, ◌≤◌, ◌++◌, Bool, true, false, List, [], ◌∷◌, Some, Result, Ok, Err, IfOk, OnErr, length, slice_get, sym, ap, refl, ◌∙◌, subst}
use Rattle.std.specs.Prelude.{All, Contains, filter, reverse, slice_index, slice_index_or}
use Rattle.std.proofs.lemmas.Bool.{false≢true}
use Rattle.std.proofs.lemmas.List.{reverse-append}
use Rattle.std.proofs.lemmas.Option.{slice_get_within, get_or_from_slice_get, same_Some}
use Rattle.lists.proofs.Places.{element_at}
use Rattle.lists.proofs.Tables.{both_same, both_itself}
use Rattle.lists.proofs.Zips.{zip_push}
use Rattle.std_blocks.specs.declared.value.Value.{Value}
use Rattle.task_codes.specs.declared.task_ref.TaskRef.{TaskRef}
use Rattle.task_codes.specs.declared.retained_variable.RetainedVariable.{RetainedVariable}
use Rattle.task_codes.specs.CodeValue.{CodeValue}
use Rattle.plant.specs.PlantValue.{PlantValue, code_at, codes_at}
use Rattle.evaluation.specs.Last.{same_task}
use Rattle.evaluation.specs.Meaning.{Evaluated}
use Rattle.evaluation.specs.Retained.{retained_values}
use Rattle.exchange_core.specs.declared.accepted.Accepted.{Accepted}
use Rattle.exchange_core.specs.CoreValue.{AreOpeningOf}
use Rattle.keepers.specs.Keepers.{Telling, TellsNoMore, KeepsEither, KeepsOthers}
use Rattle.keepers.specs.Openings.{TellsOpening}
use Rattle.node_reports.specs.declared.journal.Journal.{Journal}
use Rattle.node_reports.specs.declared.node_fault.NodeFault.{NodeFault}
use Rattle.node_reports.specs.declared.step.Step.{Step}
use Rattle.node_reports.specs.declared.step.Step.TheVariants.{Took, Made, Restarted, Heard}
use Rattle.node_reports.specs.Codes.{IsOfPlant}
use Rattle.node_reports.specs.Journals.{incarnation_after, made, opening_at, with_step}
use Rattle.node_reports.specs.Reports.{fault_tickets}
use Rattle.node_reports.specs.Stations.{StationValue, fresh_station, IsReceived, IsTold}
use Rattle.node.specs.declared.threads.ended.Ended.{Ended}
use Rattle.node.specs.declared.threads.noted.Noted.{Noted}
use Rattle.node.specs.Keeping.{TellsNewest, KeepsLeft, KeepAllLeft, newest_first, task_of}
use Rattle.node.specs.Steps.Keeping.{IsNoted, TellsMore, NotesMore, Keeps, KeepsMade, IsLeftKept}
use Rattle.node.proofs.Noting.{tickets_in}

-- the last step is the first one of the steps turned round
turned : (j : Journal) (s : Step) → reverse (j.steps ++ s ∷ []) ≡ s ∷ reverse j.steps
turned j s = reverse-append j.steps (s ∷ [])

-- a step that makes nothing, in the same incarnation
still : (last : ℕ) (tells : Telling) (plant : PlantValue) (faults : List NodeFault) (j : Journal) (s : Step) → incarnation_after j.first (s ∷ reverse j.steps) ≤ last → made (s ∷ reverse j.steps) ≡ made (reverse j.steps)
    → KeepsLeft last tells plant faults j → KeepsLeft last tells plant faults (with_step j s)
still last tells plant faults j s below same kept = record {
  incarnation = subst (λ (steps : List Step). incarnation_after j.first steps ≤ last) (sym (turned j s)) below;
  tasks = λ task code found some.
      subst (λ (xs : List Evaluated). TellsNewest tells faults task code (opening_at j.opening (task_of j task)) (filter (λ (x : Evaluated). same_task x.name.task (task_of j task)) xs))
      (sym (ap made (turned j s) ∙ same)) (kept.tasks task code found some);
}

keeps_still : (last : ℕ) (tells : Telling) (plant : PlantValue) (noted : Noted) (j : Journal) (s : Step) → incarnation_after j.first (s ∷ reverse j.steps) ≡ incarnation_after j.first (reverse j.steps) → made (s ∷ reverse j.steps) ≡ made (reverse j.steps)
    → Keeps last tells plant noted j → Keeps last tells plant noted (with_step j s)
keeps_still last tells plant noted j s here same (inl lost) = inl lost
keeps_still last tells plant noted j s here same (inr kept) = inr (still last tells plant noted.listed.items j s (subst (λ n. n ≤ last) (sym here) kept.incarnation) same kept)

pub keeps_took : {E : Type 0} (last : ℕ) (tells : Telling) (plant : PlantValue) (noted : Noted) (old new : StationValue) (x : Evaluated) (r : Result Accepted E) → IfOk r (IsReceived old new x) → OnErr r (new ≡ old)
    → Keeps last tells plant noted old.journal → Keeps last tells plant noted new.journal
keeps_took last tells plant noted old new x (Ok answer) took lost kept = subst (Keeps last tells plant noted) (sym took.noted) (keeps_still last tells plant noted old.journal (Took x) refl refl kept)
keeps_took last tells plant noted old new x (Err e) took lost kept = subst (λ (s : StationValue). Keeps last tells plant noted s.journal) (sym lost) kept

pub keeps_heard : {E : Type 0} (last : ℕ) (tells : Telling) (plant : PlantValue) (noted : Noted) (old new : StationValue) (of heard : ℕ) (r : Result Bool E) → IfOk r (IsTold old new of heard) → OnErr r (new ≡ old)
    → Keeps last tells plant noted old.journal → Keeps last tells plant noted new.journal
keeps_heard last tells plant noted old new of heard (Ok answer) told lost kept = subst (Keeps last tells plant noted) (sym told.noted) (keeps_still last tells plant noted old.journal (Heard of heard) refl refl kept)
keeps_heard last tells plant noted old new of heard (Err e) told lost kept = subst (λ (s : StationValue). Keeps last tells plant noted s.journal) (sym lost) kept

-- at the beginning each task has its opening
opening_there : (plant : PlantValue) (resource task : ℕ) (opening : List (List Value)) (code : CodeValue) → AreOpeningOf plant resource opening → code_at plant (record { resource = resource; task = task }) ≡ Some code
    → slice_get opening task ≡ Some (slice_index_or opening task [])
opening_there plant resource task opening code opened found =
    let within = slice_get_within (codes_at plant resource) task code found in
    let many = opened.many in
    let there = element_at opening task (omega (arith, within, many)) in
    there.1 ∙ ap Some (sym (get_or_from_slice_get opening task there.0 [] there.1))

pub keeps_fresh : (last : ℕ) (tells : Telling) (plant : PlantValue) (resource : ℕ) (firsts : List ℕ) (opening : List (List Value)) (max_number : ℕ) (noted : Noted) (s : StationValue) → s ≡ fresh_station plant resource firsts opening max_number
    → last ≡ slice_index firsts resource → AreOpeningOf plant resource opening → TellsOpening tells plant resource opening → Keeps last tells plant noted s.journal
keeps_fresh last tells plant resource firsts opening max_number noted s is first opened told =
    subst (λ (t : StationValue). Keeps last tells plant noted t.journal) (sym is)
    (inr (record {
      incarnation = omega (arith, first);
      tasks = λ task code found some. told task code (slice_index_or opening task []) found (opening_there plant resource task opening code opened found);
    }))

-- more faults are noted
newest_more : (tells : Telling) (old new : List NodeFault) (task : ℕ) (code : CodeValue) (opening : List Value) (xs : List Evaluated) → TellsMore old new → TellsNewest tells old task code opening xs → TellsNewest tells new task code opening xs
newest_more tells old new task code opening [] more told = told
newest_more tells old new task code opening (x ∷ older) more (inl told) = inl told
newest_more tells old new task code opening (x ∷ older) more (inr p) = inr (more x.ticket p.0, newest_more tells old new task code opening older more p.1)

pub left_more : (last : ℕ) (tells : Telling) (plant : PlantValue) (old new : List NodeFault) (j : Journal) → TellsMore old new → KeepsLeft last tells plant old j → KeepsLeft last tells plant new j
left_more last tells plant old new j more kept = record {
  incarnation = kept.incarnation;
  tasks = λ task code found some. newest_more tells old new task code (opening_at j.opening (task_of j task)) (newest_first j task) more (kept.tasks task code found some);
}

pub keeps_more : (last : ℕ) (tells : Telling) (plant : PlantValue) (old new : Noted) (j : Journal) → NotesMore old new → Keeps last tells plant old j → Keeps last tells plant new j
keeps_more last tells plant old new j more (inl lost) = inl (more.lost lost)
keeps_more last tells plant old new j more (inr kept) = inr (left_more last tells plant old.listed.items new.listed.items j more.tickets kept)

-- the keeper was raised, and tells what it told
newest_stays : (before now : Telling) (faults : List NodeFault) (task : ℕ) (code : CodeValue) (opening : List Value) (xs : List Evaluated) → TellsNoMore now before → TellsNewest before faults task code opening xs → TellsNewest now faults task code opening xs
newest_stays before now faults task code opening [] stays told = stays task code (Ok opening) told
newest_stays before now faults task code opening (x ∷ older) stays (inl told) = inl (stays task code (Ok (retained_values code x.after)) told)
newest_stays before now faults task code opening (x ∷ older) stays (inr p) = inr (p.0, newest_stays before now faults task code opening older stays p.1)

left_raised : (last next : ℕ) (before now : Telling) (plant : PlantValue) (faults : List NodeFault) (j : Journal) → last ≤ next → TellsNoMore now before → KeepsLeft last before plant faults j → KeepsLeft next now plant faults j
left_raised last next before now plant faults j above stays kept = record {
  incarnation = (let below = kept.incarnation in omega (arith, below, above));
  tasks = λ task code found some. newest_stays before now faults task code (opening_at j.opening (task_of j task)) (newest_first j task) stays (kept.tasks task code found some);
}

pub keeps_raised : (last next : ℕ) (before now : Telling) (plant : PlantValue) (noted : Noted) (j : Journal) → last ≤ next → TellsNoMore now before → Keeps last before plant noted j → Keeps next now plant noted j
keeps_raised last next before now plant noted j above stays (inl lost) = inl lost
keeps_raised last next before now plant noted j above stays (inr kept) = inr (left_raised last next before now plant noted.listed.items j above stays kept)

pub keeps_restarted : (last next : ℕ) (before now : Telling) (plant : PlantValue) (noted : Noted) (j : Journal) (ticket incarnation : ℕ) → last ≤ next → next ≡ incarnation → TellsNoMore now before → Keeps last before plant noted j
    → Keeps next now plant noted (with_step j (Restarted ticket incarnation))
keeps_restarted last next before now plant noted j ticket incarnation above is stays (inl lost) = inl lost
keeps_restarted last next before now plant noted j ticket incarnation above is stays (inr kept) =
    inr (still next now plant noted.listed.items j (Restarted ticket incarnation) (omega (arith, is)) refl (left_raised last next before now plant noted.listed.items j above stays kept))

-- of another task may be told what could be
newest_other : (before now : Telling) (faults : List NodeFault) (task other : ℕ) (code : CodeValue) (opening : List Value) (xs : List Evaluated) → KeepsOthers before now other → task ≢ other
    → TellsNewest before faults task code opening xs → TellsNewest now faults task code opening xs
newest_other before now faults task other code opening [] others differs told = others task code opening differs told
newest_other before now faults task other code opening (x ∷ older) others differs (inl told) = inl (others task code (retained_values code x.after) differs told)
newest_other before now faults task other code opening (x ∷ older) others differs (inr p) = inr (p.0, newest_other before now faults task other code opening older others differs p.1)

-- of its own too, or else what it left
newest_either : (before now : Telling) (faults : List NodeFault) (task : ℕ) (code : CodeValue) (opening values : List Value) (xs : List Evaluated) → KeepsEither before now task code values
    → TellsNewest before faults task code opening xs → TellsNewest now faults task code opening xs ⊎ now task code (Ok values)
newest_either before now faults task code opening values [] either told = either opening told
newest_either before now faults task code opening values (x ∷ older) either (inl told) = by (either (retained_values code x.after) told)
  where
    by : now task code (Ok (retained_values code x.after)) ⊎ now task code (Ok values) → TellsNewest now faults task code opening (x ∷ older) ⊎ now task code (Ok values)
    by (inl still) = inl (inl still)
    by (inr next) = inr next
newest_either before now faults task code opening values (x ∷ older) either (inr p) = by (newest_either before now faults task code opening values older either p.1)
  where
    by : TellsNewest now faults task code opening older ⊎ now task code (Ok values) → TellsNewest now faults task code opening (x ∷ older) ⊎ now task code (Ok values)
    by (inl still) = inl (inr (p.0, still))
    by (inr next) = inr next

-- what an evaluation left may be told, or a fault of it is told
abbrev Handed : Telling → Telling → List NodeFault → Evaluated → Type 0
Handed before now faults x =
    now x.name.task.task x.code (Ok (retained_values x.code x.after))
    ⊎ (Contains (fault_tickets faults) x.ticket × KeepsEither before now x.name.task.task x.code (retained_values x.code x.after))

own_newest : (before now : Telling) (faults : List NodeFault) (x : Evaluated) (opening : List Value) (xs : List Evaluated) → Handed before now faults x → TellsNewest before faults x.name.task.task x.code opening xs
    → TellsNewest now faults x.name.task.task x.code opening (x ∷ xs)
own_newest before now faults x opening xs (inl told) kept = inl told
own_newest before now faults x opening xs (inr p) kept = by (newest_either before now faults x.name.task.task x.code opening (retained_values x.code x.after) xs p.1 kept)
  where
    by : TellsNewest now faults x.name.task.task x.code opening xs ⊎ now x.name.task.task x.code (Ok (retained_values x.code x.after)) → TellsNewest now faults x.name.task.task x.code opening (x ∷ xs)
    by (inl still) = inr (p.0, still)
    by (inr next) = inl next

filter_yes : (f : Evaluated → Bool) (x : Evaluated) (xs : List Evaluated) → f x ≡ true → filter f (x ∷ xs) ≡ x ∷ filter f xs
filter_yes f x xs e = rw e refl

filter_no : (f : Evaluated → Bool) (x : Evaluated) (xs : List Evaluated) → f x ≡ false → filter f (x ∷ xs) ≡ filter f xs
filter_no f x xs e = rw e refl

-- the task of a resource that two numbers name
abbrev task_ref : ℕ → ℕ → TaskRef
task_ref resource task = record { resource = resource; task = task }

named : (a b : TaskRef) → same_task a b ≡ true → a ≡ b
named a b e = both_same task_ref a.resource a.task b.resource b.task e

same_some : (a b : CodeValue) → Some a ≡ Some b → a ≡ b
same_some a b e = same_Some a b e

not_none : (v : RetainedVariable) (vs : List RetainedVariable) → v ∷ vs ≡ [] → ⊥
not_none v vs e = omega (arith, ap (λ (l : List RetainedVariable). length l) e)

-- an evaluation of the resource that isn't of a task is of another one
other_task : (t u : TaskRef) → t.resource ≡ u.resource → same_task t u ≡ false → u.task ≢ t.task
other_task t u same differs is = false≢true (sym differs ∙ rw (same, is) (both_itself u.resource t.task))

newest_made : (last : ℕ) (before now : Telling) (plant : PlantValue) (faults : List NodeFault) (j : Journal) (x : Evaluated) → IsOfPlant plant x → x.name.task.resource ≡ j.resource → (x.code.retained ≢ [] → Handed before now faults x)
    → KeepsOthers before now x.name.task.task → KeepsLeft last before plant faults j → (task : ℕ) (code : CodeValue) → code_at plant (task_of j task) ≡ Some code → code.retained ≢ []
    → TellsNewest now faults task code (opening_at j.opening (task_of j task)) (filter (λ (y : Evaluated). same_task y.name.task (task_of j task)) (x ∷ made (reverse j.steps)))
newest_made last before now plant faults j x of_plant own handed others kept task code found some = by (same_task x.name.task t) refl
  where
    t : TaskRef
    t = task_of j task

    f : Evaluated → Bool
    f y = same_task y.name.task t

    opening : List Value
    opening = opening_at j.opening t

    is_own : x.name.task ≡ t → TellsNewest now faults task code opening (x ∷ filter f (made (reverse j.steps)))
    is_own is =
        let one : x.code ≡ code = same_some x.code code (sym of_plant ∙ ap (code_at plant) is ∙ found) in
        let at : x.name.task.task ≡ task = ap (λ (u : TaskRef). u.task) is in
        let told : TellsNewest before faults x.name.task.task x.code opening (filter f (made (reverse j.steps))) =
        subst (λ n. TellsNewest before faults n x.code opening (filter f (made (reverse j.steps)))) (sym at) (subst (λ (c : CodeValue). TellsNewest before faults task c opening (filter f (made (reverse j.steps)))) (sym one) (kept.tasks task code found some)) in
        subst (λ n. TellsNewest now faults n code opening (x ∷ filter f (made (reverse j.steps)))) at
        (subst (λ (c : CodeValue). TellsNewest now faults x.name.task.task c opening (x ∷ filter f (made (reverse j.steps)))) one
        (own_newest before now faults x opening (filter f (made (reverse j.steps))) (handed (λ none. some (ap (λ (c : CodeValue). c.retained) (sym one) ∙ none))) told))

    by : (b : Bool) → same_task x.name.task t ≡ b → TellsNewest now faults task code opening (filter f (x ∷ made (reverse j.steps)))
    by true e = subst (TellsNewest now faults task code opening) (sym (filter_yes f x (made (reverse j.steps)) e)) (is_own (named x.name.task t e))
    by false e =
        subst (TellsNewest now faults task code opening) (sym (filter_no f x (made (reverse j.steps)) e))
        (newest_other before now faults task x.name.task.task code opening (filter f (made (reverse j.steps))) others (other_task x.name.task t own e) (kept.tasks task code found some))

left_made : (last : ℕ) (before now : Telling) (plant : PlantValue) (faults : List NodeFault) (j : Journal) (x : Evaluated) → IsOfPlant plant x → x.name.task.resource ≡ j.resource → (x.code.retained ≢ [] → Handed before now faults x)
    → KeepsOthers before now x.name.task.task → KeepsLeft last before plant faults j → KeepsLeft last now plant faults (with_step j (Made x))
left_made last before now plant faults j x of_plant own handed others kept = record {
  incarnation = subst (λ (steps : List Step). incarnation_after j.first steps ≤ last) (sym (turned j (Made x))) kept.incarnation;
  tasks = λ task code found some.
      subst (λ (xs : List Evaluated). TellsNewest now faults task code (opening_at j.opening (task_of j task)) (filter (λ (y : Evaluated). same_task y.name.task (task_of j task)) xs))
      (sym (ap made (turned j (Made x)))) (newest_made last before now plant faults j x of_plant own handed others kept task code found some);
}

-- an evaluation was made, and what it left was handed to the keeper
pub keeps_made : (last : ℕ) (before now : Telling) (plant : PlantValue) (old new : Noted) (j : Journal) (x : Evaluated) → IsOfPlant plant x → x.name.task.resource ≡ j.resource → KeepsMade before now old new x
    → Keeps last before plant old j → Keeps last now plant new (with_step j (Made x))
keeps_made last before now plant old new j x of_plant own handed (inl lost) = inl (handed.noted.lost lost)
keeps_made last before now plant old new j x of_plant own handed (inr kept) = by x.code.retained refl
  where
    more : KeepsLeft last before plant new.listed.items j
    more = left_more last before plant old.listed.items new.listed.items j handed.noted.tickets kept

    so : (x.code.retained ≢ [] → Handed before now new.listed.items x) → Keeps last now plant new (with_step j (Made x))
    so one = inr (left_made last before now plant new.listed.items j x of_plant own one handed.others more)

    if_some : now x.name.task.task x.code (Ok (retained_values x.code x.after)) ⊎ (IsNoted new x.ticket × KeepsEither before now x.name.task.task x.code (retained_values x.code x.after))
        → Keeps last now plant new (with_step j (Made x))
    if_some (inl told) = so (λ some. inl told)
    if_some (inr p) = if_noted p.0
      where
        if_noted : IsNoted new x.ticket → Keeps last now plant new (with_step j (Made x))
        if_noted (inl lost) = inl lost
        if_noted (inr noted) = so (λ some. inr (noted, p.1))

    by : (vs : List RetainedVariable) → x.code.retained ≡ vs → Keeps last now plant new (with_step j (Made x))
    by [] e = so (λ some. absurd (some e))
    by (v ∷ vs) e = if_some (handed.own (λ none. not_none v vs (sym e ∙ none)))

-- one more keeper and journal, behind those for which more faults may be told by now
all_more : {K : Type 0} (last : K → ℕ) (tells : K → Telling) (plant : PlantValue) (old new : List NodeFault) (keepers : List K) (journals : List Journal) → TellsMore old new → KeepAllLeft last tells plant old keepers journals
    → KeepAllLeft last tells plant new keepers journals
all_more last tells plant old new [] [] more all = tt
all_more last tells plant old new [] (j ∷ journals) more all = absurd all
all_more last tells plant old new (keeper ∷ keepers) [] more all = absurd all
all_more last tells plant old new (keeper ∷ keepers) (j ∷ journals) more all = (left_more (last keeper) (tells keeper) plant old new j more all.0, all_more last tells plant old new keepers journals more all.1)

is_left : (last : ℕ) (tells : Telling) (plant : PlantValue) (noted : Noted) (j : Journal) → noted.is_lost ≡ false → Keeps last tells plant noted j → KeepsLeft last tells plant noted.listed.items j
is_left last tells plant noted j whole (inl lost) = absurd (false≢true (sym whole ∙ lost))
is_left last tells plant noted j whole (inr kept) = kept

pub all_push_left : {K : Type 0} (last : K → ℕ) (tells : K → Telling) (plant : PlantValue) (old new : List NodeFault) (keepers all_keepers : List K) (journals all_journals : List Journal) (e : Ended K) → TellsMore old new
    → TellsMore e.noted.listed.items new → e.noted.is_lost ≡ false → all_keepers ≡ keepers ++ e.keeper ∷ [] → all_journals ≡ journals ++ e.journal ∷ [] → IsLeftKept last tells plant e → KeepAllLeft last tells plant old keepers journals
    → KeepAllLeft last tells plant new all_keepers all_journals
all_push_left {K} last tells plant old new keepers all_keepers journals all_journals e more own whole keepers_are journals_are left all =
    subst (λ (ks : List K). KeepAllLeft last tells plant new ks all_journals) (sym keepers_are)
    (subst (λ (js : List Journal). KeepAllLeft last tells plant new (keepers ++ e.keeper ∷ []) js) (sym journals_are)
    (zip_push (λ (keeper : K) (j : Journal). KeepsLeft (last keeper) (tells keeper) plant new j) keepers journals e.keeper e.journal (all_more last tells plant old new keepers journals more all)
    (left_more (last e.keeper) (tells e.keeper) plant e.noted.listed.items new e.journal own (is_left (last e.keeper) (tells e.keeper) plant e.noted e.journal whole left))))

-- the faults of the report tell of all that were noted
pub all_reported : {K : Type 0} (last : K → ℕ) (tells : K → Telling) (plant : PlantValue) (noted told : List NodeFault) (keepers : List K) (journals : List Journal) → All (λ (f : NodeFault). Contains (fault_tickets told) f.ticket) noted
    → KeepAllLeft last tells plant noted keepers journals → KeepAllLeft last tells plant told keepers journals
all_reported last tells plant noted told keepers journals all kept = all_more last tells plant noted told keepers journals (tickets_in noted told all) kept
