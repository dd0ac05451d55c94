-- A replay in one thread.
use Rattle.std.proofs.Common.{◌≡◌, ℕ, ◌<◌, ◌≤◌, ◌⊎◌, inl, inr, true, false, Bool, List, [], ◌∷◌, All, Some, length, reverse, slice_get, refl, sym, ap, ◌∙◌, subst, arith, if◌then◌else◌}
use Rattle.std.specs.List.{AllByRecursion}
use Rattle.std.proofs.lemmas.List.{length-map, get_or_past, reverse-append, reverse-reverse}
use Rattle.std.proofs.lemmas.List.Elements.{All-contains}
use Rattle.std.proofs.lemmas.Bool.{cases_lt}
use Rattle.std.proofs.lemmas.Option.{same_Some, none-some, get_or_from_slice_get, slice_get-map, slice_get_past, slice_get_within}
use Rattle.std.specs.Option.{option_map}
use Rattle.lists.proofs.Each.{Each-at, slice_get-among, each-append}
use Rattle.lists.proofs.Members.{contains_at, all_from_places}
use Rattle.lists.proofs.Places.{element_at}
use Rattle.lists.specs.Items.{items_or_none}
use Rattle.plant.specs.PlantValue.{PlantValue, ResourceValue, code_at, codes_at}
use Rattle.evaluation.specs.Meaning.{Evaluated}
use Rattle.world.specs.declared.event.Event.{Event}
use Rattle.world.specs.declared.event.Event.TheVariants.{Evaluate, Deliver, Restart, Hear}
use Rattle.exchange_core.specs.CoreValue.{AreOpeningOf}
use Rattle.world.specs.History.{Setting, AreOpenings, openings_at, history_of, is_lawful, after_events, lawful_among}
use Rattle.world.specs.Run.{IsLog, IsRun}
use Rattle.world.specs.World.{WorldValue}
use Rattle.world.specs.Step.{HaveRun}
use Rattle.world.specs.Laws.{OneRun}
use Rattle.book.specs.Book.{BookValue}
use Rattle.world.specs.Replays.{AllCouldBeMade}
use Rattle.node_reports.specs.declared.journal.Journal.{Journal}
use Rattle.node_reports.specs.Journals.{firsts_of, openings_of, IsLawful}
use Rattle.node_reports.specs.Reports.{AreJournalsOf, RunsAgain}
use Rattle.node_reports.specs.Codes.{IsOfPlant, AreOfPlant}
use Rattle.run_texts.specs.Steps.Replaying.{IsReplay, AreOfOneCode}

-- the lawful events of a list have the history of all of them
pub lawful_history : (s : Setting) (h : List Event) (es : List Event) → after_events s h (lawful_among s h es) ≡ after_events s h es
lawful_history s h [] = refl
lawful_history s h (e ∷ es) = by (is_lawful s h e) refl (lawful_history s (e ∷ h) es) (lawful_history s h es) where
  by : (b : Bool) → is_lawful s h e ≡ b → after_events s (e ∷ h) (lawful_among s (e ∷ h) es) ≡ after_events s (e ∷ h) es → after_events s h (lawful_among s h es) ≡ after_events s h es
      → after_events s h (if b then e ∷ lawful_among s (e ∷ h) es else lawful_among s h es) ≡ after_events s (if b then e ∷ h else h) es
  by true is first rest = ap (λ b. after_events s (if b then e ∷ h else h) (lawful_among s (e ∷ h) es)) is ∙ first
  by false is first rest = rest

-- a world that did these events has their run
pub run_of : (s : Setting) (old new : WorldValue) (es : List Event) (log : List Evaluated) → old ≡ record { setting = s; events = []; log = [] } → HaveRun old new es → IsRun new.setting new.events new.log → log ≡ new.log → IsRun s es log
run_of s old new es log is follows run same =
    let f = subst (λ (w : WorldValue). HaveRun w new es) is follows in
    let placed = subst (λ (t : Setting). IsRun t new.events new.log) f.setting run in
    let done = subst (λ (done : List Event). IsRun s done new.log) f.events placed in
    let of_all = subst (λ (h : List Event). IsLog s h (reverse new.log)) (lawful_history s [] es) done in
    subst (IsRun s es) (sym same) of_all

-- where the entries are the run of each schedule that makes them again, a replay is equal
pub replayed_equal : (plant : PlantValue) (book : BookValue) (journals : List Journal) (equal : Bool) → OneRun → RunsAgain plant 4294967295 book journals → IsReplay plant (firsts_of journals) (openings_of journals) book equal → equal ≡ true
replayed_equal plant book journals equal one_run again replay =
    let same : replay.log ≡ book.entries = one_run _ replay.schedule replay.log book.entries replay.run (again replay.schedule replay.again) in
    replay.equal_is.1 same

-- each evaluation that events make is by the plant's code
log_of_plant : (s : Setting) (h : List Event) (log : List Evaluated) → IsLog s h log → AllByRecursion (IsOfPlant s.plant) log
log_of_plant s [] [] made = tt
log_of_plant s [] (x ∷ older) made = absurd made
log_of_plant s (Deliver message resource ∷ h) log made = log_of_plant s h log made
log_of_plant s (Restart resource ∷ h) log made = log_of_plant s h log made
log_of_plant s (Hear resource of incarnation ∷ h) log made = log_of_plant s h log made
log_of_plant s (Evaluate ticket task dt inputs ∷ h) [] made = absurd made
log_of_plant s (Evaluate ticket task dt inputs ∷ h) (x ∷ older) made =
    let next = made.1 in
    let of_task : x.name.task ≡ task = ap (λ (e : Evaluated). e.name.task) next.asked.is in
    (ap (code_at s.plant) of_task ∙ next.found ∙ ap Some (sym (ap (λ (e : Evaluated). e.code) next.asked.is)), log_of_plant s h older made.0)

each-turned : {X : Type 0} (P : X → Type 0) (xs : List X) → AllByRecursion P xs → AllByRecursion P (reverse xs)
each-turned P [] all = tt
each-turned P (x ∷ xs) all = subst (AllByRecursion P) (sym (reverse-append (x ∷ []) xs)) (each-append P (reverse xs) (x ∷ []) (each-turned P xs all.1) (all.0, tt))

-- evaluations of a run, and others by the plant's codes, are by one code where they are of one task
pub of_one_code : (s : Setting) (events : List Event) (log entries : List Evaluated) → IsRun s events log → AreOfPlant s.plant entries → AreOfOneCode log entries
of_one_code s events log entries run of_plant = λ k x y at_x at_y same.
    let all = subst (AllByRecursion (IsOfPlant s.plant)) (reverse-reverse log) (each-turned (IsOfPlant s.plant) (reverse log) (log_of_plant s (history_of s events) (reverse log) run)) in
    let made : code_at s.plant x.name.task ≡ Some x.code = Each-at (IsOfPlant s.plant) log x all (slice_get-among log k x at_x) in
    let entry : code_at s.plant y.name.task ≡ Some y.code = All-contains (IsOfPlant s.plant) entries y of_plant (contains_at entries k y at_y) in
    same_Some x.code y.code (sym made ∙ ap (code_at s.plant) same ∙ entry)

made_of_plant : (s : Setting) (older : List Evaluated) → AllCouldBeMade s older → AllByRecursion (IsOfPlant s.plant) older
made_of_plant s [] all = tt
made_of_plant s (x ∷ older) all = (all.0.found ∙ ap Some (sym all.0.same_code), made_of_plant s older all.1)

-- entries that could have been made are by the plant's codes
pub entries_of_plant : (s : Setting) (entries : List Evaluated) → AllCouldBeMade s (reverse entries) → AreOfPlant s.plant entries
entries_of_plant s entries all =
    let each = subst (AllByRecursion (IsOfPlant s.plant)) (reverse-reverse entries) (each-turned (IsOfPlant s.plant) (reverse entries) (made_of_plant s (reverse entries) all)) in
    all_from_places (IsOfPlant s.plant) entries (λ k x at. Each-at (IsOfPlant s.plant) entries x each (slice_get-among entries k x at))

All-at : {X : Type 0} (P : X → Type 0) (xs : List X) (k : ℕ) (x : X) → slice_get xs k ≡ Some x → All P xs → P x
All-at P xs k x at all = subst P (get_or_from_slice_get xs k x x at) (all k x (slice_get_within xs k x at))

-- the openings of lawful journals, one for each resource, are openings of the plant
pub openings_suit : (plant : PlantValue) (max_number : ℕ) (journals : List Journal) → AreJournalsOf plant max_number journals → AreOpenings plant (openings_of journals)
openings_suit plant max_number journals js = record { many = many; each = λ n. by n (cases_lt n (length journals)) }
  where
    many : length (openings_of journals) ≡ length plant.resources
    many = length-map journals (λ (j : Journal). j.opening) ∙ js.many

    by : (n : ℕ) → (n < length journals) ⊎ (length journals ≤ n) → AreOpeningOf plant n (openings_at (openings_of journals) n)
    by n (inl lt) =
        let found = element_at journals n lt in
        let j = found.0 in
        let opened = (All-at (IsLawful plant (firsts_of journals) max_number) journals n j found.1 js.lawful).opened in
        let at : openings_at (openings_of journals) n ≡ j.opening = get_or_from_slice_get (openings_of journals) n j.opening []
        (slice_get-map (λ (i : Journal). i.opening) journals n ∙ ap (option_map (λ (i : Journal). i.opening)) found.1) in
        subst (AreOpeningOf plant n) (sym at) (subst (λ (r : ℕ). AreOpeningOf plant r j.opening) (js.in_order n j found.1) opened)
    by n (inr past) =
        let none : openings_at (openings_of journals) n ≡ [] = get_or_past (openings_of journals) n [] (omega (arith, many, js.many)) in
        let no_codes : codes_at plant n ≡ [] = ap (λ o. items_or_none (option_map (λ (r : ResourceValue). r.codes) o)) (slice_get_past plant.resources n (omega (arith, js.many))) in
        subst (AreOpeningOf plant n) (sym none) (record {
          many = sym (ap length no_codes);
          each = λ task code values found at. absurd (none-some values at);
        })
