-- What outlives a restart of a node's tasks, and what its keeper may tell of them.
use Rattle.std.proofs.Common.{◌≡◌, ◌≢◌, ◌⊎◌, inl, inr, ℕ, ◌+◌, ◌<◌, List, [], Option, Some, None, Result, Ok, Err, length, replicate, slice_get, refl, ap, sym, ◌∙◌, subst, arith}
use Rattle.std.specs.Prelude.{slice_set, slice_index_or, true, false, Bool, if◌then◌else◌}
use Rattle.std.specs.Option.{option_map, option_and_then}
use Rattle.std.specs.Result.{IsErrAnd}
use Rattle.std.proofs.lemmas.Bool.{cases_eq}
use Rattle.std.proofs.lemmas.List.{get_or-set_same, get_or-set_other}
use Rattle.std.proofs.lemmas.Option.{none-some, same_Some, slice_get_within, slice_get-get_or}
use Rattle.lists.specs.Items.{items_or_none}
use Rattle.lists.proofs.Tables.{cell_filled, cell_place, cell_same, row_lengths_kept}
use Rattle.std_blocks.specs.declared.value.Value.{Value}
use Rattle.task_codes.specs.declared.task_ref.TaskRef.{TaskRef}
use Rattle.task_codes.specs.CodeValue.{CodeValue}
use Rattle.plant.specs.PlantValue.{ResourceValue, PlantValue, code_at, codes_at}
use Rattle.evaluation.specs.declared.field_input.FieldInput.{FieldInput}
use Rattle.evaluation.specs.Last.{left_by, state_from}
use Rattle.evaluation.specs.Meaning.{Evaluated}
use Rattle.evaluation.specs.Messages.{MessageValue}
use Rattle.evaluation.specs.Retained.{retained_values}
use Rattle.keepers.specs.Keepers.{Telling, TellsNoMore, KeepsOthers}
use Rattle.keepers.specs.LeftValues.{TellsLeft}
use Rattle.exchange_core.specs.declared.accepted.Accepted.{Accepted}
use Rattle.exchange_core.specs.declared.accepted.Accepted.TheVariants.{Taken, Old, Unused, Stray}
use Rattle.exchange_core.specs.declared.last.Last.{Last}
use Rattle.exchange_core.specs.declared.last.Last.TheVariants.{Whole, Told}
use Rattle.exchange_core.specs.HeldMessages.{Table, whole_in, with_known, IsShaped}
use Rattle.exchange_core.specs.Openings.{AreOpeningOf}
use Rattle.exchange_core.specs.MessageCoreValue.{MessageCoreValue, fresh_core, kept_at, own_last, own_task, holding, IsAccepted, IsNext, IsNextOf, IsRestartOf}
use Rattle.live_node.specs.declared.live_stop.LiveStop.{LiveStop}
use Rattle.live_node.specs.declared.live_stop.LiveStop.TheVariants.{Node, Read, Write, Memory}
use Rattle.live_node.specs.Keeping.{HasNotFailed, outliving, IsOutlived, KeepsCore, KeepsAllButOne, OutliveAlike, OutlivesMade, TellsBefore}
use Rattle.live_node.specs.Steps.Keeping.{LeavesEither}
use Rattle.keepers.specs.Openings.{TellsOpening}
use Rattle.live_node.specs.NodeSteps.{HasTaken, HasHeardOf}
use Rattle.live_node.specs.NodeValue.{NodeValue, core_at_0, AreLastsOwn, IsStarted, IsNodeOf, node_of}

-- the core in which a task's evaluation is what is known of it
abbrev core_with : MessageCoreValue → ℕ → Evaluated → MessageCoreValue
core_with core task x = record core { table = with_known core.table (own_task core task) (Some (Whole x)) }

-- a task of the plant has a place in a table
place : (plant : PlantValue) (table : Table) (p : TaskRef) (code : CodeValue) → IsShaped plant table → code_at plant p ≡ Some code → (p.resource < length table) × (p.task < length (slice_index_or table p.resource []))
place plant table p code shaped found = cell_place (λ o. items_or_none (option_map (λ (r : ResourceValue). r.codes) o)) plant.resources table p.resource p.task code refl shaped found

-- an evaluation that was made is what is known of its task from then on
last_made : (core : MessageCoreValue) (task : ℕ) (code : CodeValue) (x : Evaluated) → IsShaped core.plant core.table → code_at core.plant (own_task core task) ≡ Some code → own_last (core_with core task x) task ≡ Some x
last_made core task code x shaped found =
    let at = place core.plant core.table (own_task core task) code shaped found in
    ap (option_and_then whole_in) (cell_same core.table core.resource task (Some (Whole x)) None at.0 at.1)

-- and nothing else is known of another task of the resource
last_other : (core : MessageCoreValue) (task other : ℕ) (code : CodeValue) (x : Evaluated) → IsShaped core.plant core.table → code_at core.plant (own_task core task) ≡ Some code → other ≢ task → own_last (core_with core task x) other ≡ own_last core other
last_other core task other code x shaped found apart =
    let at = place core.plant core.table (own_task core task) code shaped found in
    let row = slice_index_or core.table core.resource [] in
    ap (λ (cells : List (Option Last)). option_and_then whole_in (slice_index_or cells other None)) (get_or-set_same core.table core.resource (slice_set row task (Some (Whole x))) [] at.0)
    ∙ ap (option_and_then whole_in) (get_or-set_other row task other (Some (Whole x)) None apart)

-- an evaluation begins with what outlived before it
begins_with : (kept : List Value) (code : CodeValue) (x : Evaluated) (o : Option Evaluated) → ((y : Evaluated) → o ≡ Some y → y.code ≡ code) → x.before ≡ state_from code kept o → IsOutlived code kept x (left_by kept o)
begins_with kept code x None codes before = inr (before, refl)
begins_with kept code x (Some y) codes before =
    let same : y.code ≡ code = codes y refl in
    inl (ap (λ (c : CodeValue). retained_values c y.after) same ∙ ap (retained_values code) (sym before))

next_begins : (core : MessageCoreValue) (ticket task dt : ℕ) (inputs : List FieldInput) (x : Evaluated) → AreLastsOwn core → IsNextOf core ticket task dt inputs x → IsOutlived x.code (kept_at core task) x (outliving core task)
next_begins core ticket task dt inputs x own next =
    let code : x.code ≡ next.code = ap (λ (y : Evaluated). y.code) next.asked.is in
    let before : x.before ≡ state_from next.code (kept_at core task) (own_last core task) = ap (λ (y : Evaluated). y.before) next.asked.is in
    subst (λ (c : CodeValue). IsOutlived c (kept_at core task) x (outliving core task)) (sym code)
    (begins_with (kept_at core task) next.code x (own_last core task) (λ y last. same_Some y.code next.code (sym (own task y last) ∙ next.found)) before)

-- a task was evaluated
made_outlives : (core new : MessageCoreValue) (ticket task dt : ℕ) (inputs : List FieldInput) (x : Evaluated) → IsShaped core.plant core.table → AreLastsOwn core → IsNext core new ticket task dt inputs x → OutlivesMade core new x
made_outlives core new ticket task dt inputs x shaped lasts made =
    let next = made.next in
    let code : x.code ≡ next.code = ap (λ (y : Evaluated). y.code) next.asked.is in
    let here : x.name.task.task ≡ task = ap (λ (y : Evaluated). y.name.task.task) next.asked.is in
    subst (λ (n : MessageCoreValue). OutlivesMade core n x) (sym made.after) (record {
      plant_is = refl;
      resource_is = refl;
      found = subst (λ (t : ℕ). code_at core.plant (own_task core t) ≡ Some x.code) (sym here) (next.found ∙ ap (λ (c : CodeValue). Some c) (sym code));
      last = subst (λ (t : ℕ). own_last (core_with core task x) t ≡ Some x) (sym here) (last_made core task next.code x shaped next.found);
      began = subst (λ (t : ℕ). IsOutlived x.code (kept_at core t) x (outliving core t)) (sym here) (next_begins core ticket task dt inputs x lasts next);
      own = subst (λ (t : ℕ). outliving (core_with core task x) t ≡ retained_values x.code x.after) (sym here) (ap (left_by (kept_at core task)) (last_made core task next.code x shaped next.found));
      others = λ other apart. ap (left_by (kept_at core other)) (last_other core task other next.code x shaped next.found (λ same. apart (same ∙ sym here)));
    })

pub evaluation_outlives : (plant : PlantValue) (n lines made : ℕ) (core new : MessageCoreValue) (ticket task dt : ℕ) (inputs : List FieldInput) (x : Evaluated) → IsNodeOf plant n (node_of core lines made) → IsNext core new ticket task dt inputs x → OutlivesMade core new x
evaluation_outlives plant n lines made core new ticket task dt inputs x is h = made_outlives core new ticket task dt inputs x (subst (λ (p : PlantValue). IsShaped p core.table) (sym is.plant_is) is.shaped) is.lasts h

-- a message is of another resource
taken_own : (core : MessageCoreValue) (m : MessageValue) (task : ℕ) → (m.name.task.resource ≡ core.resource → ⊥) → own_last (holding core (Told m)) task ≡ own_last core task
taken_own core m task another =
    let p = m.name.task in
    ap (λ (cells : List (Option Last)). option_and_then whole_in (slice_index_or cells task None))
    (get_or-set_other core.table p.resource core.resource (slice_set (slice_index_or core.table p.resource []) p.task (Some (Told m))) [] (λ same. another (sym same)))

pub alike_same : (core : MessageCoreValue) → OutliveAlike core core
alike_same core = record { plant_is = refl; resource_is = refl; each = λ task code found. refl }

accepted_alike : (old new : MessageCoreValue) (m : MessageValue) (answer : Accepted) → IsAccepted old new (Told m) answer → OutliveAlike old new
accepted_alike old new m Unused h = subst (OutliveAlike old) (sym h.after) (alike_same old)
accepted_alike old new m Stray h = subst (OutliveAlike old) (sym h.after) (alike_same old)
accepted_alike old new m Old h = subst (OutliveAlike old) (sym h.after) (alike_same old)
accepted_alike old new m Taken h =
    let another = h.answer_is.0.another in
    subst (OutliveAlike old) (sym h.after)
    (record { plant_is = refl; resource_is = refl; each = λ task code found. ap (left_by (kept_at old task)) (taken_own old m task another) })

taken_alike : (old new : NodeValue) (m : MessageValue) (answer : Accepted) → HasTaken old new m answer → OutliveAlike old.core new.core
taken_alike old new m answer h = accepted_alike old.core new.core m answer h.accepted

heard_core : (old new : MessageCoreValue) (of incarnation : ℕ) (newer : Bool) → new ≡ (if newer then record old { heard = slice_set old.heard of incarnation } else old) → OutliveAlike old new
heard_core old new of incarnation true is = subst (OutliveAlike old) (sym is) (record { plant_is = refl; resource_is = refl; each = λ task code found. refl })
heard_core old new of incarnation false is = subst (OutliveAlike old) (sym is) (alike_same old)

heard_alike : (old new : NodeValue) (of incarnation : ℕ) (newer : Bool) → HasHeardOf old new of incarnation newer → OutliveAlike old.core new.core
heard_alike old new of incarnation newer h = heard_core old.core new.core of incarnation newer h.heard.after

-- the last evaluations are by their tasks' codes: after an evaluation, a message and a restart
lasts_made : (core : MessageCoreValue) (ticket task dt : ℕ) (inputs : List FieldInput) (x : Evaluated) → IsShaped core.plant core.table → AreLastsOwn core → IsNextOf core ticket task dt inputs x → AreLastsOwn (core_with core task x)
lasts_made core ticket task dt inputs x shaped lasts next = λ other y last. by other y last (cases_eq other task)
  where
    by : (other : ℕ) (y : Evaluated) → own_last (core_with core task x) other ≡ Some y → (other ≡ task) ⊎ (other ≡ task → ⊥) → code_at core.plant (own_task core other) ≡ Some y.code
    by other y last (inl same) =
        let is : x ≡ y = same_Some x y (sym (last_made core task next.code x shaped next.found) ∙ ap (own_last (core_with core task x)) (sym same) ∙ last) in
        let code : next.code ≡ y.code = sym (ap (λ (z : Evaluated). z.code) next.asked.is) ∙ ap (λ (z : Evaluated). z.code) is in
        ap (λ (t : ℕ). code_at core.plant (own_task core t)) same ∙ next.found ∙ ap (λ (c : CodeValue). Some c) code
    by other y last (inr apart) = lasts other y (sym (last_other core task other next.code x shaped next.found apart) ∙ last)

lasts_taken : (core : MessageCoreValue) (m : MessageValue) → (m.name.task.resource ≡ core.resource → ⊥) → AreLastsOwn core → AreLastsOwn (holding core (Told m))
lasts_taken core m another lasts = λ task x last. lasts task x (sym (taken_own core m task another) ∙ last)

-- how many tasks a resource has
abbrev codes_long : ResourceValue → ℕ
codes_long r = length r.codes

abbrev no_last : Option Last
no_last = None

-- a fresh core knows of no evaluation
fresh_last : (plant : PlantValue) (n : ℕ) (first : List ℕ) (i : ℕ) (opening : List (List Value)) (most task : ℕ) → own_last (fresh_core plant n first i opening most) task ≡ None
fresh_last plant n first i opening most task = ap (option_and_then whole_in) (cell_filled codes_long no_last plant.resources n task)

restarted_last : (old new : MessageCoreValue) (i task : ℕ) → IsRestartOf old new i → own_last new task ≡ None
restarted_last old new i task h = ap (λ (c : MessageCoreValue). own_last c task) h.is ∙ fresh_last old.plant old.resource old.first i new.kept old.max_number task

pub lasts_risen : (old new : MessageCoreValue) (i : ℕ) → IsRestartOf old new i → AreLastsOwn new
lasts_risen old new i h = λ task x last. absurd (none-some x (sym (restarted_last old new i task h) ∙ last))

-- a restart
risen_alike : (old new : MessageCoreValue) (i : ℕ) → length old.kept ≡ length (codes_at old.plant old.resource) → IsRestartOf old new i → OutliveAlike old new
risen_alike old new i many h =
    record {
      plant_is = ap (λ (c : MessageCoreValue). c.plant) h.is;
      resource_is = ap (λ (c : MessageCoreValue). c.resource) h.is;
      each = λ task code found. (let within = slice_get_within (codes_at old.plant old.resource) task code found in
          ap (left_by (kept_at new task)) (restarted_last old new i task h) ∙ h.kept task (omega (arith, within, many)));
    }

pub restart_alike : (plant : PlantValue) (n lines made i : ℕ) (old new : MessageCoreValue) → IsNodeOf plant n (node_of old lines made) → IsRestartOf old new i → OutliveAlike old new
restart_alike plant n lines made i old new is h =
    risen_alike old new i (is.kept_each ∙ ap (λ (p : PlantValue). length (codes_at p n)) (sym is.plant_is) ∙ ap (λ (m : ℕ). length (codes_at old.plant m)) (sym is.resource_is)) h

-- the parts of a node suit each other after an evaluation
pub node_made : (plant : PlantValue) (n lines made next_lines next_made ticket task dt : ℕ) (inputs : List FieldInput) (x : Evaluated) (core new : MessageCoreValue) → IsNodeOf plant n (node_of core lines made) → IsNext core new ticket task dt inputs x → next_lines ≡ lines + 1 → next_made ≡ made + 1
    → IsNodeOf plant n (node_of new next_lines next_made)
node_made plant n lines made next_lines next_made ticket task dt inputs x core new is h more one =
    subst (λ (c : MessageCoreValue). IsNodeOf plant n (node_of c next_lines next_made)) (sym h.after) (record {
      plant_is = is.plant_is;
      resource_is = is.resource_is;
      exists = is.exists;
      firsts = is.firsts;
      heards = is.heards;
      shaped = row_lengths_kept core.table core.resource task (Some (Whole x)) ∙ is.shaped;
      kept_each = is.kept_each;
      lasts = lasts_made core ticket task dt inputs x (subst (λ (p : PlantValue). IsShaped p core.table) (sym is.plant_is) is.shaped) is.lasts h.next;
      fewer = omega (arith, is.fewer, more, one);
    })

-- and after a message
pub node_taken : (plant : PlantValue) (n lines made next_lines : ℕ) (m : MessageValue) (answer : Accepted) (core new : MessageCoreValue) → IsNodeOf plant n (node_of core lines made) → IsAccepted core new (Told m) answer → next_lines ≡ lines + 1 → IsNodeOf plant n (node_of new next_lines made)
node_taken plant n lines made next_lines m answer core new is h more = by answer h
  where
    same : new ≡ core → IsNodeOf plant n (node_of new next_lines made)
    same e = subst (λ (c : MessageCoreValue). IsNodeOf plant n (node_of c next_lines made)) (sym e)
        (record { plant_is = is.plant_is; resource_is = is.resource_is; exists = is.exists; firsts = is.firsts; heards = is.heards; shaped = is.shaped; kept_each = is.kept_each; lasts = is.lasts; fewer = omega (arith, is.fewer, more) })

    by : (answer : Accepted) → IsAccepted core new (Told m) answer → IsNodeOf plant n (node_of new next_lines made)
    by Unused h = same h.after
    by Stray h = same h.after
    by Old h = same h.after
    by Taken h =
        subst (λ (c : MessageCoreValue). IsNodeOf plant n (node_of c next_lines made)) (sym h.after) (record {
          plant_is = is.plant_is;
          resource_is = is.resource_is;
          exists = is.exists;
          firsts = is.firsts;
          heards = is.heards;
          shaped = row_lengths_kept core.table m.name.task.resource m.name.task.task (Some (Told m)) ∙ is.shaped;
          kept_each = is.kept_each;
          lasts = lasts_taken core m h.answer_is.0.another is.lasts;
          fewer = omega (arith, is.fewer, more);
        })

-- a task of a core, as it was before
found_before : (old new : MessageCoreValue) (task : ℕ) (code : CodeValue) → new.plant ≡ old.plant → new.resource ≡ old.resource → code_at new.plant (own_task new task) ≡ Some code → code_at old.plant (own_task old task) ≡ Some code
found_before old new task code plant_is resource_is found =
    subst (λ (n : ℕ). slice_get (codes_at old.plant n) task ≡ Some code) resource_is (subst (λ (p : PlantValue). slice_get (codes_at p new.resource) task ≡ Some code) plant_is found)

-- the keeper tells no less, and the same outlives a restart
pub keeps_alike : (before now : Telling) (old new : MessageCoreValue) → TellsNoMore now before → OutliveAlike old new → KeepsCore before old → KeepsCore now new
keeps_alike before now old new tells alike keeps = λ task code found some.
    let at = found_before old new task code alike.plant_is alike.resource_is found in
    subst (λ (values : List Value). now task code (Ok values)) (sym (alike.each task code at)) (tells task code (Ok (outliving old task)) (keeps task code at some))

-- what an evaluation left is kept, and all else as before
keeps_made : (before now : Telling) (old new : MessageCoreValue) (x : Evaluated) → OutlivesMade old new x → KeepsOthers before now x.name.task.task → TellsLeft now x → KeepsCore before old → KeepsCore now new
keeps_made before now old new x made others left keeps = λ task code found some. by task code (found_before old new task code made.plant_is made.resource_is found) some (cases_eq task x.name.task.task)
  where
    by : (task : ℕ) (code : CodeValue) → code_at old.plant (own_task old task) ≡ Some code → code.retained ≢ [] → (task ≡ x.name.task.task) ⊎ (task ≡ x.name.task.task → ⊥) → now task code (Ok (outliving new task))
    by task code found some (inr apart) =
        subst (λ (values : List Value). now task code (Ok values)) (sym (made.others task apart)) (others task code (outliving old task) apart (keeps task code found some))
    by task code found some (inl same) =
        let own : x.code ≡ code = same_Some x.code code (sym made.found ∙ ap (λ (t : ℕ). code_at old.plant (own_task old t)) (sym same) ∙ found) in
        let told : now x.name.task.task x.code (Ok (outliving new x.name.task.task)) =
        subst (λ (values : List Value). now x.name.task.task x.code (Ok values)) (sym made.own) (left (λ none. some (sym (ap (λ (c : CodeValue). c.retained) own) ∙ none))) in
        subst (λ (c : CodeValue). now task c (Ok (outliving new task))) own (subst (λ (t : ℕ). now t x.code (Ok (outliving new t))) (sym same) told)

-- a node that began
pub begun_keeps : (tells now : Telling) (plant : PlantValue) (n i : ℕ) (opening : List (List Value)) (s : NodeValue) → TellsNoMore now tells → TellsOpening tells plant n opening → AreOpeningOf plant n opening → IsStarted plant n opening i s → KeepsCore now s.core
begun_keeps tells now plant n i opening s more told suits started =
    let first = core_at_0 plant n opening in
    keeps_alike tells now first s.core more (risen_alike first s.core i suits.many started.risen) (λ task code found some.
    (let within = slice_get_within (codes_at plant n) task code found in
    let many = suits.many in
    subst (λ (values : List Value). tells task code (Ok values)) (sym (ap (left_by (kept_at first task)) (fresh_last plant n (replicate (length plant.resources) 0) 0 opening 4294967295 task)))
    (told task code (kept_at first task) found (slice_get-get_or opening task [] (omega (arith, within, many))))))

-- all of them are all but one
pub all_but_one : (tells : Telling) (core : MessageCoreValue) → KeepsCore tells core → KeepsAllButOne tells core
all_but_one tells core keeps = (0, λ task code found some. inl (keeps task code found some))

-- what an evaluation left is kept or what was before it, and all else as before
keeps_others : (before now : Telling) (old new : MessageCoreValue) (x : Evaluated) → OutlivesMade old new x → KeepsOthers before now x.name.task.task → LeavesEither before now x → KeepsCore before old → KeepsAllButOne now new
keeps_others before now old new x made others either keeps = (
  x.name.task.task,
  λ task code found some. by task code (found_before old new task code made.plant_is made.resource_is found) some (cases_eq task x.name.task.task),
)
  where
    own : (code : CodeValue) → x.code ≡ code → now x.name.task.task code (Ok (outliving old x.name.task.task)) ⊎ now x.name.task.task code (Ok (retained_values x.code x.after))
        → now x.name.task.task code (Ok (outliving new x.name.task.task)) ⊎ ((x.name.task.task ≡ x.name.task.task) × TellsBefore now new x.name.task.task code)
    own code is (inl told) = inr (
      refl,
      record {
        last = x;
        is_last = made.last;
        values = outliving old x.name.task.task;
        outlived = subst (λ (c : CodeValue). IsOutlived c (kept_at new x.name.task.task) x (outliving old x.name.task.task)) is made.began;
        told = told;
      },
    )
    own code is (inr told) = inl (subst (λ (values : List Value). now x.name.task.task code (Ok values)) (sym made.own) told)

    by : (task : ℕ) (code : CodeValue) → code_at old.plant (own_task old task) ≡ Some code → code.retained ≢ [] → (task ≡ x.name.task.task) ⊎ (task ≡ x.name.task.task → ⊥)
        → now task code (Ok (outliving new task)) ⊎ ((task ≡ x.name.task.task) × TellsBefore now new task code)
    by task code found some (inr apart) =
        inl (subst (λ (values : List Value). now task code (Ok values)) (sym (made.others task apart)) (others task code (outliving old task) apart (keeps task code found some)))
    by task code found some (inl same) =
        let here : code_at old.plant (own_task old x.name.task.task) ≡ Some code = ap (λ (t : ℕ). code_at old.plant (own_task old t)) (sym same) ∙ found in
        let is : x.code ≡ code = same_Some x.code code (sym made.found ∙ here) in
        let told = subst (λ (c : CodeValue). now x.name.task.task c (Ok (outliving old x.name.task.task)) ⊎ now x.name.task.task c (Ok (retained_values x.code x.after))) is
        (either (outliving old x.name.task.task) (subst (λ (c : CodeValue). before x.name.task.task c (Ok (outliving old x.name.task.task))) (sym is) (keeps x.name.task.task code here some))) in
        subst (λ (t : ℕ). now t code (Ok (outliving new t)) ⊎ ((t ≡ x.name.task.task) × TellsBefore now new t code)) (sym same) (own code is told)

-- a keeper that is the same, and a node's state
as_before : {K : Type 0} (gives : K → Telling) (first keeper : K) (s state : NodeValue) → keeper ≡ first → state ≡ s → KeepsCore (gives first) s.core → KeepsCore (gives keeper) state.core
as_before gives first keeper s state same is keeps = subst (λ k. KeepsCore (gives k) state.core) (sym same) (subst (λ (n : NodeValue). KeepsCore (gives first) n.core) (sym is) keeps)

pub unchanged_rest : {K : Type 0} (gives : K → Telling) (first keeper : K) (s state : NodeValue) → keeper ≡ first → state ≡ s → KeepsCore (gives first) s.core → KeepsAllButOne (gives keeper) state.core
unchanged_rest gives first keeper s state same is keeps = all_but_one (gives keeper) state.core (as_before gives first keeper s state same is keeps)

-- an evaluation whose line was noted before
pub evaluated_keeps : {K : Type 0} (gives : K → Telling) (first before now : K) (s state : NodeValue) (new : MessageCoreValue) (x y : Evaluated) → before ≡ first → state ≡ s → y ≡ x → OutlivesMade state.core new x → KeepsOthers (gives before) (gives now) y.name.task.task → TellsLeft (gives now) y
    → KeepsCore (gives first) s.core → KeepsCore (gives now) new
evaluated_keeps gives first before now s state new x y same is made_of made others left keeps =
    keeps_made (gives before) (gives now) state.core new x made (subst (λ (z : Evaluated). KeepsOthers (gives before) (gives now) z.name.task.task) made_of others) (subst (TellsLeft (gives now)) made_of left) (as_before gives first before s state same is keeps)

pub made_rest : {K : Type 0} (gives : K → Telling) (first before now : K) (s state : NodeValue) (new : MessageCoreValue) (x y : Evaluated) → before ≡ first → state ≡ s → y ≡ x → OutlivesMade state.core new x → KeepsOthers (gives before) (gives now) y.name.task.task → TellsLeft (gives now) y
    → KeepsCore (gives first) s.core → KeepsAllButOne (gives now) new
made_rest gives first before now s state new x y same is made_of made others left keeps =
    all_but_one (gives now) new (evaluated_keeps gives first before now s state new x y same is made_of made others left keeps)

pub evaluated_rest : {K : Type 0} (gives : K → Telling) (first before now : K) (s state : NodeValue) (new : MessageCoreValue) (x y : Evaluated) → before ≡ first → state ≡ s → y ≡ x → OutlivesMade state.core new x → KeepsOthers (gives before) (gives now) y.name.task.task → LeavesEither (gives before) (gives now) y
    → KeepsCore (gives first) s.core → KeepsAllButOne (gives now) new
evaluated_rest gives first before now s state new x y same is made_of made others either keeps =
    keeps_others (gives before) (gives now) state.core new x made (subst (λ (z : Evaluated). KeepsOthers (gives before) (gives now) z.name.task.task) made_of others) (subst (LeavesEither (gives before) (gives now)) made_of either) (as_before gives first before s state same is keeps)

-- a message, and a hello
pub message_keeps : {K : Type 0} (gives : K → Telling) (first keeper : K) (s state new : NodeValue) (m : MessageValue) (answer : Accepted) → keeper ≡ first → state ≡ s → HasTaken state new m answer → KeepsCore (gives first) s.core → KeepsCore (gives keeper) new.core
message_keeps gives first keeper s state new m answer same is taken keeps =
    keeps_alike (gives keeper) (gives keeper) state.core new.core (λ task code told h. h) (taken_alike state new m answer taken) (as_before gives first keeper s state same is keeps)

pub hello_keeps : {K : Type 0} (gives : K → Telling) (first keeper : K) (s state new : NodeValue) (of incarnation : ℕ) (newer : Bool) → keeper ≡ first → state ≡ s → HasHeardOf state new of incarnation newer → KeepsCore (gives first) s.core → KeepsCore (gives keeper) new.core
hello_keeps gives first keeper s state new of incarnation newer same is heard keeps =
    keeps_alike (gives keeper) (gives keeper) state.core new.core (λ task code told h. h) (heard_alike state new of incarnation newer heard) (as_before gives first keeper s state same is keeps)

-- a restart to which the keeper was raised
pub restart_keeps : {K : Type 0} (gives : K → Telling) (first raised last : K) (old new : MessageCoreValue) → last ≡ raised → TellsNoMore (gives raised) (gives first) → OutliveAlike old new → KeepsCore (gives first) old → KeepsCore (gives last) new
restart_keeps gives first raised last old new same tells alike keeps = subst (λ k. KeepsCore (gives k) new) (sym same) (keeps_alike (gives first) (gives raised) old new tells alike keeps)

-- a stop that is handed on is one of the node where it was
pub same_failure : {T : Type 0} (U : Type 0) (stop : LiveStop) (r : Result T LiveStop) → IsErrAnd r (λ found. found ≡ stop) → HasNotFailed r → HasNotFailed {T = U} (Err stop)
same_failure {T} U stop (Ok x) is h = absurd is
same_failure {T} U stop (Err found) is h = subst (λ (s : LiveStop). HasNotFailed {T = U} (Err s)) is (by found h)
  where
    by : (s : LiveStop) → HasNotFailed {T = T} (Err s) → HasNotFailed {T = U} (Err s)
    by (Node why) h = absurd h
    by Read h = tt
    by Write h = tt
    by Memory h = tt
