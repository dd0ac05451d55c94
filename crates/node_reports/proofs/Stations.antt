-- A station's journal stays lawful, and its core goes on standing where the journal has come to.
use Rattle.std.proofs.Common.{◌≡◌, ◌<◌, ℕ, Bool, true, false, cond, length, Some, List, [], ◌∷◌, ◌++◌, Result, Ok, Err, IfOk, OnOk, OnErr, ap, sym, ◌∙◌, subst}
use Rattle.std.specs.Prelude.{reverse, slice_index, slice_set}
use Rattle.std.proofs.lemmas.List.{reverse-append}
use Rattle.std_blocks.specs.declared.value.Value.{Value}
use Rattle.plant.specs.PlantValue.{PlantValue, IsSoundPlant}
use Rattle.evaluation.specs.declared.field_input.FieldInput.{FieldInput}
use Rattle.evaluation.specs.Meaning.{Evaluated}
use Rattle.exchange_core.specs.declared.accepted.Accepted.{Accepted}
use Rattle.exchange_core.specs.declared.accepted.Accepted.TheVariants.{Taken, Old, Unused, Stray}
use Rattle.exchange_core.specs.CoreValue.{CoreValue, fresh_core, AreOpeningOf, IsRestartOf, HasHeard, IsAccepted, IsNext}
use Rattle.exchange_core.specs.Held.{Table, with_known}
use Rattle.node_reports.specs.declared.step.Step.{Step}
use Rattle.node_reports.specs.declared.step.Step.TheVariants.{Took, Made, Restarted, Heard}
use Rattle.node_reports.specs.declared.journal.Journal.{Journal}
use Rattle.node_reports.specs.Journals.{incarnation_after, Follows, EachAfter, IsLawful, fresh_journal, with_step}
use Rattle.node_reports.specs.Steps.Standing.{Stands, IsStation, IsAhead}
use Rattle.node_reports.proofs.Standing.{stands-took, stands-made, stands-heard, follows-made, stands-fresh, stands-restarted}

-- the last step is the first one of the steps turned round
turned : (j : Journal) (s : Step) → reverse (j.steps ++ s ∷ []) ≡ s ∷ reverse j.steps
turned j s = reverse-append j.steps (s ∷ [])

-- two cores of one plant, first incarnations and limit
record Alike (core new : CoreValue) : Type 0 where
  pub plant : new.plant ≡ core.plant
  pub first : new.first ≡ core.first
  pub max_number : new.max_number ≡ core.max_number

-- what holds of the plant, first incarnations and limit of one holds of those of the other
moved : (P : PlantValue → List ℕ → ℕ → Type 0) (core new : CoreValue) → Alike core new → P core.plant core.first core.max_number → P new.plant new.first new.max_number
moved P core new same h =
    subst (λ p. P p new.first new.max_number) (sym same.plant) (subst (λ f. P core.plant f new.max_number) (sym same.first) (subst (λ m. P core.plant core.first m) (sym same.max_number) h))

-- one more step, after which the core stands where it should
station-with : (core new : CoreValue) (j : Journal) (s : Step) → Alike core new → IsLawful core.plant core.first core.max_number j
    → Follows core.plant core.first core.max_number j.resource j.first j.opening (reverse j.steps) s → Stands j.resource j.first j.opening (s ∷ reverse j.steps) new → IsStation new (with_step j s)
station-with core new j s same lawful follows stands = record {
  lawful = record {
    opened = subst (λ p. AreOpeningOf p j.resource j.opening) (sym same.plant) lawful.opened;
    follows = subst (EachAfter (Follows new.plant new.first new.max_number j.resource j.first j.opening)) (sym (turned j s))
        (moved (λ p f m. Follows p f m j.resource j.first j.opening (reverse j.steps) s) core new same follows, (moved (λ p f m. IsLawful p f m j) core new same lawful).follows);
  };
  stands = subst (λ before. Stands j.resource j.first j.opening before new) (sym (turned j s)) stands;
}

with_table : (core new : CoreValue) (table : Table) → new ≡ record core { table = table } → Alike core new
with_table core new table e = record { plant = ap (λ (c : CoreValue). c.plant) e; first = ap (λ (c : CoreValue). c.first) e; max_number = ap (λ (c : CoreValue). c.max_number) e }

unchanged : (core new : CoreValue) → new ≡ core → Alike core new
unchanged core new e = with_table core new core.table e

accepted-alike : (old new : CoreValue) (x : Evaluated) (answer : Accepted) → IsAccepted old new x answer → Alike old new
accepted-alike old new x Unused done = unchanged old new done.1
accepted-alike old new x Stray done = unchanged old new done.2
accepted-alike old new x Old done = unchanged old new done.3
accepted-alike old new x Taken done = with_table old new (with_known old.table x.name.task (Some x)) done.3

-- after an evaluation was received, or lost
pub station-took : {E : Type 0} (core new : CoreValue) (j k : Journal) (x : Evaluated) (r : Result Accepted E)
    → IfOk r (λ answer. IsAccepted core new x answer) → OnOk r (k ≡ with_step j (Took x)) → OnErr r ((new ≡ core) × (k ≡ j)) → IsStation core j → IsStation new k
station-took core new j k x (Ok answer) accepted noted lost is =
    subst (IsStation new) (sym noted)
    (station-with core new j (Took x) (accepted-alike core new x answer accepted) is.lawful tt
    (stands-took j.resource j.first j.opening (reverse j.steps) core x is.stands new answer accepted))
station-took core new j k x (Err e) accepted noted lost is = subst (IsStation new) (sym lost.1) (subst (λ c. IsStation c j) (sym lost.0) is)

-- after a resource was heard of, or the news was lost
pub station-heard : {E : Type 0} (core new : CoreValue) (j k : Journal) (of incarnation : ℕ) (r : Result Bool E)
    → IfOk r (λ answer. HasHeard core new of incarnation answer) → OnOk r (k ≡ with_step j (Heard of incarnation)) → OnErr r ((new ≡ core) × (k ≡ j)) → IsStation core j → IsStation new k
station-heard core new j k of incarnation (Ok answer) heard noted lost is =
    subst (IsStation new) (sym noted)
    (station-with core new j (Heard of incarnation) (alike answer heard.after) is.lawful tt (stands-heard j.resource j.first j.opening (reverse j.steps) core new of incarnation answer is.stands heard)) where
      alike : (b : Bool) → new ≡ cond b (record core { heard = slice_set core.heard of incarnation }) core → Alike core new
      alike true e = record { plant = ap (λ (c : CoreValue). c.plant) e; first = ap (λ (c : CoreValue). c.first) e; max_number = ap (λ (c : CoreValue). c.max_number) e }
      alike false e = unchanged core new e
station-heard core new j k of incarnation (Err e) heard noted lost is = subst (IsStation new) (sym lost.1) (subst (λ c. IsStation c j) (sym lost.0) is)

-- after an evaluation was made
pub station-made : (core new : CoreValue) (j : Journal) (ticket task dt : ℕ) (inputs : List FieldInput) (x : Evaluated) → IsNext core new ticket task dt inputs x → IsStation core j → IsAhead new j x
station-made core new j ticket task dt inputs x done is =
    let same : Alike core new = with_table core new _ done.after in
    record {
      lawful = moved (λ p f m. IsLawful p f m j) core new same is.lawful;
      ahead = station-with core new j (Made x) same is.lawful
          (follows-made j.resource j.first j.opening (reverse j.steps) core new ticket task dt inputs x is.stands done)
          (stands-made j.resource j.first j.opening (reverse j.steps) core new ticket task dt inputs x is.stands done);
    }

-- at the beginning
pub station-fresh : (plant : PlantValue) (resource : ℕ) (firsts : List ℕ) (opening : List (List Value)) (max_number : ℕ) (core : CoreValue) (j : Journal) → IsSoundPlant plant → length firsts ≡ length plant.resources
    → AreOpeningOf plant resource opening → core ≡ fresh_core plant resource firsts (slice_index firsts resource) opening max_number → j ≡ fresh_journal resource (slice_index firsts resource) opening → IsStation core j
station-fresh plant resource firsts opening max_number core j sound many opened core_is journal_is =
    subst (IsStation core) (sym journal_is)
    (subst (λ c. IsStation c (fresh_journal resource (slice_index firsts resource) opening)) (sym core_is)
    (record { lawful = record { opened = opened; follows = tt }; stands = stands-fresh plant resource firsts (slice_index firsts resource) opening max_number sound many opened }))

-- after a restart
pub station-restarted : (core new : CoreValue) (j : Journal) (ticket incarnation : ℕ) → core.incarnation < incarnation → IsRestartOf core new incarnation → IsStation core j
    → IsStation new (with_step j (Restarted ticket incarnation))
station-restarted core new j ticket incarnation raised after is =
    let same : Alike core new = record { plant = ap (λ (c : CoreValue). c.plant) after.is; first = ap (λ (c : CoreValue). c.first) after.is; max_number = ap (λ (c : CoreValue). c.max_number) after.is } in
    station-with core new j (Restarted ticket incarnation) same is.lawful
    (subst (λ i. i < incarnation) is.stands.incarnation_is raised)
    (stands-restarted j.resource j.first j.opening (reverse j.steps) core new ticket incarnation is.stands after)

-- the incarnation in which the resource is, with an evaluation that was made or without it
pub station_present : (core : CoreValue) (j : Journal) → IsStation core j → incarnation_after j.first (reverse j.steps) ≡ core.incarnation
station_present core j is = sym is.stands.incarnation_is

pub ahead_present : (core : CoreValue) (j : Journal) (x : Evaluated) → IsAhead core j x → incarnation_after j.first (reverse j.steps) ≡ core.incarnation
ahead_present core j x is = sym (is.ahead.stands.incarnation_is ∙ ap (incarnation_after j.first) (turned j (Made x)))

-- what was made is of a task of the resource
pub ahead_own : (core : CoreValue) (j : Journal) (x : Evaluated) → IsAhead core j x → x.name.task.resource ≡ j.resource
ahead_own core j x is =
    (subst (EachAfter (Follows core.plant core.first core.max_number j.resource j.first j.opening)) (turned j (Made x)) is.ahead.lawful.follows).0.resource_is
