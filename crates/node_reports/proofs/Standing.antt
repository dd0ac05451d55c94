-- A core goes on standing where its resource's steps leave it.
use Rattle.std.proofs.Common.{◌≡◌, ◌+◌, ◌<◌, ◌≤◌, ◌&&◌, zero, suc, max, eqb, ltb, ℕ, Bool, true, false, cond, List, [], ◌∷◌, length, Option, Some, None, refl, ap, sym, ◌∙◌, subst, arith, add-one}
use Rattle.std.specs.Prelude.{not, slice_get, slice_set, slice_index, ◌≢◌, filter}
use Rattle.std.specs.List.{cons_option}
use Rattle.std.proofs.lemmas.List.{set-get_or}
use Rattle.lists.proofs.Places.{element_at, same_by_slice_get, slice_get-set_same, slice_get-set_other}
use Rattle.std.proofs.lemmas.Bool.{false≢true, eq-eqb, eqb-true, eqb-false, ltb-true, ltb-false}
use Rattle.std.proofs.lemmas.List.Elements.{All-nil}
use Rattle.std.proofs.lemmas.Option.{none-some, same_Some, slice_get_within}
use Rattle.std.specs.Option.{option_map}
use Rattle.lists.proofs.Tables.{both_same, both_itself, cell_same, cell_other, cell_place, row_lengths_kept}
use Rattle.std_blocks.specs.declared.value.Value.{Value}
use Rattle.declared_names.specs.declared.declarations.Kind.{Kind}
use Rattle.power_flow.specs.StateValue.{StateValue}
use Rattle.task_codes.specs.declared.task_ref.TaskRef.{TaskRef}
use Rattle.lists.specs.Items.{items_or_none}
use Rattle.lists.proofs.Mapped.{enumerated_at}
use Rattle.evaluation.specs.Steps.Facts.{state-left}
use Rattle.exchange_core.specs.Steps.Fresh.{fresh_known, fresh_shape}
use Rattle.plant.specs.PlantValue.{ResourceValue, PlantValue, code_at, codes_at, IsSoundPlant}
use Rattle.task_codes.specs.CodeValue.{CodeValue, expected_at, image_kinds}
use Rattle.evaluation.specs.declared.field_input.FieldInput.{FieldInput}
use Rattle.evaluation.specs.declared.name.Name.{Name}
use Rattle.evaluation.specs.declared.take.Take.{Take}
use Rattle.evaluation.specs.Meaning.{Evaluated, IsAsked, evaluated}
use Rattle.exchange_core.specs.declared.accepted.Accepted.{Accepted}
use Rattle.exchange_core.specs.declared.accepted.Accepted.TheVariants.{Taken, Old, Unused, Stray}
use Rattle.evaluation.specs.Heard.{is_addressed, greatest, heard_numbers}
use Rattle.evaluation.specs.Last.{same_task, left_by, last_number, takes_of, state_from}
use Rattle.exchange_core.specs.Held.{known, with_known, empty_for}
use Rattle.exchange_core.specs.CoreValue.{CoreValue, fresh_core, own_task, kept_at, AreOpeningOf, IsRestartOf, is_greater, is_for, HasHeard, IsUsable, IsAccepted, IsNext, IsNextOf}
use Rattle.exchange_core.specs.Steps.Knowing.{has_place}
use Rattle.node_reports.specs.declared.step.Step.{Step}
use Rattle.node_reports.specs.declared.step.Step.TheVariants.{Took, Made, Restarted, Heard}
use Rattle.node_reports.specs.Journals.{incarnation_after, since_restarted, received, newest, made, heard_after, hearings_of, made_of, last_made, last_of, opening_at, state_before, ComesTo, IsGreatest, IsNextMade}
use Rattle.node_reports.specs.Steps.Standing.{Stands}
use Rattle.node_reports.proofs.Greatest.{greatest-other, greatest-old, greatest-taken}

-- two codes of a plant that take from one task expect the same kinds of it
same_kinds : (plant : PlantValue) (t u p : TaskRef) (c d : CodeValue) (j k : ℕ) → IsSoundPlant plant → code_at plant t ≡ Some c → code_at plant u ≡ Some d → slice_get c.producers j ≡ Some p → slice_get d.producers k ≡ Some p
    → expected_at c j ≡ expected_at d k
same_kinds plant t u p c d j k sound found_c found_d at_c at_d =
    let one = sound.taken t c found_c j p at_c in
    let two = sound.taken u d found_d k p at_d in
    let same : one.0 ≡ two.0 = same_Some one.0 two.0 (sym one.1 ∙ two.1) in
    ap items_or_none one.2 ∙ ap image_kinds same ∙ sym (ap items_or_none two.2)

-- the task of a resource that two numbers name
abbrev task_ref : ℕ → ℕ → TaskRef
task_ref resource task = record { resource = resource; task = task }

-- an evaluation that passes the test is of that task
named : (x : Evaluated) (p : TaskRef) → same_task x.name.task p ≡ true → x.name.task ≡ p
named x p e = both_same task_ref x.name.task.resource x.name.task.task p.resource p.task e

-- the codes of a resource; none where there is no resource
abbrev codes_in : Option ResourceValue → List CodeValue
codes_in o = items_or_none (option_map (λ (r : ResourceValue). r.codes) o)

same_ref_of : (t : TaskRef) (r : ℕ) → t.resource ≡ r → t ≡ record { resource = r; task = t.task }
same_ref_of t r e = rw e refl

-- one more evaluation received
module _ (resource first : ℕ) (opening : List (List Value)) (before : List Step) (core : CoreValue) (x : Evaluated) (stands : Stands resource first opening before core) where
  -- a task of the resource, and one of another resource from which it takes
  record Taking (t p : TaskRef) (code : CodeValue) (k : ℕ) : Type 0 where
    pub here : t.resource ≡ resource
    pub found : code_at core.plant t ≡ Some code
    pub at : slice_get code.producers k ≡ Some p
    pub away : p.resource ≢ resource

  before_it : (t p : TaskRef) (code : CodeValue) (k : ℕ) → Taking t p code k → IsGreatest (ComesTo resource (incarnation_after first before) p (expected_at code k)) (received (since_restarted before)) (known core.table p)
  before_it t p code k w = stands.others t code k p w.here w.found w.at w.away

  -- what comes from a producer with the kinds expected is of use
  of_use : (t p : TaskRef) (code : CodeValue) (k : ℕ) → Taking t p code k → ComesTo resource (incarnation_after first before) p (expected_at code k) x → IsUsable core x
  of_use t p code k w from =
      let same : t ≡ record { resource = core.resource; task = t.task } = same_ref_of t core.resource (w.here ∙ sym stands.resource_is) in
      record {
        another = λ e. w.away (sym (ap (λ (r : TaskRef). r.resource) from.task_is) ∙ e ∙ stands.resource_is);
        expected = record {
          task = t.task;
          code = code;
          place = k;
          found = subst (λ r. code_at core.plant r ≡ Some code) same w.found;
          producer_is = w.at ∙ ap (λ r. Some r) (sym from.task_is);
          kinds_are = sym from.kinds_are;
        };
      }

  -- the core sees to whom it is addressed
  for-core : (b : Bool) → is_for core x ≡ b → is_addressed x resource (incarnation_after first before) ≡ b
  for-core b e = subst (λ i. is_addressed x resource i ≡ b) stands.incarnation_is (subst (λ r. is_addressed x r core.incarnation ≡ b) stands.resource_is e)

  -- and what is of use and addressed to the incarnation comes from its task with the kinds expected
  comes_from : (t p : TaskRef) (code : CodeValue) (k : ℕ) → Taking t p code k → IsUsable core x → is_for core x ≡ true → x.name.task ≡ p → ComesTo resource (incarnation_after first before) p (expected_at code k) x
  comes_from t p code k w usable counts e =
      let here : TaskRef = record { resource = core.resource; task = usable.expected.task } in
      record {
        task_is = e;
        kinds_are = sym usable.expected.kinds_are
            ∙ same_kinds core.plant here t p usable.expected.code code usable.expected.place k stands.sound usable.expected.found w.found (usable.expected.producer_is ∙ ap (λ r. Some r) e) w.at;
        addressed = for-core true counts;
      }

  another_task : (p : TaskRef) (kinds : List Kind) → same_task x.name.task p ≡ false → ComesTo resource (incarnation_after first before) p kinds x → ⊥
  another_task p kinds other from = false≢true (sym other ∙ subst (λ r. same_task x.name.task r ≡ true) from.task_is (both_itself x.name.task.resource x.name.task.task))

  unused : (t p : TaskRef) (code : CodeValue) (k : ℕ) → (IsUsable core x → ⊥) → Taking t p code k
      → IsGreatest (ComesTo resource (incarnation_after first before) p (expected_at code k)) (x ∷ received (since_restarted before)) (known core.table p)
  unused t p code k useless w =
      greatest-other (ComesTo resource (incarnation_after first before) p (expected_at code k)) (received (since_restarted before)) (known core.table p) x (λ from. useless (of_use t p code k w from)) (before_it t p code k w)

  stray_one : (t p : TaskRef) (code : CodeValue) (k : ℕ) → is_for core x ≡ false → Taking t p code k
      → IsGreatest (ComesTo resource (incarnation_after first before) p (expected_at code k)) (x ∷ received (since_restarted before)) (known core.table p)
  stray_one t p code k off w =
      greatest-other (ComesTo resource (incarnation_after first before) p (expected_at code k)) (received (since_restarted before)) (known core.table p) x (λ from. false≢true (sym (for-core false off) ∙ from.addressed)) (before_it t p code k w)

  old_one : (t p : TaskRef) (code : CodeValue) (k : ℕ) → is_greater (known core.table x.name.task) x.name ≡ false → Taking t p code k
      → IsGreatest (ComesTo resource (incarnation_after first before) p (expected_at code k)) (x ∷ received (since_restarted before)) (known core.table p)
  old_one t p code k old w = by (same_task x.name.task p) refl where
    P : Evaluated → Type 0
    P = ComesTo resource (incarnation_after first before) p (expected_at code k)

    by : (b : Bool) → same_task x.name.task p ≡ b → IsGreatest P (x ∷ received (since_restarted before)) (known core.table p)
    by true e = greatest-old P (received (since_restarted before)) (known core.table p) x (subst (λ r. is_greater (known core.table r) x.name ≡ false) (named x p e) old) (before_it t p code k w)
    by false e = greatest-other P (received (since_restarted before)) (known core.table p) x (another_task p (expected_at code k) e) (before_it t p code k w)

  module _ (usable : IsUsable core x) (counts : is_for core x ≡ true) (greater : is_greater (known core.table x.name.task) x.name ≡ true) where
    place : has_place core.table x.name.task
    place =
        let taker = usable.expected in
        let giver = stands.sound.taken (record { resource = core.resource; task = taker.task }) taker.code taker.found taker.place x.name.task taker.producer_is in
        cell_place codes_in core.plant.resources core.table x.name.task.resource x.name.task.task giver.0 refl stands.shaped giver.1

    taken_one : (t p : TaskRef) (code : CodeValue) (k : ℕ) → Taking t p code k
        → IsGreatest (ComesTo resource (incarnation_after first before) p (expected_at code k)) (x ∷ received (since_restarted before)) (known (with_known core.table x.name.task (Some x)) p)
    taken_one t p code k w = by (same_task x.name.task p) refl where
      P : Evaluated → Type 0
      P = ComesTo resource (incarnation_after first before) p (expected_at code k)

      by : (b : Bool) → same_task x.name.task p ≡ b → IsGreatest P (x ∷ received (since_restarted before)) (known (with_known core.table x.name.task (Some x)) p)
      by true e =
          let same : x.name.task ≡ p = named x p e in
          let now : known (with_known core.table x.name.task (Some x)) p ≡ Some x = subst (λ r. known (with_known core.table x.name.task (Some x)) r ≡ Some x) same (cell_same core.table x.name.task.resource x.name.task.task (Some x) None place.0 place.1) in
          subst (IsGreatest P (x ∷ received (since_restarted before))) (sym now)
          (greatest-taken P (received (since_restarted before)) (known core.table p) x (comes_from t p code k w usable counts same) (subst (λ r. is_greater (known core.table r) x.name ≡ true) same greater) (before_it t p code k w))
      by false e =
          subst (IsGreatest P (x ∷ received (since_restarted before))) (sym (cell_other core.table x.name.task.resource x.name.task.task p.resource p.task (Some x) None place.0 e))
          (greatest-other P (received (since_restarted before)) (known core.table p) x (another_task p (expected_at code k) e) (before_it t p code k w))

    own_stays : (p : TaskRef) → p.resource ≡ resource → known (with_known core.table x.name.task (Some x)) p ≡ last_made p before
    own_stays p here = by (same_task x.name.task p) refl where
      by : (b : Bool) → same_task x.name.task p ≡ b → known (with_known core.table x.name.task (Some x)) p ≡ last_made p before
      by true e = absurd (usable.another (ap (λ (r : TaskRef). r.resource) (named x p e) ∙ here ∙ sym stands.resource_is))
      by false e = cell_other core.table x.name.task.resource x.name.task.task p.resource p.task (Some x) None place.0 e ∙ stands.own p here

  -- the core goes on standing where the steps have left it
  pub stands-took : (new : CoreValue) (answer : Accepted) → IsAccepted core new x answer → Stands resource first opening (Took x ∷ before) new
  stands-took new Unused done = subst (Stands resource first opening (Took x ∷ before)) (sym done.1) (record {
    sound = stands.sound;
    shaped = stands.shaped;
    resource_is = stands.resource_is;
    incarnation_is = stands.incarnation_is;
    firsts = stands.firsts;
    heard_is = stands.heard_is;
    own = stands.own;
    counted = stands.counted;
    long = stands.long;
    left = stands.left;
    others = λ t code k p here found at away. unused t p code k done.0 (record { here = here; found = found; at = at; away = away });
  })
  stands-took new Stray done = subst (Stands resource first opening (Took x ∷ before)) (sym done.2) (record {
    sound = stands.sound;
    shaped = stands.shaped;
    resource_is = stands.resource_is;
    incarnation_is = stands.incarnation_is;
    firsts = stands.firsts;
    heard_is = stands.heard_is;
    own = stands.own;
    counted = stands.counted;
    long = stands.long;
    left = stands.left;
    others = λ t code k p here found at away. stray_one t p code k done.1 (record { here = here; found = found; at = at; away = away });
  })
  stands-took new Old done = subst (Stands resource first opening (Took x ∷ before)) (sym done.3) (record {
    sound = stands.sound;
    shaped = stands.shaped;
    resource_is = stands.resource_is;
    incarnation_is = stands.incarnation_is;
    firsts = stands.firsts;
    heard_is = stands.heard_is;
    own = stands.own;
    counted = stands.counted;
    long = stands.long;
    left = stands.left;
    others = λ t code k p here found at away. old_one t p code k done.2 (record { here = here; found = found; at = at; away = away });
  })
  stands-took new Taken done = subst (Stands resource first opening (Took x ∷ before)) (sym done.3) (record {
    sound = stands.sound;
    shaped = row_lengths_kept core.table x.name.task.resource x.name.task.task (Some x) ∙ stands.shaped;
    resource_is = stands.resource_is;
    incarnation_is = stands.incarnation_is;
    firsts = stands.firsts;
    heard_is = stands.heard_is;
    own = own_stays done.0 done.1 done.2;
    counted = stands.counted;
    long = stands.long;
    left = λ p here lt. ap (left_by (kept_at core p.task)) (own_stays done.0 done.1 done.2 p here ∙ sym (stands.own p here)) ∙ stands.left p here lt;
    others = λ t code k p here found at away. taken_one done.0 done.1 done.2 t p code k (record { here = here; found = found; at = at; away = away });
  })

-- evaluations of which the same was asked
same_asked : {a a2 : ℕ} {b b2 : Name} {l l2 : List ℕ} {c c2 : ℕ} {d d2 : List FieldInput} {e e2 : List StateValue} {takes : List Take} {code : CodeValue} {outputs : List Value} {after : List StateValue}
    → a2 ≡ a → b2 ≡ b → l2 ≡ l → c2 ≡ c → d2 ≡ d → e2 ≡ e → evaluated a b l c d takes e code outputs after ≡ evaluated a2 b2 l2 c2 d2 takes e2 code outputs after
same_asked f g l h i j = rw (f, g, l, h, i, j) refl

-- one more evaluation made
module _ (resource first : ℕ) (opening : List (List Value)) (before : List Step) (core new : CoreValue) (ticket task dt : ℕ) (inputs : List FieldInput) (x : Evaluated) (stands : Stands resource first opening before core) (done : IsNext core new ticket task dt inputs x) where
  abbrev own_ref : TaskRef
  own_ref = own_task core task

  abbrev next : IsNextOf core ticket task dt inputs x
  next = done.next

  task_is : x.name.task ≡ own_ref
  task_is = ap (λ (y : Evaluated). y.name.task) next.asked.is

  place_of : has_place core.table own_ref
  place_of = cell_place codes_in core.plant.resources core.table own_ref.resource own_ref.task next.code refl stands.shaped next.found

  number_of : x.name.number ≡ length (made_of x.name.task before) + 1
  number_of =
      ap (λ (y : Evaluated). y.name.number) next.asked.is
      ∙ ap (λ o. last_number o + 1) (stands.own own_ref stands.resource_is)
      ∙ ap (λ n. n + 1) (stands.counted own_ref stands.resource_is)
      ∙ ap (λ t. length (made_of t before) + 1) (sym task_is)

  made_now : (p : TaskRef) → same_task x.name.task p ≡ true → made_of p (Made x ∷ before) ≡ x ∷ made_of p before
  made_now p e = ap (λ b. cond b (x ∷ made_of p before) (made_of p before)) e

  made_other : (p : TaskRef) → same_task x.name.task p ≡ false → made_of p (Made x ∷ before) ≡ made_of p before
  made_other p e = ap (λ b. cond b (x ∷ made_of p before) (made_of p before)) e

  after_table : (p : TaskRef) → same_task x.name.task p ≡ false → known (with_known core.table own_ref (Some x)) p ≡ known core.table p
  after_table p e = cell_other core.table own_ref.resource own_ref.task p.resource p.task (Some x) None place_of.0 (subst (λ r. same_task r p ≡ false) task_is e)

  own_after : (p : TaskRef) → p.resource ≡ resource → known (with_known core.table own_ref (Some x)) p ≡ last_made p (Made x ∷ before)
  own_after p here = by (same_task x.name.task p) refl where
    by : (b : Bool) → same_task x.name.task p ≡ b → known (with_known core.table own_ref (Some x)) p ≡ last_made p (Made x ∷ before)
    by true e =
        subst (λ r. known (with_known core.table own_ref (Some x)) r ≡ Some x) (sym task_is ∙ named x p e) (cell_same core.table own_ref.resource own_ref.task (Some x) None place_of.0 place_of.1)
        ∙ sym (ap newest (made_now p e))
    by false e = after_table p e ∙ stands.own p here ∙ sym (ap newest (made_other p e))

  counted_after : (p : TaskRef) → p.resource ≡ resource → last_number (last_made p (Made x ∷ before)) ≡ length (made_of p (Made x ∷ before))
  counted_after p here = by (same_task x.name.task p) refl where
    by : (b : Bool) → same_task x.name.task p ≡ b → last_number (last_made p (Made x ∷ before)) ≡ length (made_of p (Made x ∷ before))
    by true e =
        ap (λ xs. last_number (newest xs)) (made_now p e)
        ∙ number_of
        ∙ ap (λ t. length (made_of t before) + 1) (named x p e)
        ∙ add-one (length (made_of p before))
        ∙ sym (ap length (made_now p e))
    by false e = ap (λ xs. last_number (newest xs)) (made_other p e) ∙ stands.counted p here ∙ sym (ap length (made_other p e))

  abbrev all_of : TaskRef → List Evaluated
  all_of p = filter (λ (y : Evaluated). same_task y.name.task p) (made before)

  left_after : (p : TaskRef) → p.resource ≡ resource → p.task < length core.kept
      → left_by (kept_at core p.task) (known (with_known core.table own_ref (Some x)) p) ≡ left_by (opening_at opening p) (last_of p (Made x ∷ before))
  left_after p here lt = by (same_task x.name.task p) refl where
    by : (b : Bool) → same_task x.name.task p ≡ b → left_by (kept_at core p.task) (known (with_known core.table own_ref (Some x)) p) ≡ left_by (opening_at opening p) (last_of p (Made x ∷ before))
    by true e =
        ap (left_by (kept_at core p.task)) (subst (λ r. known (with_known core.table own_ref (Some x)) r ≡ Some x) (sym task_is ∙ named x p e) (cell_same core.table own_ref.resource own_ref.task (Some x) None place_of.0 place_of.1))
        ∙ ap (left_by (opening_at opening p)) (sym (ap (λ b. newest (cond b (x ∷ all_of p) (all_of p))) e))
    by false e =
        ap (left_by (kept_at core p.task)) (after_table p e) ∙ stands.left p here lt
        ∙ ap (left_by (opening_at opening p)) (sym (ap (λ b. newest (cond b (x ∷ all_of p) (all_of p))) e))

  others_after : (t : TaskRef) (code : CodeValue) (k : ℕ) (p : TaskRef) → t.resource ≡ resource → code_at core.plant t ≡ Some code → slice_get code.producers k ≡ Some p → p.resource ≢ resource
      → IsGreatest (ComesTo resource (incarnation_after first before) p (expected_at code k)) (received (since_restarted before)) (known (with_known core.table own_ref (Some x)) p)
  others_after t code k p here found at away = by (same_task x.name.task p) refl where
    by : (b : Bool) → same_task x.name.task p ≡ b → IsGreatest (ComesTo resource (incarnation_after first before) p (expected_at code k)) (received (since_restarted before)) (known (with_known core.table own_ref (Some x)) p)
    by true e = absurd (away (sym (ap (λ (r : TaskRef). r.resource) (sym task_is ∙ named x p e)) ∙ stands.resource_is))
    by false e = subst (IsGreatest (ComesTo resource (incarnation_after first before) p (expected_at code k)) (received (since_restarted before))) (sym (after_table p e)) (stands.others t code k p here found at away)

  -- the core goes on standing where the steps have left it
  pub stands-made : Stands resource first opening (Made x ∷ before) new
  stands-made = subst (Stands resource first opening (Made x ∷ before)) (sym done.after) (record {
    sound = stands.sound;
    shaped = row_lengths_kept core.table own_ref.resource own_ref.task (Some x) ∙ stands.shaped;
    resource_is = stands.resource_is;
    incarnation_is = stands.incarnation_is;
    firsts = stands.firsts;
    heard_is = stands.heard_is;
    own = own_after;
    counted = counted_after;
    long = stands.long;
    left = left_after;
    others = others_after;
  })

  within : task < length core.kept
  within =
      let here : slice_get (codes_at core.plant resource) task ≡ Some next.code = subst (λ r. slice_get (codes_at core.plant r) task ≡ Some next.code) stands.resource_is next.found in
      let lt = slice_get_within (codes_at core.plant resource) task next.code here in
      omega (arith, lt, stands.long)

  asked_so : IsAsked x.ticket x.name (heard_after core.first resource first before) x.dt x.inputs (takes_of (known core.table) next.code) (state_before next.code opening x.name.task before) next.code x
  asked_so = record {
    is = next.asked.is ∙ same_asked (ap (λ (y : Evaluated). y.ticket) next.asked.is) (ap (λ (y : Evaluated). y.name) next.asked.is) (sym stands.heard_is) (ap (λ (y : Evaluated). y.dt) next.asked.is) (ap (λ (y : Evaluated). y.inputs) next.asked.is) state_is;
    meant = next.asked.meant;
    whole = next.asked.whole;
  } where
    state_is : state_before next.code opening x.name.task before ≡ state_from next.code (kept_at core task) (known core.table own_ref)
    state_is =
        ap (λ t. state_before next.code opening t before) task_is
        ∙ ap (state_from next.code (left_by (opening_at opening own_ref) (last_of own_ref before))) (sym (stands.own own_ref stands.resource_is))
        ∙ sym (state-left next.code (kept_at core task) (left_by (opening_at opening own_ref) (last_of own_ref before)) (known core.table own_ref) (stands.left own_ref stands.resource_is within))

  -- it is one that the resource could make after these steps
  pub follows-made : IsNextMade core.plant core.first core.max_number resource first opening before x
  follows-made = record {
    code = next.code;
    last = known core.table;
    resource_is = ap (λ (r : TaskRef). r.resource) task_is ∙ stands.resource_is;
    found = subst (λ r. code_at core.plant r ≡ Some next.code) (sym task_is) next.found;
    incarnation_is = ap (λ (y : Evaluated). y.name.incarnation) next.asked.is ∙ stands.incarnation_is;
    number_is = number_of;
    number_left = let n : x.name.number ≡ last_number (known core.table own_ref) + 1 = ap (λ (y : Evaluated). y.name.number) next.asked.is in let left = next.below in omega (arith, n, left);
    taken = record {
      others = λ k p at away. stands.others own_ref next.code k p stands.resource_is next.found at away;
      own = stands.own;
    };
    asked = asked_so;
  }

heard-get : (firsts : List ℕ) (n i : ℕ) (told : ℕ → List ℕ) (m : ℕ) → slice_get (heard_numbers firsts n i told) m ≡ option_map (λ x. cond (eqb m n) i (greatest x (told m))) (slice_get firsts m)
heard-get firsts n i told m =
    enumerated_at (λ e. cond (eqb e.0 n) i (greatest e.1 (told e.0))) firsts 0 m
    ∙ (let from : 0 + m ≡ m = omega arith in ap (λ j. option_map (λ x. cond (eqb j n) i (greatest x (told j))) (slice_get firsts m)) from)

option-same : (f g : ℕ → ℕ) (o : Option ℕ) → ((x : ℕ) → f x ≡ g x) → option_map f o ≡ option_map g o
option-same f g None same = refl
option-same f g (Some x) same = ap (λ (y : ℕ). Some y) (same x)

-- what is heard as an incarnation begins
heard-begins : (firsts : List ℕ) (n i : ℕ) → heard_numbers firsts n i (λ m. []) ≡ slice_set firsts n i
heard-begins firsts n i = same_by_slice_get (heard_numbers firsts n i (λ m. [])) (slice_set firsts n i) (λ m. heard-get firsts n i (λ m. []) m ∙ by m (eqb m n) refl (slice_get firsts m) refl) where
  none-set : (xs : List ℕ) (n m x : ℕ) → slice_get xs m ≡ None → slice_get (slice_set xs n x) m ≡ None
  none-set [] n m x e = refl
  none-set (y ∷ ys) zero zero x e = absurd (none-some y (sym e))
  none-set (y ∷ ys) zero (suc m) x e = e
  none-set (y ∷ ys) (suc n) zero x e = absurd (none-some y (sym e))
  none-set (y ∷ ys) (suc n) (suc m) x e = none-set ys n m x e

  by : (m : ℕ) (b : Bool) → eqb m n ≡ b → (o : Option ℕ) → slice_get firsts m ≡ o → option_map (λ x. cond b i x) o ≡ slice_get (slice_set firsts n i) m
  by m b e None f = sym (none-set firsts n m i f)
  by m true e (Some x) f =
      sym (subst (λ k. slice_get (slice_set firsts n i) k ≡ Some i) (sym (eqb-true m n e)) (slice_get-set_same firsts n i (subst (λ k. k < length firsts) (eqb-true m n e) (slice_get_within firsts m x f))))
  by m false e (Some x) f = sym f ∙ sym (slice_get-set_other firsts n m i (eqb-false m n e))

none_received : (plant : PlantValue) (resource incarnation : ℕ) (p : TaskRef) (kinds : List Kind) → IsGreatest (ComesTo resource incarnation p kinds) [] (known (empty_for plant) p)
none_received plant resource incarnation p kinds =
    subst (IsGreatest (ComesTo resource incarnation p kinds) []) (sym (fresh_known plant p)) (All-nil (λ y. ComesTo resource incarnation p kinds y → ⊥))

pub stands-fresh : (plant : PlantValue) (resource : ℕ) (firsts : List ℕ) (incarnation : ℕ) (opening : List (List Value)) (max_number : ℕ) → IsSoundPlant plant → length firsts ≡ length plant.resources
    → AreOpeningOf plant resource opening → Stands resource incarnation opening [] (fresh_core plant resource firsts incarnation opening max_number)
stands-fresh plant resource firsts incarnation opening max_number sound many opened = record {
  sound = sound;
  shaped = fresh_shape plant;
  resource_is = refl;
  incarnation_is = refl;
  firsts = many;
  heard_is = sym (heard-begins firsts resource incarnation);
  own = λ p here. fresh_known plant p;
  counted = λ p here. refl;
  long = opened.many;
  left = λ p here lt. ap (left_by (opening_at opening p)) (fresh_known plant p);
  others = λ t code k p here found at away. none_received plant resource incarnation p (expected_at code k);
}

pub stands-restarted : (resource first : ℕ) (opening : List (List Value)) (before : List Step) (core new : CoreValue) (ticket incarnation : ℕ) → Stands resource first opening before core → IsRestartOf core new incarnation
    → Stands resource first opening (Restarted ticket incarnation ∷ before) new
stands-restarted resource first opening before core new ticket incarnation stands after = subst (Stands resource first opening (Restarted ticket incarnation ∷ before)) (sym after.is) (record {
  sound = stands.sound;
  shaped = fresh_shape core.plant;
  resource_is = stands.resource_is;
  incarnation_is = refl;
  firsts = stands.firsts;
  heard_is = ap (λ r. slice_set core.first r incarnation) stands.resource_is ∙ sym (heard-begins core.first resource incarnation);
  own = λ p here. fresh_known core.plant p;
  counted = λ p here. refl;
  long = after.long ∙ stands.long;
  left = λ p here lt.
      let within : p.task < length core.kept = omega (arith, after.long) in
      let it : own_task core p.task ≡ p = rw (stands.resource_is, ← here) refl in
      ap (left_by (kept_at new p.task)) (fresh_known core.plant p)
      ∙ after.kept p.task within
      ∙ ap (λ r. left_by (kept_at core p.task) (known core.table r)) it
      ∙ stands.left p here within;
  others = λ t code k p here found at away. none_received core.plant resource incarnation p (expected_at code k);
})

-- a resource was heard of
module _ (resource first : ℕ) (opening : List (List Value)) (before : List Step) (core new : CoreValue) (of incarnation : ℕ) (answer : Bool) (stands : Stands resource first opening before core) (done : HasHeard core new of incarnation answer) where
  abbrev now : ℕ
  now = incarnation_after first before

  abbrev told : ℕ → List ℕ
  told m = hearings_of m before

  abbrev told_more : ℕ → List ℕ
  told_more m = cons_option (cond (eqb of m) (Some incarnation) None) (told m)

  -- it changes what is told of that resource alone
  unchanged : (m : ℕ) → (eqb of m ≡ true → eqb m resource ≡ true) → (x : ℕ) → cond (eqb m resource) now (greatest x (told_more m)) ≡ cond (eqb m resource) now (greatest x (told m))
  unchanged m other x = by (eqb of m) refl (eqb m resource) refl where
    by : (a : Bool) → eqb of m ≡ a → (b : Bool) → eqb m resource ≡ b → cond b now (greatest x (cons_option (cond a (Some incarnation) None) (told m))) ≡ cond b now (greatest x (told m))
    by a e true f = refl
    by true e false f = absurd (false≢true (sym f ∙ other e))
    by false e false f = refl

  all_same : ((m : ℕ) → eqb of m ≡ true → eqb m resource ≡ true) → heard_numbers core.first resource now told_more ≡ heard_numbers core.first resource now told
  all_same other =
      same_by_slice_get (heard_numbers core.first resource now told_more) (heard_numbers core.first resource now told)
      (λ m. heard-get core.first resource now told_more m ∙ option-same _ _ (slice_get core.first m) (unchanged m (other m)) ∙ sym (heard-get core.first resource now told m))

  -- of a resource that doesn't exist nothing is heard
  absent : length core.first ≤ of → heard_numbers core.first resource now told_more ≡ heard_numbers core.first resource now told
  absent far =
      same_by_slice_get (heard_numbers core.first resource now told_more) (heard_numbers core.first resource now told)
      (λ m. heard-get core.first resource now told_more m ∙ by m (eqb of m) refl (slice_get core.first m) refl ∙ sym (heard-get core.first resource now told m)) where
        by : (m : ℕ) (a : Bool) → eqb of m ≡ a → (o : Option ℕ) → slice_get core.first m ≡ o
            → option_map (λ x. cond (eqb m resource) now (greatest x (told_more m))) (slice_get core.first m) ≡ option_map (λ x. cond (eqb m resource) now (greatest x (told m))) (slice_get core.first m)
        by m true e None f = ap (option_map (λ x. cond (eqb m resource) now (greatest x (told_more m)))) f ∙ sym (ap (option_map (λ x. cond (eqb m resource) now (greatest x (told m)))) f)
        by m true e (Some x) f = let lt = slice_get_within core.first m x f in let at = eqb-true of m e in absurd (omega (arith, lt, at, far))
        by m false e o f = option-same _ _ (slice_get core.first m) (unchanged m (λ g. absurd (false≢true (sym e ∙ g))))

  get-index : (xs : List ℕ) (m x : ℕ) → slice_get xs m ≡ Some x → slice_index xs m ≡ x
  get-index [] m x e = absurd (none-some x e)
  get-index (y ∷ ys) zero x e = same_Some y x e
  get-index (y ∷ ys) (suc m) x e = get-index ys m x e

  abbrev old : List ℕ
  old = heard_numbers core.first resource now told

  -- of another resource that exists the greater number
  grown : eqb of resource ≡ false → (x : ℕ) → slice_get core.first of ≡ Some x → heard_numbers core.first resource now told_more ≡ slice_set old of (max incarnation (slice_index old of))
  grown other x first_is =
      same_by_slice_get (heard_numbers core.first resource now told_more) (slice_set old of (max incarnation (slice_index old of)))
      (λ m. heard-get core.first resource now told_more m ∙ by m (eqb of m) refl) where
        was : slice_get old of ≡ Some (greatest x (told of))
        was =
            heard-get core.first resource now told of ∙ ap (option_map (λ y. cond (eqb of resource) now (greatest y (told of)))) first_is
            ∙ ap (λ b. Some (cond b now (greatest x (told of)))) other

        by : (m : ℕ) (a : Bool) → eqb of m ≡ a → option_map (λ y. cond (eqb m resource) now (greatest y (told_more m))) (slice_get core.first m) ≡ slice_get (slice_set old of (max incarnation (slice_index old of))) m
        by m true e =
            subst (λ k. option_map (λ y. cond (eqb k resource) now (greatest y (told_more k))) (slice_get core.first k) ≡ slice_get (slice_set old of (max incarnation (slice_index old of))) k) (eqb-true of m e)
            (ap (option_map (λ y. cond (eqb of resource) now (greatest y (told_more of)))) first_is
            ∙ ap (λ b. Some (cond b now (greatest x (told_more of)))) other
            ∙ ap (λ b. Some (greatest x (cons_option (cond b (Some incarnation) None) (told of)))) (eq-eqb of of refl)
            ∙ ap (λ n. Some (max incarnation n)) (sym (get-index old of (greatest x (told of)) was))
            ∙ sym (slice_get-set_same old of (max incarnation (slice_index old of)) (slice_get_within old of (greatest x (told of)) was)))
        by m false e =
            option-same _ _ (slice_get core.first m) (unchanged m (λ g. absurd (false≢true (sym e ∙ g))))
            ∙ sym (heard-get core.first resource now told m)
            ∙ sym (slice_get-set_other old of m (max incarnation (slice_index old of)) (λ f. false≢true (sym e ∙ eq-eqb of m (sym f))))

  heard-more : cond answer (slice_set core.heard of incarnation) core.heard ≡ heard_numbers core.first resource now told_more
  heard-more = by (eqb of core.resource) refl (ltb of (length core.plant.resources)) refl (ltb (slice_index core.heard of) incarnation) refl where
    here : (b : Bool) → eqb of core.resource ≡ b → eqb of resource ≡ b
    here b e = subst (λ r. eqb of r ≡ b) stands.resource_is e

    answered : (a b c : Bool) → eqb of core.resource ≡ a → ltb of (length core.plant.resources) ≡ b → ltb (slice_index core.heard of) incarnation ≡ c → answer ≡ (not a && (b && c))
    answered a b c e f g = done.answer_is ∙ ap (λ x. not x && (ltb of (length core.plant.resources) && ltb (slice_index core.heard of) incarnation)) e ∙ ap (λ x. not a && (x && ltb (slice_index core.heard of) incarnation)) f ∙ ap (λ x. not a && (b && x)) g

    by : (a : Bool) → eqb of core.resource ≡ a → (b : Bool) → ltb of (length core.plant.resources) ≡ b → (c : Bool) → ltb (slice_index core.heard of) incarnation ≡ c
        → cond answer (slice_set core.heard of incarnation) core.heard ≡ heard_numbers core.first resource now told_more
    by true e b f c g =
        ap (λ x. cond x (slice_set core.heard of incarnation) core.heard) (answered true b c e f g) ∙ stands.heard_is
        ∙ sym (all_same (λ m h. subst (λ k. eqb k resource ≡ true) (eqb-true of m h) (here true e)))
    by false e false f c g =
        ap (λ x. cond x (slice_set core.heard of incarnation) core.heard) (answered false false c e f g) ∙ stands.heard_is
        ∙ sym (absent (let high = ltb-false of (length core.plant.resources) f in let many = stands.firsts in omega (arith, high, many)))
    by false e true f c g =
        ap (λ x. cond x (slice_set core.heard of incarnation) core.heard) (answered false true c e f g)
        ∙ set c g ∙ ap (λ (l : List ℕ). slice_set l of (max incarnation (slice_index l of))) stands.heard_is
        ∙ sym (grown (here false e) begins.0 begins.1) where
          begins : (x : ℕ) × (slice_get core.first of ≡ Some x)
          begins = element_at core.first of (let low = ltb-true of (length core.plant.resources) f in let many = stands.firsts in omega (arith, low, many))

          set : (c : Bool) → ltb (slice_index core.heard of) incarnation ≡ c → cond c (slice_set core.heard of incarnation) core.heard ≡ slice_set core.heard of (max incarnation (slice_index core.heard of))
          set true g = let low = ltb-true (slice_index core.heard of) incarnation g in ap (slice_set core.heard of) (omega (arith, low))
          set false g = let high = ltb-false (slice_index core.heard of) incarnation g in sym (set-get_or core.heard of 0) ∙ ap (slice_set core.heard of) (omega (arith, high))

  pub stands-heard : Stands resource first opening (Heard of incarnation ∷ before) new
  stands-heard = subst (Stands resource first opening (Heard of incarnation ∷ before)) (sym done.after) (by answer heard-more) where
    by : (b : Bool) → cond b (slice_set core.heard of incarnation) core.heard ≡ heard_numbers core.first resource now told_more
        → Stands resource first opening (Heard of incarnation ∷ before) (cond b (record core { heard = slice_set core.heard of incarnation }) core)
    by true e = record { sound = stands.sound; shaped = stands.shaped; resource_is = stands.resource_is; incarnation_is = stands.incarnation_is; firsts = stands.firsts; heard_is = e; own = stands.own; long = stands.long; left = stands.left; counted = stands.counted; others = stands.others }
    by false e = record { sound = stands.sound; shaped = stands.shaped; resource_is = stands.resource_is; incarnation_is = stands.incarnation_is; firsts = stands.firsts; heard_is = e; own = stands.own; long = stands.long; left = stands.left; counted = stands.counted; others = stands.others }
