-- The parts of a core go on suiting each other.
use Rattle.std.proofs.Common.{◌≡◌, ◌≢◌, ◌<◌, ◌+◌, ◌⊎◌, ◌++◌, arith, eqb, get_or, ℕ, Bool, true, false, List, [], ◌∷◌, Option, Some, None, inl, inr, length, refl, ap, sym, ◌∙◌, subst}
use Rattle.std.specs.Prelude.{slice_get, slice_set}
use Rattle.std.specs.Option.{option_map, option_and_then}
use Rattle.std.proofs.lemmas.Bool.{false≢true, eq-eqb}
use Rattle.std.proofs.lemmas.Bool.Decides.{eqb_tells}
use Rattle.std.proofs.lemmas.List.{length-set, set-get_or, get_or-set_same, get_or-set_other}
use Rattle.std.proofs.lemmas.Option.{none-some, same_Some, slice_get_within, slice_get-get_or}
use Rattle.lists.proofs.Places.{push_cases}
use Rattle.lists.proofs.Tables.{both_same, cell_same, cell_other, cell_filled, row_lengths_kept, row_lengths_filled}
use Rattle.task_codes.specs.declared.task_ref.TaskRef.{TaskRef}
use Rattle.lists.specs.Items.{items_or_none}
use Rattle.plant.specs.PlantValue.{ResourceValue, PlantValue, code_at, codes_at, IsSoundPlant}
use Rattle.task_codes.specs.CodeValue.{CodeValue, image_kinds}
use Rattle.evaluation.specs.declared.field_input.FieldInput.{FieldInput}
use Rattle.evaluation.specs.Meaning.{Evaluated}
use Rattle.std_blocks.specs.declared.value.Value.{Value}
use Rattle.evaluation.specs.Last.{same_task, left_by}
use Rattle.evaluation.specs.Retained.{Suits}
use Rattle.exchange_core.specs.declared.last.Last.{Last}
use Rattle.exchange_core.specs.declared.last.Last.TheVariants.{Whole, Told}
use Rattle.exchange_core.specs.HeldMessages.{message_in, whole_in, known, whole_known, with_known, empty_for}
use Rattle.exchange_core.specs.Openings.{AreOpeningOf}
use Rattle.exchange_core.specs.MessageCoreValue.{MessageCoreValue, core_of, fresh_core, kept_at, own_last, own_task, held_of, whole_held_of, IsUsable, IsNextOf, IsCore, IsKnownOf}
use Rattle.exchange_core.specs.Steps.Outliving.{AreLeft}
use Rattle.exchange_core.specs.Steps.KnowingMessages.{has_place, FitsLast, Holds}
use Rattle.exchange_core.proofs.Tables.{place_of_code}

-- the task of a resource that two numbers name
abbrev task_ref : ℕ → ℕ → TaskRef
task_ref resource task = record { resource = resource; task = task }

-- how many tasks a resource has
abbrev codes_long : ResourceValue → ℕ
codes_long r = length r.codes

abbrev no_last : Option Last
no_last = None

-- the core with this as what is known of a task
abbrev core_with : MessageCoreValue → TaskRef → Last → MessageCoreValue
core_with core p last = record core { table = with_known core.table p (Some last) }

-- a core that knows one thing more, which it may know
pub core-with : (core : MessageCoreValue) (p : TaskRef) (last : Last) → IsCore core → IsKnownOf core p last → IsCore (record core { table = with_known core.table p (Some last) })
core-with core p last is may =
    record { sound = is.sound; shaped = row_lengths_kept core.table p.resource p.task (Some last) ∙ is.shaped; firsts = is.firsts; heards = is.heards; own_heard = is.own_heard; kept_suit = is.kept_suit; each = λ q y at. by q y (same_task p q) refl at } where
      place : has_place core.table p
      place = place_of_code core.plant core.table p may.code is.shaped may.found

      again : (q : TaskRef) (y : Last) → IsKnownOf core q y → IsKnownOf (core_with core p last) q y
      again q y k = record { code = k.code; found = k.found; kinds_are = k.kinds_are; own = k.own }

      by : (q : TaskRef) (y : Last) (b : Bool) → same_task p q ≡ b → known (with_known core.table p (Some last)) q ≡ Some y → IsKnownOf (core_with core p last) q y
      by q y true e at =
          let same : p ≡ q = both_same task_ref p.resource p.task q.resource q.task e in
          let is_it : last ≡ y = same_Some last y (sym (cell_same core.table p.resource p.task (Some last) None place.0 place.1) ∙ ap (known (with_known core.table p (Some last))) same ∙ at) in
          again q y (subst (λ r. IsKnownOf core r y) same (subst (IsKnownOf core p) is_it may))
      by q y false e at = again q y (is.each q y (sym (cell_other core.table p.resource p.task q.resource q.task (Some last) None place.0 e) ∙ at))

-- what is of use may be known
pub usable-known : (core : MessageCoreValue) (last : Last) → IsCore core → IsUsable core (message_in last) → IsKnownOf core (message_in last).name.task last
usable-known core last is usable =
    let taker = usable.expected in
    let giver = is.sound.taken (record { resource = core.resource; task = taker.task }) taker.code taker.found taker.place (message_in last).name.task taker.producer_is in
    record {
      code = giver.0;
      found = giver.1;
      kinds_are = sym (sym (ap items_or_none giver.2) ∙ taker.kinds_are);
      own = λ same. absurd (usable.another same);
    }

-- the next evaluation may be known
pub next-known : (core : MessageCoreValue) (ticket task dt : ℕ) (inputs : List FieldInput) (x : Evaluated) → IsNextOf core ticket task dt inputs x → IsKnownOf core (own_task core task) (Whole x)
next-known core ticket task dt inputs x next =
    let code : x.code ≡ next.code = ap (λ (y : Evaluated). y.code) next.asked.is in
    record { code = next.code; found = next.found; kinds_are = next.asked.whole.kinds_are ∙ ap image_kinds code; own = λ _. code }

pub core-fresh : (plant : PlantValue) (resource : ℕ) (first : List ℕ) (incarnation : ℕ) (opening : List (List Value)) (max_number : ℕ) → IsSoundPlant plant → length first ≡ length plant.resources → resource < length plant.resources
    → AreOpeningOf plant resource opening → IsCore (fresh_core plant resource first incarnation opening max_number)
core-fresh plant resource first incarnation opening max_number sound firsts exists suits =
    record {
      sound = sound;
      shaped = row_lengths_filled codes_long no_last plant.resources;
      firsts = firsts;
      heards = length-set first resource incarnation ∙ firsts;
      own_heard =
          slice_get-get_or (slice_set first resource incarnation) resource 0 (omega (arith, exists, firsts, length-set first resource incarnation))
          ∙ ap (λ n. Some n) (get_or-set_same first resource incarnation 0 (omega (arith, exists, firsts)));
      kept_suit = suits;
      each = λ p x at. absurd (none-some x (sym (cell_filled codes_long no_last plant.resources p.resource p.task) ∙ at));
    }

-- the first incarnations are what a core has heard in its first one
pub core-first : (plant : PlantValue) (resource : ℕ) (first heard : List ℕ) (opening : List (List Value)) (max_number : ℕ) → IsSoundPlant plant → length first ≡ length plant.resources → resource < length plant.resources
    → AreOpeningOf plant resource opening → heard ≡ first → IsCore (core_of plant resource first (get_or first resource 0) heard max_number opening (empty_for plant))
core-first plant resource first heard opening max_number sound firsts exists suits same =
    subst (λ l. IsCore (core_of plant resource first (get_or first resource 0) l max_number opening (empty_for plant))) (set-get_or first resource 0 ∙ sym same)
    (core-fresh plant resource first (get_or first resource 0) opening max_number sound firsts exists suits)

-- the core's resource exists
pub resource-exists : (core : MessageCoreValue) → IsCore core → core.resource < length core.plant.resources
resource-exists core is = let lt = slice_get_within core.heard core.resource core.incarnation is.own_heard in let many = is.heards in omega arith

-- a core that has heard of another resource
pub core-heard : (core : MessageCoreValue) (of incarnation : ℕ) → IsCore core → (eqb of core.resource) ≡ false → IsCore (record core { heard = slice_set core.heard of incarnation })
core-heard core of incarnation is other =
    record {
      sound = is.sound;
      shaped = is.shaped;
      firsts = is.firsts;
      heards = length-set core.heard of incarnation ∙ is.heards;
      own_heard = own;
      kept_suit = is.kept_suit;
      each = λ q y at. let k = is.each q y at in record { code = k.code; found = k.found; kinds_are = k.kinds_are; own = k.own };
    } where
      lt : core.resource < length core.heard
      lt = slice_get_within core.heard core.resource core.incarnation is.own_heard

      own : slice_get (slice_set core.heard of incarnation) core.resource ≡ Some core.incarnation
      own =
          slice_get-get_or (slice_set core.heard of incarnation) core.resource 0 (omega (arith, lt, length-set core.heard of incarnation))
          ∙ ap (λ n. Some n) (get_or-set_other core.heard of core.resource incarnation 0 (λ same. false≢true (sym other ∙ eq-eqb of core.resource (sym same))))
          ∙ sym (slice_get-get_or core.heard core.resource 0 lt) ∙ is.own_heard

-- what is known of an own task was made by the task's code
pub fits-last : (core : MessageCoreValue) (p : TaskRef) (code : CodeValue) → IsCore core → p.resource ≡ core.resource → code_at core.plant p ≡ Some code → FitsLast code (whole_known core.table p)
fits-last core p code is own found = by (known core.table p) refl where
  by : (o : Option Last) → known core.table p ≡ o → FitsLast code (option_and_then whole_in o)
  by None e = tt
  by (Some (Told m)) e = tt
  by (Some (Whole x)) e = let entry = is.each p (Whole x) e in entry.own own ∙ same_Some entry.code code (sym entry.found ∙ found)

-- what may be known of a task has a place
pub place-known : (core : MessageCoreValue) (p : TaskRef) (last : Last) → IsCore core → IsKnownOf core p last → has_place core.table p
place-known core p last is may = place_of_code core.plant core.table p may.code is.shaped may.found

-- what is made known of a task is known from then on
pub known-set : (core : MessageCoreValue) (p : TaskRef) (last : Last) → IsCore core → IsKnownOf core p last → known (with_known core.table p (Some last)) p ≡ Some last
known-set core p last is may = let place = place-known core p last is may in cell_same core.table p.resource p.task (Some last) None place.0 place.1

-- what is known of another resource's task is held
pub holds-message : (core : MessageCoreValue) (last : Last) → Holds core last → held_of core (message_in last).name.task ≡ Some (message_in last)
holds-message core last is =
    elim (eqb_tells (message_in last).name.task.resource core.resource) [
      | inl same ↦ absurd (is.another same.1)
      | inr apart ↦ rw apart.0 (ap (option_map message_in) is.known_is)
    ]

pub holds-whole : (core : MessageCoreValue) (last : Last) → Holds core last → whole_held_of core (message_in last).name.task ≡ whole_in last
holds-whole core last is =
    elim (eqb_tells (message_in last).name.task.resource core.resource) [
      | inl same ↦ absurd (is.another same.1)
      | inr apart ↦ rw apart.0 (ap (option_and_then whole_in) is.known_is)
    ]

-- the first tasks' retained values are those that outlive a restart, and they suit the codes
pub record IsLeft (core : MessageCoreValue) (n : ℕ) (new : List (List Value)) : Type 0 where
  pub many : length new ≡ n
  pub each : (k : ℕ) (kept left : List Value) → slice_get core.kept k ≡ Some kept → slice_get new k ≡ Some left → left ≡ left_by kept (own_last core k)
  pub suit : (k : ℕ) (left : List Value) (code : CodeValue) → slice_get new k ≡ Some left → slice_get (codes_at core.plant core.resource) k ≡ Some code → Suits code left

pub left-all : (core : MessageCoreValue) (new : List (List Value)) → IsLeft core (length core.kept) new → AreLeft core new
left-all core new is = record {
  long = is.many;
  each = λ task lt.
      let many = is.many in
      let was = slice_get-get_or core.kept task [] lt in
      let now = slice_get-get_or new task [] (omega arith) in
      is.each task (get_or core.kept task []) (get_or new task []) was now;
}

pub left-suit : (core : MessageCoreValue) (new : List (List Value)) → AreOpeningOf core.plant core.resource core.kept → IsLeft core (length core.kept) new → AreOpeningOf core.plant core.resource new
left-suit core new suits is = record { many = is.many ∙ suits.many; each = λ task code values found at. is.suit task values code at found }

pub left-more : (core : MessageCoreValue) (n : ℕ) (old : List (List Value)) (kept left : List Value) → IsLeft core n old → slice_get core.kept n ≡ Some kept → left ≡ left_by kept (own_last core n)
    → ((code : CodeValue) → slice_get (codes_at core.plant core.resource) n ≡ Some code → Suits code left) → IsLeft core (n + 1) (old ++ left ∷ [])
left-more core n old kept left is at value suits = record {
  many = length-push old ∙ ap (λ m. m + 1) is.many;
  each = λ k o l here found. each k o l here (push_cases old left k l found);
  suit = λ k l code found of. suit k l code of (push_cases old left k l found);
}
  where
    length-push : (xs : List (List Value)) → length (xs ++ left ∷ []) ≡ length xs + 1
    length-push [] = refl
    length-push (x ∷ xs) = rw (length-push xs) (omega arith)

    each : (k : ℕ) (o l : List Value) → slice_get core.kept k ≡ Some o → (slice_get old k ≡ Some l) ⊎ ((k ≡ length old) × (l ≡ left)) → l ≡ left_by o (own_last core k)
    each k o l here (inl found) = is.each k o l here found
    each k o l here (inr p) =
        let same : k ≡ n = p.0 ∙ is.many in
        let old_is : kept ≡ o = same_Some kept o (sym at ∙ ap (slice_get core.kept) (sym same) ∙ here) in
        p.1 ∙ value ∙ ap (λ v. left_by v (own_last core n)) old_is ∙ ap (λ i. left_by o (own_last core i)) (sym same)

    suit : (k : ℕ) (l : List Value) (code : CodeValue) → slice_get (codes_at core.plant core.resource) k ≡ Some code → (slice_get old k ≡ Some l) ⊎ ((k ≡ length old) × (l ≡ left)) → Suits code l
    suit k l code of (inl found) = is.suit k l code found of
    suit k l code of (inr p) =
        let same : k ≡ n = p.0 ∙ is.many in
        subst (Suits code) (sym p.1) (suits code (ap (slice_get (codes_at core.plant core.resource)) (sym same) ∙ of))

pub left-none : (core : MessageCoreValue) → IsLeft core 0 []
left-none core = record { many = refl; each = λ k o l here found. absurd (none-some l found); suit = λ k l code found of. absurd (none-some l found) }

-- the last evaluation of a task of the resource was made by the task's code
pub last-code : (core : MessageCoreValue) (task : ℕ) (x : Evaluated) (code : CodeValue) → IsCore core → own_last core task ≡ Some x → code_at core.plant (own_task core task) ≡ Some code → x.code ≡ code
last-code core task x code is at found = by (known core.table (own_task core task)) refl at where
  by : (o : Option Last) → known core.table (own_task core task) ≡ o → option_and_then whole_in o ≡ Some x → x.code ≡ code
  by None e is_it = absurd (none-some x is_it)
  by (Some (Told m)) e is_it = absurd (none-some x is_it)
  by (Some (Whole y)) e is_it =
      let entry = is.each (own_task core task) (Whole y) e in
      ap (λ (z : Evaluated). z.code) (sym (same_Some y x is_it)) ∙ entry.own refl ∙ same_Some entry.code code (sym entry.found ∙ found)

-- a task of the resource began with values that suit its code
pub began-within : (core : MessageCoreValue) (t : TaskRef) (code : CodeValue) → IsCore core → t.resource ≡ core.resource → code_at core.plant t ≡ Some code → t.task < length core.kept
began-within core t code is own found =
    let here : slice_get (codes_at core.plant core.resource) t.task ≡ Some code = subst (λ r. slice_get (codes_at core.plant r) t.task ≡ Some code) own found in
    let lt = slice_get_within (codes_at core.plant core.resource) t.task code here in
    let many = is.kept_suit.many in omega arith

pub began-suits : (core : MessageCoreValue) (t : TaskRef) (code : CodeValue) → IsCore core → t.resource ≡ core.resource → code_at core.plant t ≡ Some code → Suits code (kept_at core t.task)
began-suits core t code is own found =
    let here : slice_get (codes_at core.plant core.resource) t.task ≡ Some code = subst (λ r. slice_get (codes_at core.plant r) t.task ≡ Some code) own found in
    let at : slice_get core.kept t.task ≡ Some (kept_at core t.task) = slice_get-get_or core.kept t.task [] (began-within core t code is own found) in
    is.kept_suit.each t.task code (kept_at core t.task) here at

-- a task of the resource, by its place
pub own-is : (core : MessageCoreValue) (t : TaskRef) → t.resource ≡ core.resource → own_task core t.task ≡ t
own-is core t e = rw (sym e) refl
