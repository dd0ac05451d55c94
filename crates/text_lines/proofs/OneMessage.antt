-- A line is that of one message alone, where the names of a plant are apart.
use Rattle.std.proofs.Common.{arith, ◌≡◌, ◌≢◌, ℕ, ◌<◌, ◌≤◌, Bool, true, false, IsTrue, ◌++◌, ◌∷◌, [], List, length, map, get_or, Option, Some, None, sym, ap, refl, ◌∙◌, subst, append_assoc, rules, tests}
use Rattle.std.specs.Prelude.{codes, slice_get, slice_index_or}
use Rattle.std.specs.Option.{option_map}
use Rattle.std.specs.Str.{str_eq_ignore_ascii_case, str_to_ascii_lowercase}
use Rattle.std.proofs.lemmas.Slice.Eq.{bytes_eq-Decides}
use Rattle.std.proofs.lemmas.List.{append_cancel_left, length-map}
use Rattle.std.proofs.lemmas.Option.{same_Some, slice_get_within, get_or_from_slice_get, slice_get-map}
use Rattle.lists.proofs.Places.{element_at}
use Rattle.lists.proofs.Zips.{zip_back, zip_length}
use Rattle.lists.specs.Items.{items_or_none}
use Rattle.lists.proofs.Members.{all_at}
use Rattle.words.specs.Chars.{is_letter_or_digit, is_rest, is_identifier, is_plain_name}
use Rattle.task_codes.specs.declared.task_ref.TaskRef.{TaskRef}
use Rattle.task_codes.specs.CodeValue.{CodeValue, image_kinds}
use Rattle.plant.specs.PlantValue.{TaskValue, ResourceValue, PlantValue, code_at}
use Rattle.plant.specs.StandsFor.{task_value, IsCodeOf, IsResourceOf}
use Rattle.plant.specs.PlantText.{IsPlantText}
use Rattle.plant.specs.NamesApart.{AreTasksNamed, HasNamesApart, NamesAreApart}
use Rattle.evaluation.specs.Messages.{MessageValue, message}
use Rattle.text_lines.specs.LineParts.{resource_text, task_name}
use Rattle.text_lines.specs.Lists.{gives_text}
use Rattle.text_lines.specs.MessageLines.{IsMessageOf}
use Rattle.text_lines.specs.OneMessage.{OneMessage}
use Rattle.text_lines.specs.Steps.Reading.{HasNone, before_pair, pair_text, IsHeardOf, heard_item, all_heard_text}
use Rattle.text_lines.proofs.Messages.{all_small, all_given, line_parted, name_with}
use Rattle.text_lines.proofs.OneReading.{same_words, one_pair, one_list, one_heard, one_gives}

-- a plain name has neither a dot nor a blank
letter_other : (c stop : ℕ) → stop < 48 → is_letter_or_digit c ≡ true → c ≢ stop
letter_other c stop below h = λ e. absurd (omega (arith, e, below, letter_above c h))
  where
    letter_above : (c : ℕ) → is_letter_or_digit c ≡ true → 48 ≤ c
    letter_above c h = search (rules, tests)

rest_none : (stop : ℕ) (w : List ℕ) → stop < 48 → is_rest w ≡ true → HasNone stop w
rest_none stop [] below h = tt
rest_none stop (c ∷ []) below h = (letter_other c stop below h, tt)
rest_none stop (c ∷ e ∷ more) below h = (first, rest_none stop (e ∷ more) below (search (rules, tests)))
  where
    by : (b : Bool) → is_letter_or_digit c ≡ b → c ≢ stop
    by true is = letter_other c stop below is
    by false is = λ same. absurd (omega (arith, same, below, score))
      where
        score : c ≡ 95
        score = search (rules, tests)

    first : c ≢ stop
    first = by (is_letter_or_digit c) refl

plain_none : (stop : ℕ) (w : List ℕ) → stop < 48 → IsTrue (is_plain_name w) → HasNone stop w
unfolding is_plain_name is_identifier
plain_none stop w below h = rest_none stop w below (search (rules, tests))

same_named : (a b : List ℕ) → a ≡ b → IsTrue (str_eq_ignore_ascii_case a b)
same_named a b e = (bytes_eq-Decides (str_to_ascii_lowercase a) (str_to_ascii_lowercase b)).1 (ap str_to_ascii_lowercase e)

-- places whose names are equal are one, where no two places have one name in any case
one_place : {A : Type 0} (name_of : A → List ℕ) (xs : List A) (j k : ℕ) (x y : A)
    → ((i l : ℕ) (d : List ℕ) → i < length (map name_of xs) → l < length (map name_of xs) → IsTrue (str_eq_ignore_ascii_case (slice_index_or (map name_of xs) i d) (slice_index_or (map name_of xs) l d)) → i ≡ l)
    → slice_get xs j ≡ Some x → slice_get xs k ≡ Some y → name_of x ≡ name_of y → j ≡ k
one_place name_of xs j k x y apart at here same =
    let first : slice_get (map name_of xs) j ≡ Some (name_of x) = slice_get-map name_of xs j ∙ ap (option_map name_of) at in
    let second : slice_get (map name_of xs) k ≡ Some (name_of y) = slice_get-map name_of xs k ∙ ap (option_map name_of) here in
    apart j k [] (slice_get_within (map name_of xs) j (name_of x) first) (slice_get_within (map name_of xs) k (name_of y) second)
    (same_named (get_or (map name_of xs) j []) (get_or (map name_of xs) k [])
    (get_or_from_slice_get (map name_of xs) j (name_of x) [] first ∙ same ∙ sym (get_or_from_slice_get (map name_of xs) k (name_of y) [] second)))

-- a task with a code, and its resource
record IsOwned (plant : PlantValue) (t : TaskRef) : Type 0 where
  owner : ResourceValue
  task : TaskValue
  owned : slice_get plant.resources t.resource ≡ Some owner
  placed : slice_get owner.tasks t.task ≡ Some task
  resource_is : resource_text plant t.resource ≡ owner.name
  task_is : task_name plant t ≡ task.name

-- each task has its code
abbrev IsCoded : PlantValue → Type 0
IsCoded plant = (r : ResourceValue) (k : ℕ) → slice_get plant.resources k ≡ Some r → length r.codes ≡ length r.tasks

owned_task : (plant : PlantValue) (t : TaskRef) (code : CodeValue) → IsCoded plant → code_at plant t ≡ Some code → IsOwned plant t
owned_task plant t code each coded = go (slice_get plant.resources t.resource) refl coded
  where
    go : (o : Option ResourceValue) → slice_get plant.resources t.resource ≡ o → slice_get (items_or_none (option_map (λ (r : ResourceValue). r.codes) o)) t.task ≡ Some code → IsOwned plant t
    go None at found = absurd cc
    go (Some r) at found =
        let within = slice_get_within r.codes t.task code found in
        let long = each r t.resource at in
        let here = element_at r.tasks t.task (omega (arith, within, long)) in
        let tasks : slice_get (items_or_none (option_map (λ (v : ResourceValue). v.tasks) (slice_get plant.resources t.resource))) t.task ≡ Some here.0 =
        ap (λ o. slice_get (items_or_none (option_map (λ (v : ResourceValue). v.tasks) o)) t.task) at ∙ here.1 in
        record {
          owner = r;
          task = here.0;
          owned = at;
          placed = here.1;
          resource_is = ap (λ o. items_or_none (option_map (λ (v : ResourceValue). v.name) o)) at;
          task_is = ap (λ o. items_or_none (option_map (λ (v : TaskValue). v.name) o)) tasks;
        }

abbrev task_ref : ℕ → ℕ → TaskRef
task_ref resource task = record { resource = resource; task = task }

regroup : (a r d t b x : List ℕ) → ((a ++ ((r ++ d) ++ t)) ++ b) ++ x ≡ a ++ (r ++ (d ++ (t ++ (b ++ x))))
regroup a r d t b x = simp append_assoc

same_task : (plant : PlantValue) (t u : TaskRef) (x y : List ℕ) → HasNamesApart plant → IsOwned plant t → IsOwned plant u → before_pair plant t ++ x ≡ before_pair plant u ++ y → t ≡ u
same_task plant t u x y apart mine other e =
    let r = resource_text plant t.resource in
    let s = resource_text plant u.resource in
    let k = task_name plant t in
    let l = task_name plant u in
    let after : r ++ (codes "." ++ (k ++ (codes " " ++ x))) ≡ s ++ (codes "." ++ (l ++ (codes " " ++ y))) =
    append_cancel_left (codes "MESSAGE ") (r ++ (codes "." ++ (k ++ (codes " " ++ x)))) (s ++ (codes "." ++ (l ++ (codes " " ++ y))))
    (sym (regroup (codes "MESSAGE ") r (codes ".") k (codes " ") x) ∙ e ∙ regroup (codes "MESSAGE ") s (codes ".") l (codes " ") y) in
    let resources = same_words 46 r s (codes "." ++ (k ++ (codes " " ++ x))) (codes "." ++ (l ++ (codes " " ++ y))) (plain_owner mine) (plain_owner other) refl refl after in
    let place : t.resource ≡ u.resource =
    one_place (λ (v : ResourceValue). v.name) plant.resources t.resource u.resource mine.owner other.owner apart.apart mine.owned other.owned
    (sym mine.resource_is ∙ resources.0 ∙ other.resource_is) in
    let owner : mine.owner ≡ other.owner = same_Some mine.owner other.owner (sym mine.owned ∙ ap (λ n. slice_get plant.resources n) place ∙ other.owned) in
    let tasks = same_words 32 k l (codes " " ++ x) (codes " " ++ y) (plain_task mine) (plain_task other) refl refl
    (append_cancel_left (codes ".") (k ++ (codes " " ++ x)) (l ++ (codes " " ++ y)) resources.1) in
    let number : t.task ≡ u.task =
    one_place (λ (v : TaskValue). v.name) mine.owner.tasks t.task u.task mine.task other.task
    (all_at AreTasksNamed plant.resources t.resource mine.owner apart.tasks mine.owned).apart
    mine.placed (ap (λ (v : ResourceValue). slice_get v.tasks u.task) owner ∙ other.placed) (sym mine.task_is ∙ tasks.0 ∙ other.task_is) in
    ap (λ n. task_ref n t.task) place ∙ ap (task_ref u.resource) number
  where
    plain_owner : {v : TaskRef} (o : IsOwned plant v) → HasNone 46 (resource_text plant v.resource)
    plain_owner {v} o =
        subst (HasNone 46) (sym o.resource_is)
        (plain_none 46 o.owner.name (omega arith) (all_at (λ (w : ResourceValue). IsTrue (is_plain_name w.name)) plant.resources v.resource o.owner apart.plain o.owned))

    plain_task : {v : TaskRef} (o : IsOwned plant v) → HasNone 32 (task_name plant v)
    plain_task {v} o =
        let tasks = all_at AreTasksNamed plant.resources v.resource o.owner apart.tasks o.owned in
        subst (HasNone 32) (sym o.task_is) (plain_none 32 o.task.name (omega arith) (all_at (λ (a : TaskValue). IsTrue (is_plain_name a.name)) o.owner.tasks v.task o.task tasks.plain o.placed))

-- messages of one task
module _ (plant : PlantValue) (m n : MessageValue) (is : IsMessageOf plant m) (of : IsMessageOf plant n) where
  abbrev pair_of : MessageValue → ℕ × ℕ
  pair_of x = (x.name.incarnation, x.name.number)

  abbrev last : CodeValue → MessageValue → List ℕ
  last code x = codes " GIVES " ++ gives_text code x.image

  abbrev behind : CodeValue → MessageValue → List ℕ
  behind code x = pair_text (pair_of x) ++ ((codes " HEARD" ++ all_heard_text plant x.heard) ++ last code x)

  same_parts : (code : CodeValue) → m.name.task ≡ n.name.task → is.form.code ≡ code → of.form.code ≡ code → behind code m ≡ behind code n → m ≡ n
  same_parts code task mine other e =
      let pairs = one_pair (pair_of m) (pair_of n) ((codes " HEARD" ++ all_heard_text plant m.heard) ++ last code m) ((codes " HEARD" ++ all_heard_text plant n.heard) ++ last code n)
      (is.incarnation_small, is.number_small) (of.incarnation_small, of.number_small) refl refl e in
      let heard = one_list heard_item IsHeardOf one_heard plant.resources m.heard n.heard (last code m) (last code n)
      (all_small plant.resources m.heard is.form.heard_each is.heard_small) (all_small plant.resources n.heard of.form.heard_each of.heard_small) refl refl
      (append_cancel_left (codes " HEARD") (all_heard_text plant m.heard ++ last code m) (all_heard_text plant n.heard ++ last code n)
      (sym (append_assoc (codes " HEARD") (all_heard_text plant m.heard) (last code m)) ∙ pairs.1 ∙ append_assoc (codes " HEARD") (all_heard_text plant n.heard) (last code n))) in
      let image : m.image ≡ n.image = one_gives code code.outputs m.image n.image
      (all_given code.outputs m.image (is.form.kinds_are ∙ ap image_kinds mine) is.values_in_range)
      (all_given code.outputs n.image (of.form.kinds_are ∙ ap image_kinds other) of.values_in_range)
      (append_cancel_left (codes " GIVES ") (gives_text code m.image) (gives_text code n.image) heard.1) in
      let name : m.name ≡ n.name = ap (λ t. name_with t (pair_of m)) task ∙ ap (name_with n.name.task) pairs.0 in
      ap (λ x. message x m.heard m.image) name ∙ ap (λ h. message n.name h m.image) heard.0 ∙ ap (message n.name n.heard) image

pub coded_tasks : (text : List ℕ) (plant : PlantValue) → IsPlantText text plant → IsCoded plant
coded_tasks text plant read = λ v k at.
    let r = zip_back (IsResourceOf read.tree plant) read.tree.resources plant.resources read.stands k v at in
    sym (ap (λ (l : List TaskValue). length l) r.2.tasks_are ∙ length-map _ task_value ∙ zip_length (IsCodeOf read.tree plant r.0) _ v.codes r.2.codes_are)

pub one_message : NamesAreApart → OneMessage
one_message named text plant read m n is of e =
    let apart = named text plant read in
    let each = coded_tasks text plant read in
    let code = is.form.code in
    let mine = line_parted plant code m is.form.coded in
    let other = line_parted plant of.form.code n of.form.coded in
    let task : m.name.task ≡ n.name.task = same_task plant m.name.task n.name.task (behind plant m n is of code m) (behind plant m n is of of.form.code n) apart
    (owned_task plant m.name.task code each is.form.coded) (owned_task plant n.name.task of.form.code each of.form.coded) (sym mine ∙ e ∙ other) in
    let codes_are : of.form.code ≡ code = same_Some of.form.code code (sym of.form.coded ∙ ap (code_at plant) (sym task) ∙ is.form.coded) in
    let there = line_parted plant code n (of.form.coded ∙ ap (λ c. Some c) codes_are) in
    let whole : before_pair plant m.name.task ++ behind plant m n is of code m ≡ before_pair plant m.name.task ++ behind plant m n is of code n =
    sym mine ∙ e ∙ there ∙ ap (λ t. before_pair plant t ++ behind plant m n is of code n) (sym task) in
    same_parts plant m n is of code task refl codes_are (append_cancel_left (before_pair plant m.name.task) (behind plant m n is of code m) (behind plant m n is of code n) whole)
