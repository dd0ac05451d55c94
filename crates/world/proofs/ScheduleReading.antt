-- Lines of schedules are read.
use Rattle.std.proofs.Common.{◌≡◌, ◌≢◌, ℕ, ◌-◌, ◌≤◌, Bool, true, false, IsTrue, List, [], ◌∷◌, map, take, drop, length, get_or, slice_get, Option, Some, None, Result, Ok, Err, IfErr, refl, sym, ap, ◌∙◌, subst, arith, codes, Bor}
use Rattle.std.specs.Result.{IsErrAnd}
use Rattle.std.specs.Option.{option_map}
use Rattle.std.specs.Str.{bytes_eq, str_to_ascii_lowercase}
use Rattle.std.proofs.lemmas.Slice.Eq.{bytes_eq-Decides}
use Rattle.std.proofs.lemmas.Option.{slice_get-map, same_Some}
use Rattle.lists.proofs.Places.{somes_same}
use Rattle.words.specs.Chars.{same_word, first_that}
use Rattle.words.specs.Numbers.{number_up_to}
use Rattle.task_codes.specs.declared.task_ref.TaskRef.{TaskRef}
use Rattle.plant.specs.PlantValue.{PlantValue}
use Rattle.evaluation.specs.declared.field_input.FieldInput.{FieldInput}
use Rattle.evaluation.specs.declared.input_fault.InputFault.{InputFault}
use Rattle.evaluation.specs.declared.input_fault.InputFault.TheVariants as input
use Rattle.evaluation.specs.InputTexts.{input_of, AreInputs, AreApart, HasBadWord, HasAddressTwice, IsFaultOfWords}
use Rattle.world.specs.declared.event.Event.{Event}
use Rattle.world.specs.declared.event.Event.TheVariants.{Evaluate, Deliver, Restart, Hear}
use Rattle.world.specs.declared.read_line.Keyword.{Keyword}
use Rattle.world.specs.declared.read_line.Keyword.TheVariants as key
use Rattle.world.specs.ScheduleText.{IsResourceWord, IsTaskWord, SpellsEvaluate, SpellsDeliver, SpellsRestart, SpellsHear, SpellsEvent}
use Rattle.world.specs.Steps.ReadingLines.{texts, keyword_of}
use Rattle.world.proofs.ScheduleLists.{to_the_end}

-- a word to fill in
abbrev pub no_word : Bor (List ℕ)
no_word = record { ref_ptr = (0, 0); now = [] }

-- the words behind the first n
abbrev pub behind : ℕ → List (Bor (List ℕ)) → List (List ℕ)
behind n ws = texts (take (length ws - n) (drop n ws))

behind_is : (n : ℕ) (ws : List (Bor (List ℕ))) → behind n ws ≡ texts (drop n ws)
behind_is n ws = ap texts (to_the_end n ws)

-- words are one list of inputs
pub one_inputs : (words : List (List ℕ)) (a b : List FieldInput) → AreInputs words a → AreInputs words b → a ≡ b
one_inputs words a b g h = somes_same a b (sym g.words_are ∙ h.words_are)

some_none : {A : Type 0} (o : Option A) → ◌≡◌ {A = Option (Option A)} (Some None) (option_map (λ x. Some x) o) → ⊥
some_none None e = cc
some_none (Some x) e = let inner : ◌≡◌ {A = Option _} None (Some x) = same_Some None (Some x) e in cc

not_bad : (words : List (List ℕ)) (inputs : List FieldInput) → HasBadWord words → AreInputs words inputs → ⊥
not_bad words inputs bad h =
    let at : slice_get (map input_of words) bad.number ≡ Some None = slice_get-map input_of words bad.number ∙ ap (option_map input_of) bad.word_is ∙ ap (λ o. Some o) bad.bad in
    some_none (slice_get inputs bad.number) (sym at ∙ ap (λ l. slice_get l bad.number) h.words_are ∙ slice_get-map (λ i. Some i) inputs bad.number)

not_twice : (words : List (List ℕ)) (inputs : List FieldInput) → HasAddressTwice words → AreInputs words inputs → ⊥
not_twice words inputs twice h =
    let same : inputs ≡ twice.inputs = somes_same inputs twice.inputs (sym h.words_are ∙ twice.words_are) in
    twice.twice (subst AreApart same h.apart)

-- the words of an evaluation, one by one
pub evaluate_at : (plant : PlantValue) (task : TaskRef) (dt : ℕ) (inputs : List FieldInput) (ws : List (Bor (List ℕ))) → SpellsEvaluate plant task dt inputs (texts ws)
    → IsTaskWord plant (get_or ws 0 no_word).now task × (number_up_to 4294967295 (get_or ws 1 no_word).now ≡ Some dt) × AreInputs (behind 2 ws) inputs
evaluate_at plant task dt inputs [] h = absurd h
evaluate_at plant task dt inputs (x ∷ []) h = absurd h
evaluate_at plant task dt inputs (x ∷ y ∷ more) h = (h.0, h.1, subst (λ l. AreInputs l inputs) (sym (behind_is 2 (x ∷ y ∷ more))) h.2)

-- the words of a hearing, one by one
pub hear_at : (plant : PlantValue) (resource of incarnation : ℕ) (ws : List (Bor (List ℕ))) → SpellsHear plant resource of incarnation (texts ws)
    → IsResourceWord plant (get_or ws 0 no_word).now resource × IsResourceWord plant (get_or ws 1 no_word).now of × (number_up_to 4294967295 (get_or ws 2 no_word).now ≡ Some incarnation)
hear_at plant resource of incarnation [] h = absurd h
hear_at plant resource of incarnation (x ∷ []) h = absurd h
hear_at plant resource of incarnation (x ∷ y ∷ []) h = absurd h
hear_at plant resource of incarnation (x ∷ y ∷ z ∷ []) h = h
hear_at plant resource of incarnation (x ∷ y ∷ z ∷ w ∷ more) h = absurd h

pub err_and : {T E : Type 0} (r : Result T E) (P Q : E → Type 0) → IsErrAnd r P → ((e : E) → P e → Q e) → IfErr r Q
err_and (Ok x) P Q h f = absurd h
err_and (Err e) P Q h f = f e h

-- a refusal of the inputs is one of the line
pub inputs_refused : (plant : PlantValue) (ws : List (Bor (List ℕ))) (found : InputFault) → IsFaultOfWords (behind 2 ws) found → found ≢ input.Memory
    → (task : TaskRef) (dt : ℕ) (inputs : List FieldInput) → SpellsEvaluate plant task dt inputs (texts ws) → ⊥
inputs_refused plant ws input.Syntax fault ne task dt inputs h = not_bad (behind 2 ws) inputs fault (evaluate_at plant task dt inputs ws h).2
inputs_refused plant ws input.Twice fault ne task dt inputs h = not_twice (behind 2 ws) inputs fault (evaluate_at plant task dt inputs ws h).2
inputs_refused plant ws input.Memory fault ne task dt inputs h = ne refl

same_small : (a b : List ℕ) → IsTrue (same_word a b) → str_to_ascii_lowercase a ≡ str_to_ascii_lowercase b
same_small a b e = (bytes_eq-Decides (str_to_ascii_lowercase a) (str_to_ascii_lowercase b)).0 e

-- the keywords
pub eval_word : (w : List ℕ) → IsTrue (same_word w (codes "EVAL")) → keyword_of w ≡ Some key.Evaluate
unfolding keyword_of
eval_word w e = rw e refl

pub deliver_word : (w : List ℕ) → IsTrue (same_word w (codes "DELIVER")) → keyword_of w ≡ Some key.Deliver
unfolding keyword_of
deliver_word w e =
    let no : same_word w (codes "EVAL") ≡ false = ap (λ l. bytes_eq l (str_to_ascii_lowercase (codes "EVAL"))) (same_small w (codes "DELIVER") e) in
    rw (no, e) refl

pub restart_word : (w : List ℕ) → IsTrue (same_word w (codes "RESTART")) → keyword_of w ≡ Some key.Restart
unfolding keyword_of
restart_word w e =
    let no : same_word w (codes "EVAL") ≡ false = ap (λ l. bytes_eq l (str_to_ascii_lowercase (codes "EVAL"))) (same_small w (codes "RESTART") e) in
    let nor : same_word w (codes "DELIVER") ≡ false = ap (λ l. bytes_eq l (str_to_ascii_lowercase (codes "DELIVER"))) (same_small w (codes "RESTART") e) in
    rw (no, nor, e) refl

pub hear_word : (w : List ℕ) → IsTrue (same_word w (codes "HEAR")) → keyword_of w ≡ Some key.Hear
unfolding keyword_of
hear_word w e =
    let small = same_small w (codes "HEAR") e in
    let no : same_word w (codes "EVAL") ≡ false = ap (λ l. bytes_eq l (str_to_ascii_lowercase (codes "EVAL"))) small in
    let nor : same_word w (codes "DELIVER") ≡ false = ap (λ l. bytes_eq l (str_to_ascii_lowercase (codes "DELIVER"))) small in
    let none : same_word w (codes "RESTART") ≡ false = ap (λ l. bytes_eq l (str_to_ascii_lowercase (codes "RESTART"))) small in
    rw (no, nor, none, e) refl

-- the test of a keyword
abbrev IsKey : Bool → Bool → Bool → Bool → Keyword → Type 0
IsKey a b c d key.Evaluate = a ≡ true
IsKey a b c d key.Deliver = b ≡ true
IsKey a b c d key.Restart = c ≡ true
IsKey a b c d key.Hear = d ≡ true

first_of : (a b c d : Bool) (k : Keyword) → first_that ((a, key.Evaluate) ∷ (b, key.Deliver) ∷ (c, key.Restart) ∷ (d, key.Hear) ∷ []) ≡ Some k → IsKey a b c d k
first_of true b c d key.Evaluate e = refl
first_of true b c d key.Deliver e = absurd cc
first_of true b c d key.Restart e = absurd cc
first_of true b c d key.Hear e = absurd cc
first_of false true c d key.Evaluate e = absurd cc
first_of false true c d key.Deliver e = refl
first_of false true c d key.Restart e = absurd cc
first_of false true c d key.Hear e = absurd cc
first_of false false true d key.Evaluate e = absurd cc
first_of false false true d key.Deliver e = absurd cc
first_of false false true d key.Restart e = refl
first_of false false true d key.Hear e = absurd cc
first_of false false false true key.Evaluate e = absurd cc
first_of false false false true key.Deliver e = absurd cc
first_of false false false true key.Restart e = absurd cc
first_of false false false true key.Hear e = refl
first_of false false false false k e = absurd cc

keyword_is : (w : List ℕ) (k : Keyword) → keyword_of w ≡ Some k
    → IsKey (same_word w (codes "EVAL")) (same_word w (codes "DELIVER")) (same_word w (codes "RESTART")) (same_word w (codes "HEAR")) k
unfolding keyword_of
keyword_is w k e = first_of (same_word w (codes "EVAL")) (same_word w (codes "DELIVER")) (same_word w (codes "RESTART")) (same_word w (codes "HEAR")) k e

-- the keyword of an event
abbrev key_of_event : Event → Keyword
key_of_event (Evaluate ticket task dt inputs) = key.Evaluate
key_of_event (Deliver message resource) = key.Deliver
key_of_event (Restart resource) = key.Restart
key_of_event (Hear resource of incarnation) = key.Hear

-- the line of an event begins with its keyword
keyed : (plant : PlantValue) (n : ℕ) (e : Event) (ws : List (Bor (List ℕ))) → SpellsEvent plant n e (texts ws) → keyword_of (get_or ws 0 no_word).now ≡ Some (key_of_event e)
keyed plant n (Evaluate ticket task dt inputs) [] h = absurd h
keyed plant n (Evaluate ticket task dt inputs) (w ∷ ws) h = eval_word w.now h.0
keyed plant n (Deliver message resource) [] h = absurd h
keyed plant n (Deliver message resource) (w ∷ ws) h = deliver_word w.now h.0
keyed plant n (Restart resource) [] h = absurd h
keyed plant n (Restart resource) (w ∷ ws) h = restart_word w.now h.0
keyed plant n (Hear resource of incarnation) [] h = absurd h
keyed plant n (Hear resource of incarnation) (w ∷ ws) h = hear_word w.now h.0

pub no_key : (plant : PlantValue) (n : ℕ) (ws : List (Bor (List ℕ))) → keyword_of (get_or ws 0 no_word).now ≡ None → (e : Event) → SpellsEvent plant n e (texts ws) → ⊥
no_key plant n ws none e h = let k = sym none ∙ keyed plant n e ws h in cc

-- the event of a line
pub evaluate_line : (plant : PlantValue) (n : ℕ) (task : TaskRef) (dt : ℕ) (inputs : List FieldInput) (ws : List (Bor (List ℕ))) → 1 ≤ length ws → keyword_of (get_or ws 0 no_word).now ≡ Some key.Evaluate
    → SpellsEvaluate plant task dt inputs (behind 1 ws) → SpellsEvent plant n (Evaluate n task dt inputs) (texts ws)
evaluate_line plant n task dt inputs [] le k h = absurd (omega (arith, le))
evaluate_line plant n task dt inputs (w ∷ ws) le k h = (keyword_is w.now key.Evaluate k, refl, subst (SpellsEvaluate plant task dt inputs) (behind_is 1 (w ∷ ws)) h)

pub deliver_line : (plant : PlantValue) (n message resource : ℕ) (ws : List (Bor (List ℕ))) → 1 ≤ length ws → keyword_of (get_or ws 0 no_word).now ≡ Some key.Deliver
    → SpellsDeliver plant message resource (behind 1 ws) → SpellsEvent plant n (Deliver message resource) (texts ws)
deliver_line plant n message resource [] le k h = absurd (omega (arith, le))
deliver_line plant n message resource (w ∷ ws) le k h = (keyword_is w.now key.Deliver k, subst (SpellsDeliver plant message resource) (behind_is 1 (w ∷ ws)) h)

pub restart_line : (plant : PlantValue) (n resource : ℕ) (ws : List (Bor (List ℕ))) → 1 ≤ length ws → keyword_of (get_or ws 0 no_word).now ≡ Some key.Restart
    → SpellsRestart plant resource (behind 1 ws) → SpellsEvent plant n (Restart resource) (texts ws)
restart_line plant n resource [] le k h = absurd (omega (arith, le))
restart_line plant n resource (w ∷ ws) le k h = (keyword_is w.now key.Restart k, subst (SpellsRestart plant resource) (behind_is 1 (w ∷ ws)) h)

pub hear_line : (plant : PlantValue) (n resource of incarnation : ℕ) (ws : List (Bor (List ℕ))) → 1 ≤ length ws → keyword_of (get_or ws 0 no_word).now ≡ Some key.Hear
    → SpellsHear plant resource of incarnation (behind 1 ws) → SpellsEvent plant n (Hear resource of incarnation) (texts ws)
hear_line plant n resource of incarnation [] le k h = absurd (omega (arith, le))
hear_line plant n resource of incarnation (w ∷ ws) le k h = (keyword_is w.now key.Hear k, subst (SpellsHear plant resource of incarnation) (behind_is 1 (w ∷ ws)) h)

-- a line that is no event of its keyword is none
pub no_evaluate : (plant : PlantValue) (n : ℕ) (ws : List (Bor (List ℕ))) → keyword_of (get_or ws 0 no_word).now ≡ Some key.Evaluate
    → ((task : TaskRef) (dt : ℕ) (inputs : List FieldInput) → SpellsEvaluate plant task dt inputs (behind 1 ws) → ⊥) → (e : Event) → SpellsEvent plant n e (texts ws) → ⊥
no_evaluate plant n [] k none (Evaluate ticket task dt inputs) h = h
no_evaluate plant n (w ∷ ws) k none (Evaluate ticket task dt inputs) h = none task dt inputs (subst (SpellsEvaluate plant task dt inputs) (sym (behind_is 1 (w ∷ ws))) h.2)
no_evaluate plant n ws k none (Deliver message resource) h = let other = sym k ∙ keyed plant n (Deliver message resource) ws h in cc
no_evaluate plant n ws k none (Restart resource) h = let other = sym k ∙ keyed plant n (Restart resource) ws h in cc
no_evaluate plant n ws k none (Hear resource of incarnation) h = let other = sym k ∙ keyed plant n (Hear resource of incarnation) ws h in cc

pub no_deliver : (plant : PlantValue) (n : ℕ) (ws : List (Bor (List ℕ))) → keyword_of (get_or ws 0 no_word).now ≡ Some key.Deliver
    → ((message resource : ℕ) → SpellsDeliver plant message resource (behind 1 ws) → ⊥) → (e : Event) → SpellsEvent plant n e (texts ws) → ⊥
no_deliver plant n [] k none (Deliver message resource) h = h
no_deliver plant n (w ∷ ws) k none (Deliver message resource) h = none message resource (subst (SpellsDeliver plant message resource) (sym (behind_is 1 (w ∷ ws))) h.1)
no_deliver plant n ws k none (Evaluate ticket task dt inputs) h = let other = sym k ∙ keyed plant n (Evaluate ticket task dt inputs) ws h in cc
no_deliver plant n ws k none (Restart resource) h = let other = sym k ∙ keyed plant n (Restart resource) ws h in cc
no_deliver plant n ws k none (Hear resource of incarnation) h = let other = sym k ∙ keyed plant n (Hear resource of incarnation) ws h in cc

pub no_restart : (plant : PlantValue) (n : ℕ) (ws : List (Bor (List ℕ))) → keyword_of (get_or ws 0 no_word).now ≡ Some key.Restart
    → ((resource : ℕ) → SpellsRestart plant resource (behind 1 ws) → ⊥) → (e : Event) → SpellsEvent plant n e (texts ws) → ⊥
no_restart plant n [] k none (Restart resource) h = h
no_restart plant n (w ∷ ws) k none (Restart resource) h = none resource (subst (SpellsRestart plant resource) (sym (behind_is 1 (w ∷ ws))) h.1)
no_restart plant n ws k none (Evaluate ticket task dt inputs) h = let other = sym k ∙ keyed plant n (Evaluate ticket task dt inputs) ws h in cc
no_restart plant n ws k none (Deliver message resource) h = let other = sym k ∙ keyed plant n (Deliver message resource) ws h in cc
no_restart plant n ws k none (Hear resource of incarnation) h = let other = sym k ∙ keyed plant n (Hear resource of incarnation) ws h in cc

pub no_hear : (plant : PlantValue) (n : ℕ) (ws : List (Bor (List ℕ))) → keyword_of (get_or ws 0 no_word).now ≡ Some key.Hear
    → ((resource of incarnation : ℕ) → SpellsHear plant resource of incarnation (behind 1 ws) → ⊥) → (e : Event) → SpellsEvent plant n e (texts ws) → ⊥
no_hear plant n [] k none (Hear resource of incarnation) h = h
no_hear plant n (w ∷ ws) k none (Hear resource of incarnation) h = none resource of incarnation (subst (SpellsHear plant resource of incarnation) (sym (behind_is 1 (w ∷ ws))) h.1)
no_hear plant n ws k none (Evaluate ticket task dt inputs) h = let other = sym k ∙ keyed plant n (Evaluate ticket task dt inputs) ws h in cc
no_hear plant n ws k none (Deliver message resource) h = let other = sym k ∙ keyed plant n (Deliver message resource) ws h in cc
no_hear plant n ws k none (Restart resource) h = let other = sym k ∙ keyed plant n (Restart resource) ws h in cc
