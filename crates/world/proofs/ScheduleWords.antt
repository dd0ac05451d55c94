-- Words of schedules.
use Rattle.std.proofs.Common.{◌≡◌, ◌≢◌, ℕ, ◌+◌, ◌<◌, ◌≤◌, ◌==◌, ◌⊎◌, nat_lt, Bool, true, false, cond, not, IsTrue, List, [], ◌∷◌, ◌++◌, length, take, drop, get_or, Some, None, refl, sym, ap, ◌∙◌, subst, arith, rules, tests, append_assoc, inl, inr, suc, add-one, drop-cons, codes, ltb, length-append}
use Rattle.std.proofs.lemmas.Bool.{lt-ltb, cases_eq, cases_lt}
use Rattle.std.proofs.lemmas.List.Sums.{position_or_len_is, prefix_len-le-length}
use Rattle.std.specs.List.{position, position_or_len}
use Rattle.std.proofs.lemmas.List.{take-append-drop}
use Rattle.std.proofs.Math.Seq.{take-append_seam, drop-append-add}
use Rattle.std.proofs.lemmas.List.Quantifiers.{position-Some}
use Rattle.words.specs.Chars.{same_word, is_letter_or_digit, is_rest, is_identifier, is_plain_name}
use Rattle.task_codes.specs.declared.task_ref.TaskRef.{TaskRef}
use Rattle.plant.specs.PlantValue.{PlantValue, ResourceValue}
use Rattle.world.specs.ScheduleText.{resource_named, task_in, IsResourceWord, IsTaskWord}

-- a dot
abbrev pub is_dot : ℕ → Bool
is_dot c = c == 46

letter_no_dot : (c : ℕ) → is_letter_or_digit c ≡ true → (c == 46) ≡ false
letter_no_dot c h = search (rules, tests)

rest_no_dot : (w more : List ℕ) → is_rest w ≡ true → position_or_len is_dot (w ++ 46 ∷ more) ≡ length w
rest_no_dot [] more h = refl
rest_no_dot (c ∷ []) more h = let e : (c == 46) ≡ false = letter_no_dot c h in rw e refl
rest_no_dot (c ∷ e ∷ w) more h =
    let first : (c == 46) ≡ false = search (rules, tests) in
    let rest : position_or_len is_dot ((e ∷ w) ++ 46 ∷ more) ≡ length (e ∷ w) = rest_no_dot (e ∷ w) more (search (rules, tests)) in
    rw (first, rest) (omega arith)

plain_rest : (w : List ℕ) → is_plain_name w ≡ true → is_rest w ≡ true
unfolding is_plain_name is_identifier
plain_rest w h = search (rules, tests)

-- the first dot behind a plain name
pub dot_behind : (w more : List ℕ) → IsTrue (is_plain_name w) → position is_dot (w ++ 46 ∷ more) ≡ Some (length w)
dot_behind w more h =
    let at = rest_no_dot w more (plain_rest w h) in
    let long : length (w ++ 46 ∷ more) ≡ length w + suc (length more) = length-append w (46 ∷ more) in
    let inside : ltb (length w) (length (w ++ 46 ∷ more)) ≡ true = lt-ltb (length w) (length (w ++ 46 ∷ more)) (omega (arith, long)) in
    ap (λ n. cond (ltb n (length (w ++ 46 ∷ more))) (Some n) None) at ∙ ap (λ b. cond b (Some (length w)) None) inside

-- the word is its parts with the dot between them
pub dotted : (word : List ℕ) (i : ℕ) → position is_dot word ≡ Some i → word ≡ take i word ++ codes "." ++ drop (i + 1) word
dotted word i at =
    let found = position-Some is_dot word i 0 at in
    let here : get_or word i 0 ≡ 46 = search (found.1, rules, tests) in
    let behind : drop i word ≡ 46 ∷ drop (suc i) word = drop-cons word i 0 found.0 ∙ ap (λ c. c ∷ drop (suc i) word) here in
    sym (append_assoc (take i word) (46 ∷ []) (drop (i + 1) word) ∙ ap (λ n. take i word ++ 46 ∷ drop n word) (add-one i) ∙ ap (λ l. take i word ++ l) (sym behind) ∙ take-append-drop i word)

-- a word of two names is cut at its first dot
pub cut_at : (plant : PlantValue) (word : List ℕ) (t : TaskRef) (h : IsTaskWord plant word t) → position is_dot word ≡ Some (length h.owner)
cut_at plant word t h = ap (position is_dot) (h.word_is ∙ append_assoc h.owner (46 ∷ []) h.name) ∙ dot_behind h.owner h.name h.owner_is.name

pub task_parts : (plant : PlantValue) (word : List ℕ) (i : ℕ) (t : TaskRef) → position is_dot word ≡ Some i → IsTaskWord plant word t
    → IsResourceWord plant (take i word) t.resource × IsTrue (is_plain_name (drop (i + 1) word)) × (t.task ≡ task_in plant t.resource (drop (i + 1) word))
task_parts plant word i t at h =
    let same : i ≡ length h.owner = let e = sym at ∙ cut_at plant word t h in cc in
    let whole : word ≡ h.owner ++ 46 ∷ h.name = h.word_is ∙ append_assoc h.owner (46 ∷ []) h.name in
    let front : take i word ≡ h.owner = ap (λ n. take n word) same ∙ ap (take (length h.owner)) whole ∙ take-append_seam h.owner (46 ∷ h.name) in
    let back : drop (i + 1) word ≡ h.name = ap (λ n. drop (n + 1) word) same ∙ ap (drop (length h.owner + 1)) whole ∙ drop-append-add h.owner (46 ∷ h.name) 1 in (
      subst (λ w. IsResourceWord plant w t.resource) (sym front) h.owner_is,
      subst (λ w. IsTrue (is_plain_name w)) (sym back) h.named,
      h.task_is ∙ ap (task_in plant t.resource) (sym back),
    )

pub task_whole : (plant : PlantValue) (word : List ℕ) (i : ℕ) (t : TaskRef) → position is_dot word ≡ Some i → IsResourceWord plant (take i word) t.resource → IsTrue (is_plain_name (drop (i + 1) word))
    → t.task ≡ task_in plant t.resource (drop (i + 1) word) → IsTaskWord plant word t
task_whole plant word i t at owner name task =
    record { owner = take i word; name = drop (i + 1) word; word_is = dotted word i at; owner_is = owner; named = name; task_is = task }

pub no_dot : (plant : PlantValue) (word : List ℕ) (t : TaskRef) → position is_dot word ≡ None → IsTaskWord plant word t → ⊥
no_dot plant word t none h = let e = sym none ∙ cut_at plant word t h in cc

-- a resource to fill in
abbrev pub no_resource : ResourceValue
no_resource = record { name = []; tasks = []; codes = [] }

-- none of the first n resources has the name
abbrev pub IsOther : List ResourceValue → List ℕ → ℕ → Type 0
IsOther resources name n = (j : ℕ) → j < n → same_word name (get_or resources j no_resource).name ≡ false

pub still_other : (resources : List ResourceValue) (name : List ℕ) (n : ℕ) → n < length resources → same_word name (get_or resources n no_resource).name ≡ false → IsOther resources name n → IsOther resources name (n + 1)
still_other resources name n lt here before j less = by (cases_eq j n)
  where
    by : (j ≡ n) ⊎ (j ≢ n) → same_word name (get_or resources j no_resource).name ≡ false
    by (inl same) = ap (λ k. same_word name (get_or resources k no_resource).name) same ∙ here
    by (inr ne) = before j (omega (arith, less, ne))

pub resource_at : (plant : PlantValue) (name : List ℕ) (n : ℕ) → n < length plant.resources → same_word name (get_or plant.resources n no_resource).name ≡ true → IsOther plant.resources name n → resource_named plant name ≡ n
resource_at plant name n lt here before = position_or_len_is (λ (r : ResourceValue). same_word name r.name) plant.resources n no_resource (omega (arith, lt)) before (λ _. here)

pub resource_past : (plant : PlantValue) (name : List ℕ) (n : ℕ) → length plant.resources ≤ n → IsOther plant.resources name n → resource_named plant name ≡ length plant.resources
resource_past plant name n le before =
    position_or_len_is (λ (r : ResourceValue). same_word name r.name) plant.resources (length plant.resources) no_resource (omega arith) (λ k lt. before k (omega (arith, lt, le))) (λ lt. absurd (omega (arith, lt)))

-- the place that `position` finds, and that it doesn't find
pub place_found : {X : Type 0} (p : X → Bool) (xs : List X) (i : ℕ) → position p xs ≡ Some i → position_or_len p xs ≡ i
place_found p xs i at = by (nat_lt (position_or_len p xs) (length xs)) at
  where
    by : (b : Bool) → cond b (Some (position_or_len p xs)) None ≡ Some i → position_or_len p xs ≡ i
    by true e = cc
    by false e = absurd cc

pub place_missing : {X : Type 0} (p : X → Bool) (xs : List X) → position p xs ≡ None → position_or_len p xs ≡ length xs
place_missing p xs none = elim (cases_lt (position_or_len p xs) (length xs)) [
  | inl lt ↦ absurd (let inside = lt-ltb (position_or_len p xs) (length xs) lt in let e = ap (λ b. cond b (Some (position_or_len p xs)) None) (sym inside) ∙ none in cc)
  | inr le ↦ omega (arith, le, prefix_len-le-length (λ x. not (p x)) xs)
]
