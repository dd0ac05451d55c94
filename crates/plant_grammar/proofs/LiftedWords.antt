-- Words of a part are words of the whole that it stands in, with what was read in front of them.
use Rattle.std.proofs.Common.{◌^◌, refl, ◌≡◌, ℕ, ◌+◌, ◌*◌, ◌<◌, ◌≤◌, IsTrue, List, [], ◌∷◌, ◌++◌, length, map, Option, Some, sym, ap, subst, ◌∙◌, append_assoc, arith}
use Rattle.std.specs.Prelude.{All}
use Rattle.std.specs.Global.{Vec}
use Rattle.std.specs.List.{flat_map, find}
use denote.RawPtr.{null_ptr}
use Rattle.std.proofs.lemmas.List.{append-nil, length-append}
use Rattle.std.proofs.lemmas.List.Concat.{flat_map-cons}
use Rattle.std.proofs.lemmas.List.Elements.{All-nil, All-cons, All-push, All-append, All-weaker}
use Rattle.declared_names.specs.declared.declarations.Declaration.{Declaration}
use Rattle.plant_text.specs.declared.token.Token.{Token}
use Rattle.plant_text.specs.declared.token.Token.TheVariants as token
use Rattle.plant_text.specs.declared.token.Keyword.TheVariants as key
use Rattle.plant_text.specs.declared.token.Punctuation.TheVariants.{Open, Close, Colon, Semicolon}
use Rattle.plant_grammar.specs.declared.grammar_fault.GrammarFaultKind.{GrammarFaultKind}
use Rattle.plant_grammar.specs.declared.grammar.tree.Section.{Section}
use Rattle.plant_grammar.specs.declared.grammar.tree.Section.TheVariants as section
use Rattle.plant_grammar.specs.declared.grammar.tree.NameList.{NameList}
use Rattle.plant_grammar.specs.declared.grammar.tree.VarBlock.{VarBlock}
use Rattle.plant_grammar.specs.declared.grammar.tree.Program.{Program}
use Rattle.plant_grammar.specs.declared.grammar.tree.TaskLine.{TaskLine}
use Rattle.plant_grammar.specs.declared.grammar.tree.Bind.{Bind}
use Rattle.plant_grammar.specs.declared.grammar.tree.Use.{Use}
use Rattle.plant_grammar.specs.declared.grammar.tree.Item.{Item}
use Rattle.plant_grammar.specs.declared.grammar.tree.Item.TheVariants as item
use Rattle.plant_grammar.specs.declared.grammar.tree.Resource.{Resource}
use Rattle.plant_grammar.specs.Grammar.{key_word, mark_word, section_words, type_word, name_words, list_words, lists_words, block_words, program_words, bind_words, task_words, use_words, item_words, resource_words}
use Rattle.plant_grammar.specs.JudgedWords.{Judged, sound, sounds, is_among, known_name, in_order}
use Rattle.plant_grammar.specs.Names.{is_named, AreNamesApart}
use Rattle.plant_grammar.specs.Lawful.{lists_variables, block_variables, variables, AreVariables, IsListLawful, IsBlockLawful, IsProgramLawful, AreProgramsDeclared, task_of, use_of, uses_of, binds_of, programs_alone}
use Rattle.plant_grammar.specs.WellFormed.{HasNames, IsBlockWellFormed, IsProgramWellFormed, IsResourceWellFormed, IsTreeWellFormed}
use Rattle.plant_grammar.specs.NameFaults.{judged_list, judged_block, judged_program, judged_task, judged_binds, variables_found, variables_named, judged_use, judged_item, judged_resource, judged_of}
use Rattle.plant_grammar.specs.Steps.NamesRead.{bind_and_comma, AreBindsLawful, AreItemsLawfulBehind, AreResourcesLawfulBehind}
use Rattle.plant_grammar.specs.Steps.SoundWords.{Fits, BeginsSound, EndsFaulty, judged_lists, AreListsFormed, judged_blocks, AreBlocksFormed, bind_behind, judged_in_parentheses, IsItemFormed, item_behind, judged_items, AreItemsFormed, judged_resources_behind, AreResourcesFormed}
use Rattle.plant_grammar.proofs.WordLists.{flat_map-push}
use Rattle.plant_grammar.proofs.WalkedPrograms.{lawful_lists_named, lawful_blocks_formed, lawful_program_formed}
use Rattle.plant_grammar.proofs.WalkedResources.{formed_resources}
use Rattle.plant_grammar.proofs.JudgedParts.{sounds_both, in_order_sound, in_order_last, listed_last, new_sound, known_sound}
use Rattle.plant_grammar.proofs.SoundParts.{each_list_sound, each_block_sound, each_program_sound, each_bind_sound, each_item_sound, each_resource_sound}

-- a list as a `Vec`
abbrev pub vec_of : {A : Type 0} → (xs : List A) → length xs < 2 ^ 63 → Vec A
vec_of xs fits = record { ptr = null_ptr; len = length xs; cap = length xs; alloc = record { memory = record { seal = tt } }; items = xs; ok = (refl, omega arith); small = fits }

-- Each part stands in a whole, behind these words, which have no fault there.
abbrev pub Lifts : {A B : Type 0} → List Token → (A → List Judged) → (A → Type 0) → (B → List Judged) → (B → Type 0) → Type 0
Lifts {A} {B} front small P big Q = (x : A) → P x → (y : B) × (more : List Judged) × (big y ≡ sounds front ++ (small x ++ more)) × Q y

-- what is read in front
in_front : (front before : List Token) (rest more : List Judged) → sounds front ++ ((sounds before ++ rest) ++ more) ≡ sounds (front ++ before) ++ (rest ++ more)
in_front front before rest more =
    ap (λ (a : List Judged). sounds front ++ a) (append_assoc (sounds before) rest more) ∙ sym (append_assoc (sounds front) (sounds before) (rest ++ more)) ∙ ap (λ (a : List Judged). a ++ (rest ++ more)) (sym (sounds_both front before))

-- so a part's words up to a fault are the whole's
pub lift_faulty : {A B : Type 0} (k : GrammarFaultKind) (front words : List Token) (small : A → List Judged) (P : A → Type 0) (big : B → List Judged) (Q : B → Type 0) → Lifts front small P big Q → EndsFaulty small P k words → EndsFaulty big Q k (front ++ words)
lift_faulty k front words small P big Q lift e =
    let y = lift e.value e.holds in
    let rest : List Judged = record { word = e.word; fault = Some k } ∷ e.more in
    record {
      before = front ++ e.before;
      word = e.word;
      parts = ap (λ (ws : List Token). front ++ ws) e.parts ∙ sym (append_assoc front e.before (e.word ∷ []));
      value = y.0;
      more = e.more ++ y.1;
      judged = y.2 ∙ ap (λ (a : List Judged). sounds front ++ (a ++ y.1)) e.judged ∙ in_front front e.before rest y.1;
      holds = y.3;
    }

-- and so are its first ones without a fault
pub lift_sound : {A B : Type 0} (front words : List Token) (small : A → List Judged) (P : A → Type 0) (big : B → List Judged) (Q : B → Type 0) → (Fits front → Lifts front small P big Q) → BeginsSound small P words → BeginsSound big Q (front ++ words)
lift_sound front words small P big Q lift b = λ fits.
    let long = length-append front words in
    let s = b (omega (arith, fits, long)) in
    let y = lift (omega (arith, fits, long)) s.0 s.3 in
    (y.0, s.1 ++ y.1, y.2 ∙ ap (λ (a : List Judged). sounds front ++ (a ++ y.1)) s.2 ∙ in_front front words s.1 y.1, y.3)

-- things that have two words each, at least
pub twice_as_many : {A : Type 0} (f : A → List Token) → ((x : A) → 2 ≤ length (f x)) → (xs : List A) → 2 * length xs ≤ length (flat_map f xs)
twice_as_many f two [] = omega arith
twice_as_many f two (x ∷ xs) =
    let long : length (flat_map f (x ∷ xs)) ≡ length (f x ++ flat_map f xs) = ap length (flat_map-cons f x xs) in
    omega (arith, two x, twice_as_many f two xs, long, length-append (f x) (flat_map f xs))

-- one more of them fits into memory where their words do
pub one_more_fits : {A : Type 0} (f : A → List Token) → ((x : A) → 2 ≤ length (f x)) → (xs : List A) (y : A) → Fits (flat_map f xs) → Fits (xs ++ y ∷ [])
one_more_fits f two xs y fits = omega (arith, fits, twice_as_many f two xs, length-append xs (y ∷ []))

list_long : (l : NameList) → 2 ≤ length (list_words l)
unfolding list_words
list_long l =
    let behind : List Token = mark_word Colon ∷ type_word l.type_name ∷ mark_word Semicolon ∷ [] in
    omega (arith, length-append (name_words l.names.items) behind)

lists_long : (ls : List NameList) → 1 ≤ length (lists_words ls)
lists_long [] = omega arith
lists_long (l ∷ ls) = omega (arith, length-append (list_words l) (lists_words ls), lists_long ls)

section_long : (s : Section) → 1 ≤ length (section_words s)
section_long section.Input = omega arith
section_long section.Output = omega arith
section_long section.Local = omega arith
section_long section.Retained = omega arith

block_long : (b : VarBlock) → 2 ≤ length (block_words b)
unfolding block_words
block_long b = omega (arith, section_long b.section, lists_long b.lists.items, length-append (section_words b.section) (lists_words b.lists.items))

task_long : (t : TaskLine) → 2 ≤ length (task_words t)
unfolding task_words
task_long t = omega arith

use_long : (u : Use) → 2 ≤ length (use_words u)
unfolding use_words
use_long u = omega arith

item_long : (x : Item) → 2 ≤ length (item_words x)
item_long (item.Task t) = task_long t
item_long (item.Use u) = use_long u

-- a list behind others of its block
pub list_in_lists : (s : Section) (ds : List Declaration) (ls : List NameList) → All (IsListLawful s) ls → AreVariables (ds ++ lists_variables s ls) → Fits (flat_map list_words ls)
    → Lifts (flat_map list_words ls) (judged_list s (ds ++ lists_variables s ls)) HasNames (judged_lists s ds) AreListsFormed
list_in_lists s ds ls lawful are fits = λ l some. (
  ls ++ l ∷ [],
  sound (key_word key.EndVar) ∷ [],
  in_order_last (λ ms l. judged_list s (ds ++ lists_variables s ms) l) list_words ls l (sound (key_word key.EndVar) ∷ []) (each_list_sound s ds ls lawful are),
  (All-push HasNames ls l (lawful_lists_named s ls lawful) some, one_more_fits list_words list_long ls l fits),
)

-- lists in a block
pub lists_in_block : (s : Section) (ds : List Declaration) → Lifts (section_words s) (judged_lists s ds) AreListsFormed (judged_block ds) IsBlockWellFormed
unfolding judged_block
lists_in_block s ds = λ ls formed. (
  record { section = s; lists = vec_of ls formed.1 },
  [],
  ap (λ (a : List Judged). sounds (section_words s) ++ a) (sym (append-nil (judged_lists s ds ls))),
  formed.0,
)

-- a block behind others of its program
pub block_in_blocks : (ds : List Declaration) (bs : List VarBlock) → All IsBlockLawful bs → AreVariables (ds ++ flat_map block_variables bs) → Fits (flat_map block_words bs)
    → Lifts (flat_map block_words bs) (judged_block (ds ++ flat_map block_variables bs)) IsBlockWellFormed (judged_blocks ds) AreBlocksFormed
block_in_blocks ds bs lawful are fits = λ b formed. (
  bs ++ b ∷ [],
  [],
  sym (append-nil (judged_blocks ds (bs ++ b ∷ []))) ∙ in_order_last (λ cs b. judged_block (ds ++ flat_map block_variables cs) b) block_words bs b [] (each_block_sound ds bs lawful are),
  (All-push IsBlockWellFormed bs b (lawful_blocks_formed bs lawful) formed, one_more_fits block_words block_long bs b fits),
)

-- blocks in a program
pub blocks_in_program : (before : List Program) (n : List ℕ) → (IsTrue (is_among (map (λ (q : Program). q.name) before) n) → ⊥) → length before < 64
    → Lifts (key_word key.Program ∷ token.Name n ∷ []) (judged_blocks []) AreBlocksFormed (judged_program before) IsProgramWellFormed
unfolding judged_program
blocks_in_program before n new few = λ bs formed.
    let end : List Judged = sounds (token.Body [] ∷ key_word key.EndProgram ∷ []) in (
      record { name = n; blocks = vec_of bs formed.1; body = [] },
      end,
      ap (λ (j : Judged). sound (key_word key.Program) ∷ j ∷ (judged_blocks [] bs ++ end)) (new_sound (map (λ (q : Program). q.name) before) (length before) 64 n new few),
      formed.0,
    )

-- a resource without lines
abbrev pub empty_resource : Resource
empty_resource = record { name = []; node = []; items = vec_of [] (omega arith) }

lawful_formed : (ps : List Program) → AreProgramsDeclared ps → All IsProgramWellFormed ps
lawful_formed ps declared = All-weaker IsProgramLawful IsProgramWellFormed lawful_program_formed ps declared.declared

-- a program behind others in a plant
pub program_in_tree : (ps : List Program) → AreProgramsDeclared ps → Lifts (flat_map program_words ps) (judged_program ps) IsProgramWellFormed judged_of IsTreeWellFormed
unfolding judged_of
program_in_tree ps declared = λ p formed.
    let resource : Resource = empty_resource in
    let all : List Program = ps ++ p ∷ [] in
    let rest : List Judged = sound (key_word key.Configuration) ∷ sound (token.Name [])
    ∷ (in_order (λ rs r. judged_resource all (length (flat_map uses_of rs)) (length (flat_map binds_of (flat_map uses_of rs))) rs r) [] (resource ∷ []) ++ sound (key_word key.EndConfiguration) ∷ []) in (
      record { programs = all; name = []; resources = resource ∷ [] },
      rest,
      in_order_last judged_program program_words ps p rest (each_program_sound ps declared),
      record {
        programs = All-push IsProgramWellFormed ps p (lawful_formed ps declared) formed;
        some_resource = omega arith;
        resources = All-cons IsResourceWellFormed resource [] (All-nil (λ (t : TaskLine). 0 < t.interval)) (All-nil IsResourceWellFormed);
      },
    )

-- a bind behind others of its instance
pub bind_in_binds : (ds : List Declaration) (n : ℕ) (bs : List Bind) → AreBindsLawful n ds bs
    → Lifts (flat_map bind_and_comma bs) (bind_behind ds n bs) (λ (b : Bind). Unit {0}) (judged_in_parentheses ds n) Fits
bind_in_binds ds n bs lawful = λ b any. (
  bs ++ b ∷ [],
  sound (mark_word Close) ∷ [],
  ap (λ (a : List Judged). a ++ sound (mark_word Close) ∷ []) (listed_last (bind_behind ds n) bind_words [] bs b (each_bind_sound ds n bs lawful))
      ∙ append_assoc (sounds (flat_map bind_and_comma bs)) (bind_behind ds n bs b) (sound (mark_word Close) ∷ []),
  omega (arith, lawful.few, length-append bs (b ∷ [])),
)

-- what is known of the names of an instance, read up to its type
pub record IsTyped (programs : List Program) (i : ℕ) (before : List Item) (name task type : List ℕ) (p : Program) : Type 0 where
  pub new : IsTrue (is_among (map (λ (v : Use). v.instance) (flat_map use_of before)) name) → ⊥
  pub few : i < 64
  pub task_is : IsTrue (is_among (map (λ (t : TaskLine). t.name) (flat_map task_of before)) task)
  pub type_is : IsTrue (is_among (map (λ (p : Program). p.name) programs) type)
  pub found : find (λ (p : Program). is_named type p.name) programs ≡ Some p

-- binds in an instance
pub binds_in_use : (programs : List Program) (i m : ℕ) (before : List Item) (name task type : List ℕ) (p : Program) → IsTyped programs i before name task type p
    → Lifts (key_word key.Program ∷ token.Name name ∷ key_word key.With ∷ token.Name task ∷ mark_word Colon ∷ token.Name type ∷ mark_word Open ∷ []) (judged_in_parentheses (variables p) m) Fits (judged_use programs i m before) (λ (u : Use). Unit {0})
unfolding judged_use
binds_in_use programs i m before name task type p is = λ bs fits.
    let end : List Judged = sound (mark_word Semicolon) ∷ [] in
    let tasked : Judged = known_name (map (λ (t : TaskLine). t.name) (flat_map task_of before)) task in
    let typed : Judged = known_name (map (λ (p : Program). p.name) programs) type in
    let bound : List Judged = judged_binds (variables_named programs type) m (Some bs) ++ end in (
      record { instance = name; task = task; program = type; binds = Some (vec_of bs fits); lines = vec_of [] (omega arith) },
      end,
      ap (λ (j : Judged). sound (key_word key.Program) ∷ j ∷ sound (key_word key.With) ∷ tasked ∷ sound (mark_word Colon) ∷ typed ∷ bound) (new_sound (map (λ (v : Use). v.instance) (flat_map use_of before)) i 64 name is.new is.few)
          ∙ ap (λ (j : Judged). sound (key_word key.Program) ∷ sound (token.Name name) ∷ sound (key_word key.With) ∷ j ∷ sound (mark_word Colon) ∷ typed ∷ bound) (known_sound (map (λ (t : TaskLine). t.name) (flat_map task_of before)) task is.task_is)
          ∙ ap (λ (j : Judged). sound (key_word key.Program) ∷ sound (token.Name name) ∷ sound (key_word key.With) ∷ sound (token.Name task) ∷ sound (mark_word Colon) ∷ j ∷ bound) (known_sound (map (λ (p : Program). p.name) programs) type is.type_is)
          ∙ ap (λ (o : Option Program). sound (key_word key.Program) ∷ sound (token.Name name) ∷ sound (key_word key.With) ∷ sound (token.Name task) ∷ sound (mark_word Colon) ∷ sound (token.Name type) ∷ (judged_binds (variables_found o) m (Some bs) ++ end)) is.found,
      tt,
    )

-- an instance, or a task, as a line
pub use_in_item : (programs : List Program) (i m : ℕ) (before : List Item)
    → Lifts [] (judged_use programs i m before) (λ (u : Use). Unit {0}) (judged_item programs i m before) IsItemFormed
use_in_item programs i m before = λ u any. (
  item.Use u,
  [],
  sym (append-nil (judged_use programs i m before u)),
  All-nil (λ (t : TaskLine). 0 < t.interval),
)

pub task_in_item : (programs : List Program) (i m : ℕ) (before : List Item)
    → Lifts [] (judged_task (flat_map task_of before)) (λ (t : TaskLine). 0 < t.interval) (judged_item programs i m before) IsItemFormed
task_in_item programs i m before = λ t positive. (
  item.Task t,
  [],
  sym (append-nil (judged_task (flat_map task_of before) t)),
  All-cons (λ (t : TaskLine). 0 < t.interval) t [] positive (All-nil (λ (t : TaskLine). 0 < t.interval)),
)

-- a line behind others of its resource
pub item_in_items : (programs : List Program) (i m : ℕ) (xs : List Item) → AreNamesApart (map (λ (p : Program). p.name) programs) → AreItemsLawfulBehind i m programs xs → Fits (flat_map item_words xs)
    → Lifts (flat_map item_words xs) (item_behind programs i m xs) IsItemFormed (judged_items programs i m) AreItemsFormed
item_in_items programs i m xs apart lawful fits = λ x formed. (
  xs ++ x ∷ [],
  sound (key_word key.EndResource) ∷ [],
  in_order_last (item_behind programs i m) item_words xs x (sound (key_word key.EndResource) ∷ []) (each_item_sound programs i m xs apart lawful),
  (
    subst (All (λ (t : TaskLine). 0 < t.interval)) (sym (flat_map-push task_of xs x)) (All-append (λ (t : TaskLine). 0 < t.interval) (flat_map task_of xs) (task_of x) lawful.0.intervals formed),
    one_more_fits item_words item_long xs x fits,
  ),
)

-- lines in a resource
pub items_in_resource : (programs : List Program) (i m : ℕ) (before : List Resource) (n node : List ℕ) → (IsTrue (is_among (map (λ (q : Resource). q.name) before) n) → ⊥) → length before < 16
    → Lifts (key_word key.Resource ∷ token.Name n ∷ key_word key.On ∷ token.Name node ∷ []) (judged_items programs i m) AreItemsFormed (judged_resource programs i m before) IsResourceWellFormed
unfolding judged_resource
items_in_resource programs i m before n node new few = λ xs formed. (
  record { name = n; node = node; items = vec_of xs formed.1 },
  [],
  ap (λ (j : Judged). sound (key_word key.Resource) ∷ j ∷ sound (key_word key.On) ∷ sound (token.Name node) ∷ judged_items programs i m xs) (new_sound (map (λ (q : Resource). q.name) before) (length before) 16 n new few)
      ∙ ap (λ (a : List Judged). sound (key_word key.Resource) ∷ sound (token.Name n) ∷ sound (key_word key.On) ∷ sound (token.Name node) ∷ a) (sym (append-nil (judged_items programs i m xs))),
  formed.0,
)

-- a resource behind others
pub resource_in_resources : (programs : List Program) (i m : ℕ) (rs : List Resource) → AreNamesApart (map (λ (p : Program). p.name) programs) → AreResourcesLawfulBehind i m programs rs
    → Lifts (flat_map resource_words rs) (judged_resource programs (i + length (flat_map uses_of rs)) (m + length (flat_map binds_of (flat_map uses_of rs))) rs) IsResourceWellFormed (judged_resources_behind programs i m) AreResourcesFormed
resource_in_resources programs i m rs apart lawful = λ r formed. (
  rs ++ r ∷ [],
  sound (key_word key.EndConfiguration) ∷ [],
  in_order_last (λ before r. judged_resource programs (i + length (flat_map uses_of before)) (m + length (flat_map binds_of (flat_map uses_of before))) before r) resource_words rs r (sound (key_word key.EndConfiguration) ∷ []) (each_resource_sound programs i m rs apart lawful),
  (omega (arith, length-append rs (r ∷ [])), All-push IsResourceWellFormed rs r (formed_resources (programs_alone programs) rs lawful.0.lawful) formed),
)

-- resources behind nothing
none_before : (n : ℕ) → n ≡ 0 + n
none_before n = omega arith

pub from_nothing : (ps : List Program) (rs : List Resource)
    → in_order (λ before r. judged_resource ps (length (flat_map uses_of before)) (length (flat_map binds_of (flat_map uses_of before))) before r) [] rs ++ sound (key_word key.EndConfiguration) ∷ [] ≡ judged_resources_behind ps 0 0 rs
from_nothing ps rs = λ i.
    in_order (λ before r. judged_resource ps (none_before (length (flat_map uses_of before)) i) (none_before (length (flat_map binds_of (flat_map uses_of before))) i) before r) [] rs ++ sound (key_word key.EndConfiguration) ∷ []

-- resources in a plant
pub resources_in_tree : (ps : List Program) (n : List ℕ) → AreProgramsDeclared ps
    → Lifts (flat_map program_words ps ++ key_word key.Configuration ∷ token.Name n ∷ []) (judged_resources_behind ps 0 0) AreResourcesFormed judged_of IsTreeWellFormed
unfolding judged_of
resources_in_tree ps n declared = λ rs formed.
    let named : List Token = key_word key.Configuration ∷ token.Name n ∷ [] in
    let rest : List Judged = judged_resources_behind ps 0 0 rs in (
      record { programs = ps; name = n; resources = rs },
      [],
      ap (λ (a : List Judged). in_order judged_program [] ps ++ (sounds named ++ a)) (from_nothing ps rs)
          ∙ ap (λ (a : List Judged). a ++ (sounds named ++ rest)) (in_order_sound judged_program program_words [] ps (each_program_sound ps declared))
          ∙ sym (append_assoc (sounds (flat_map program_words ps)) (sounds named) rest)
          ∙ ap (λ (a : List Judged). a ++ rest) (sym (sounds_both (flat_map program_words ps) named))
          ∙ ap (λ (a : List Judged). sounds (flat_map program_words ps ++ named) ++ a) (sym (append-nil rest)),
      record { programs = lawful_formed ps declared; some_resource = formed.0; resources = formed.1 },
    )
