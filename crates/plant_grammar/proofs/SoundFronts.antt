-- Words that were read up to one that the grammar doesn't have there begin something, and have no fault.
use Rattle.std.proofs.Common.{◌≡◌, ℕ, ◌+◌, ◌<◌, ◌≤◌, IsTrue, List, [], ◌∷◌, ◌++◌, length, map, Option, Some, None, refl, sym, ap, subst, ◌∙◌, append_assoc, arith}
use Rattle.std.specs.Prelude.{All, Any}
use Rattle.std.specs.Global.{Vec}
use Rattle.std.specs.List.{flat_map, find}
use Rattle.std.proofs.lemmas.List.{append-nil, append_cancel_right, length-append}
use Rattle.std.proofs.lemmas.List.Elements.{All-nil, All-cons}
use Rattle.lists.specs.Items.{items_or_none}
use Rattle.declared_names.specs.declared.declarations.Kind.{Kind}
use Rattle.declared_names.specs.declared.declarations.Kind.TheVariants as value
use Rattle.declared_names.specs.declared.declarations.Declaration.{Declaration}
use Rattle.plant_text.specs.declared.token.Token.{Token}
use Rattle.plant_text.specs.declared.token.Token.TheVariants as token
use Rattle.plant_text.specs.declared.token.Keyword.TheVariants as key
use Rattle.plant_text.specs.declared.token.Punctuation.TheVariants.{Open, Close, Colon, Semicolon, Comma, Assign}
use Rattle.plant_grammar.specs.declared.grammar.tree.Section.{Section}
use Rattle.plant_grammar.specs.declared.grammar.tree.Section.TheVariants as section
use Rattle.plant_grammar.specs.declared.grammar.tree.TypeName.{TypeName}
use Rattle.plant_grammar.specs.declared.grammar.tree.TypeName.TheVariants.{Elementary}
use Rattle.plant_grammar.specs.declared.grammar.tree.NameList.{NameList}
use Rattle.plant_grammar.specs.declared.grammar.tree.VarBlock.{VarBlock}
use Rattle.plant_grammar.specs.declared.grammar.tree.Program.{Program}
use Rattle.plant_grammar.specs.declared.grammar.tree.Order.{Order}
use Rattle.plant_grammar.specs.declared.grammar.tree.Order.TheVariants.{IntervalFirst}
use Rattle.plant_grammar.specs.declared.grammar.tree.TaskLine.{TaskLine}
use Rattle.plant_grammar.specs.declared.grammar.tree.SourceName.{SourceName}
use Rattle.plant_grammar.specs.declared.grammar.tree.SourceName.TheVariants as source
use Rattle.plant_grammar.specs.declared.grammar.tree.Bind.{Bind}
use Rattle.plant_grammar.specs.declared.grammar.tree.Use.{Use}
use Rattle.plant_grammar.specs.declared.grammar.tree.Item.{Item}
use Rattle.plant_grammar.specs.declared.grammar.tree.Resource.{Resource}
use Rattle.plant_grammar.specs.Grammar.{item_words, resource_words, key_word, mark_word, type_word, name_words, list_words, block_words, program_words, settings, task_words, bind_words, with_commas, binds_words, binds_listed}
use Rattle.plant_grammar.specs.JudgedWords.{Judged, sound, sounds, is_among, new_name, known_name, judged_source, judged_type}
use Rattle.plant_grammar.specs.Kinds.{input_kind_of, IsOfInputKind}
use Rattle.plant_grammar.specs.Names.{is_named, AreNamesApart}
use Rattle.plant_grammar.specs.Lawful.{block_variables, variables, AreVariables, MayBeDeclared, IsTypeLawful, IsBlockLawful, IsProgramLawful, AreProgramsDeclared, task_of, use_of, uses_of, binds_of, programs_alone, AreItemsLawful, AreResourcesLawful}
use Rattle.plant_grammar.specs.WellFormed.{HasNames, IsBlockWellFormed, IsProgramWellFormed, IsResourceWellFormed, IsTreeWellFormed}
use Rattle.plant_grammar.specs.NameFaults.{judged_variable, judged_list, judged_block, judged_program, judged_task, judged_bind, judged_binds, variables_found, variables_named, judged_use, judged_item, judged_resource, judged_of}
use Rattle.plant_grammar.specs.Steps.NamesRead.{IsNew, name_and_comma, bind_and_comma, AreBindsLawful}
use Rattle.plant_grammar.specs.Steps.ReadParts.{TallyValue, with_instance, with_binds, tally_with}
use Rattle.plant_grammar.specs.Steps.SoundWords.{Fits, BeginsSound, BeginWords, BeginsOutput, end_words, judged_names, AreNamesFormed, ListedFit, bind_behind, judged_in_parentheses, IsItemFormed, item_behind, judged_items, AreItemsFormed, judged_resources_behind, AreResourcesFormed}
use Rattle.plant_grammar.proofs.RefusedNames.{names_and_commas, binds_and_commas}
use Rattle.plant_grammar.proofs.Apart.{apart_none}
use Rattle.plant_grammar.proofs.FaultyParts.{found_among}
use Rattle.plant_grammar.proofs.WalkedPrograms.{lawful_program_formed}
use Rattle.plant_grammar.proofs.JudgedParts.{among_taken, sounds_both, listed_last, listed_sound, new_sound, known_sound}
use Rattle.plant_grammar.proofs.SoundParts.{variables_sound, list_sound, program_sound, task_sound, input_sound, binds_sound, each_bind_sound, not_among}
use Rattle.plant_grammar.proofs.LiftedWords.{vec_of, Lifts, lift_sound, empty_resource, IsTyped, bind_in_binds, item_in_items, resource_in_resources, program_in_tree, resources_in_tree}

-- one begins with no words
pub begins_none : {A : Type 0} (judge : A → List Judged) (P : A → Type 0) (x : A) → P x → BeginsSound judge P []
begins_none judge P x h = λ fits. (x, judge x, refl, h)

-- one begins with the front of words that it begins with
pub begins_front : {A : Type 0} (judge : A → List Judged) (P : A → Type 0) (x : A) (words front back : List Token) (more : List Judged) → judge x ≡ sounds words ++ more → words ≡ front ++ back → P x → BeginsSound judge P front
begins_front judge P x words front back more is parts h = λ fits. (
  x,
  sounds back ++ more,
  is ∙ ap (λ (ws : List Token). sounds ws ++ more) parts ∙ ap (λ (a : List Judged). a ++ more) (sounds_both front back) ∙ append_assoc (sounds front) (sounds back) more,
  h,
)

-- so it is where all its words have no fault
pub sound_front : {A : Type 0} (judge : A → List Judged) (P : A → Type 0) (x : A) (words front back : List Token) → judge x ≡ sounds words → words ≡ front ++ back → P x → BeginsSound judge P front
sound_front judge P x words front back is parts h = λ fits. (x, sounds back, is ∙ ap sounds parts ∙ sounds_both front back, h)

-- a list that begins with a name
pub first_name_sound : (ds : List Declaration) → BeginsSound (judged_names ds) AreNamesFormed []
first_name_sound ds = begins_none (judged_names ds) AreNamesFormed ([] ∷ []) (omega arith, omega arith)

-- a name behind others and a comma
pub next_name_sound : (ds : List Declaration) (names : List (List ℕ)) → 0 < length names → MayBeDeclared ds names → BeginsSound (judged_names ds) AreNamesFormed (name_words names ++ mark_word Comma ∷ [])
next_name_sound ds names some may = λ fits.
    let all : List (List ℕ) = names ++ [] ∷ [] in
    let words : flat_map name_and_comma names ≡ name_words names ++ mark_word Comma ∷ [] = sym (names_and_commas names [] some ∙ append-nil (flat_map name_and_comma names)) in (
      all,
      judged_variable ds names [],
      listed_last (judged_variable ds) (λ (n : List ℕ). token.Name n ∷ []) [] names [] (variables_sound ds names may) ∙ ap (λ (ws : List Token). sounds ws ++ judged_variable ds names []) words,
      (omega (arith, length-append names ([] ∷ [])), omega (arith, may.1, length-append names ([] ∷ []))),
    )

-- names in a list
pub names_in_list : (s : Section) (ds : List Declaration) → Lifts [] (judged_names ds) AreNamesFormed (judged_list s ds) HasNames
unfolding judged_list
names_in_list s ds = λ names formed. (
  record { names = vec_of names formed.1; type_name = Elementary value.Bool },
  sound (mark_word Colon) ∷ judged_type s (Elementary value.Bool) ∷ sound (mark_word Semicolon) ∷ [],
  refl,
  formed.0,
)

pub names_of_list : (s : Section) (ds : List Declaration) (words : List Token) → BeginsSound (judged_names ds) AreNamesFormed words → BeginsSound (judged_list s ds) HasNames words
names_of_list s ds words b = lift_sound [] words (judged_names ds) AreNamesFormed (judged_list s ds) HasNames (λ fits. names_in_list s ds) b

-- the words of a list, up to a part of it
pub names_front : (s : Section) (ds : List Declaration) (names : Vec (List ℕ)) → 0 < length names.items → MayBeDeclared ds names.items → BeginsSound (judged_list s ds) HasNames (name_words names.items ++ [])
unfolding list_words
names_front s ds names some may =
    let l : NameList = record { names = names; type_name = Elementary value.Bool } in
    let rest : List Token = mark_word Colon ∷ type_word (Elementary value.Bool) ∷ mark_word Semicolon ∷ [] in
    sound_front (judged_list s ds) HasNames l (list_words l) (name_words names.items ++ []) rest (list_sound s ds l (bool_lawful s) may) (ap (λ (ws : List Token). ws ++ rest) (sym (append-nil (name_words names.items)))) some
  where
    bool_lawful : (s : Section) → IsTypeLawful s (Elementary value.Bool)
    bool_lawful section.Input = tt
    bool_lawful section.Output = tt
    bool_lawful section.Local = tt
    bool_lawful section.Retained = tt

pub colon_front : (s : Section) (ds : List Declaration) (names : Vec (List ℕ)) → 0 < length names.items → MayBeDeclared ds names.items → BeginsSound (judged_list s ds) HasNames (name_words names.items ++ mark_word Colon ∷ [])
unfolding list_words
colon_front s ds names some may =
    let l : NameList = record { names = names; type_name = Elementary value.Bool } in
    let rest : List Token = type_word (Elementary value.Bool) ∷ mark_word Semicolon ∷ [] in
    sound_front (judged_list s ds) HasNames l (list_words l) (name_words names.items ++ mark_word Colon ∷ []) rest (list_sound s ds l (bool_lawful s) may) (sym (append_assoc (name_words names.items) (mark_word Colon ∷ []) rest)) some
  where
    bool_lawful : (s : Section) → IsTypeLawful s (Elementary value.Bool)
    bool_lawful section.Input = tt
    bool_lawful section.Output = tt
    bool_lawful section.Local = tt
    bool_lawful section.Retained = tt

pub type_front : (s : Section) (ds : List Declaration) (names : Vec (List ℕ)) (t : TypeName) → 0 < length names.items → MayBeDeclared ds names.items → IsTypeLawful s t → BeginsSound (judged_list s ds) HasNames (name_words names.items ++ mark_word Colon ∷ type_word t ∷ [])
unfolding list_words
type_front s ds names t some may lawful =
    let l : NameList = record { names = names; type_name = t } in
    let rest : List Token = mark_word Semicolon ∷ [] in
    sound_front (judged_list s ds) HasNames l (list_words l) (name_words names.items ++ mark_word Colon ∷ type_word t ∷ []) rest (list_sound s ds l lawful may) (sym (append_assoc (name_words names.items) (mark_word Colon ∷ type_word t ∷ []) rest)) some

-- a block of no words yet
pub no_block_words : (ds : List Declaration) → BeginsSound (judged_block ds) IsBlockWellFormed []
no_block_words ds = begins_none (judged_block ds) IsBlockWellFormed (record { section = section.Input; lists = vec_of [] (omega arith) }) (All-nil HasNames)

-- a program of no words yet, and one up to PROGRAM
abbrev pub empty_program : Program
empty_program = record { name = []; blocks = vec_of [] (omega arith); body = [] }

pub no_program_words : (before : List Program) → BeginsSound (judged_program before) IsProgramWellFormed []
no_program_words before = begins_none (judged_program before) IsProgramWellFormed empty_program (All-nil IsBlockWellFormed)

pub program_begun : (before : List Program) → BeginsSound (judged_program before) IsProgramWellFormed (key_word key.Program ∷ [])
unfolding judged_program
program_begun before = λ fits. (
  empty_program,
  new_name (map (λ (q : Program). q.name) before) (length before) 64 [] ∷ sounds (token.Body [] ∷ key_word key.EndProgram ∷ []),
  refl,
  All-nil IsBlockWellFormed,
)

-- a program up to a word of its end
pub program_end_front : (before : List Program) (n : List ℕ) (blocks : Vec VarBlock) (front : List Token) → IsNew (λ (q : Program). q.name) before n → length before < 64 → All IsBlockLawful blocks.items → AreVariables (flat_map block_variables blocks.items)
    → (body : List ℕ) → BeginWords (end_words body) front → BeginsSound (judged_program before) IsProgramWellFormed (key_word key.Program ∷ token.Name n ∷ (flat_map block_words blocks.items ++ front))
unfolding program_words
program_end_front before n blocks front new few lawful are body (more, e) =
    let p : Program = record { name = n; blocks = blocks; body = body } in
    let all = flat_map block_words blocks.items in
    let is : IsProgramLawful p = record { apart = are.apart; few = are.few; blocks_are = lawful } in
    sound_front (judged_program before) IsProgramWellFormed p (program_words p) (key_word key.Program ∷ token.Name n ∷ (all ++ front)) more (program_sound before p (not_among (λ (q : Program). q.name) before n new) few is)
    (ap (λ (ws : List Token). key_word key.Program ∷ token.Name n ∷ (all ++ ws)) e ∙ ap (λ (ws : List Token). key_word key.Program ∷ token.Name n ∷ ws) (sym (append_assoc all front more)))
    (lawful_program_formed p is)

-- a program behind those that were read, in words that begin with others of these
pub program_read_sound : (old read ps : List Program) (words start now : List Token) → start ≡ flat_map program_words read ++ now → flat_map program_words old ++ start ≡ flat_map program_words ps ++ now → AreProgramsDeclared ps
    → BeginsSound (judged_program ps) IsProgramWellFormed words → BeginsSound judged_of IsTreeWellFormed (flat_map program_words old ++ (flat_map program_words read ++ words))
program_read_sound old read ps words start now e both declared b =
    let some = flat_map program_words old in
    let others = flat_map program_words read in
    let same : some ++ others ≡ flat_map program_words ps =
    append_cancel_right (some ++ others) (flat_map program_words ps) now (append_assoc some others now ∙ ap (λ (ws : List Token). some ++ ws) (sym e) ∙ both) in
    subst (BeginsSound judged_of IsTreeWellFormed) (ap (λ (ws : List Token). ws ++ words) (sym same) ∙ append_assoc some others words)
    (lift_sound (flat_map program_words ps) words (judged_program ps) IsProgramWellFormed judged_of IsTreeWellFormed (λ fits. program_in_tree ps declared) b)

-- a task of no words yet, one up to TASK, and one up to a word behind its name
pub no_task_words : (before : List TaskLine) → BeginsSound (judged_task before) (λ (t : TaskLine). 0 < t.interval) []
no_task_words before = begins_none (judged_task before) (λ (t : TaskLine). 0 < t.interval) (record { name = []; order = IntervalFirst; interval = 1; priority = 0 }) (omega arith)

pub task_begun : (before : List TaskLine) → BeginsSound (judged_task before) (λ (t : TaskLine). 0 < t.interval) (key_word key.Task ∷ [])
unfolding judged_task
task_begun before = λ fits. (
  record { name = []; order = IntervalFirst; interval = 1; priority = 0 },
  new_name (map (λ (u : TaskLine). u.name) before) (length before) 16 [] ∷ sounds (mark_word Open ∷ settings IntervalFirst 1 0 ++ mark_word Close ∷ mark_word Semicolon ∷ []),
  refl,
  omega arith,
)

pub task_front : (before : List TaskLine) (n : List ℕ) (o : Order) (i p : ℕ) (front back : List Token) → IsNew (λ (u : TaskLine). u.name) before n → length before < 16 → 0 < i
    → mark_word Open ∷ settings o i p ++ mark_word Close ∷ mark_word Semicolon ∷ [] ≡ front ++ back → BeginsSound (judged_task before) (λ (t : TaskLine). 0 < t.interval) (key_word key.Task ∷ token.Name n ∷ front)
unfolding task_words
task_front before n o i p front back new few positive e =
    let t : TaskLine = record { name = n; order = o; interval = i; priority = p } in
    sound_front (judged_task before) (λ (t : TaskLine). 0 < t.interval) t (task_words t) (key_word key.Task ∷ token.Name n ∷ front) back (task_sound before t (not_among (λ (u : TaskLine). u.name) before n new) few)
    (ap (λ (ws : List Token). key_word key.Task ∷ token.Name n ∷ ws) e) positive

-- an output begins a source of any kind
pub output_of_source : (k : Option Kind) (words : List Token) → BeginsOutput words → BeginsSound (judged_source k) (λ (s : SourceName). Unit {0}) words
output_of_source k words (r, i, o, (more, e)) = λ fits. (source.Output r i o, sounds more, ap sounds e ∙ sounds_both words more, tt)

-- a bind of no words yet, one up to a word behind its input, and one up to a word of its source
pub no_bind_words : (ds : List Declaration) (n : ℕ) (before : List Bind) → BeginsSound (judged_bind ds n before) (λ (b : Bind). Unit {0}) []
no_bind_words ds n before = begins_none (judged_bind ds n before) (λ (b : Bind). Unit {0}) (record { input = []; source = source.Output [] [] [] }) tt

pub source_of_bind : (ds : List Declaration) (n : ℕ) (before : List Bind) (input : List ℕ) (k : Kind) (words : List Token) → input_kind_of ds input ≡ Some k → IsNew (λ (b : Bind). b.input) before input → n < 4096
    → BeginsSound (judged_source (Some k)) (λ (s : SourceName). Unit {0}) words → BeginsSound (judged_bind ds n before) (λ (b : Bind). Unit {0}) (token.Name input ∷ mark_word Assign ∷ words)
unfolding judged_bind
source_of_bind ds n before input k words is new few b = λ fits.
    let s = b (omega (arith, fits)) in (
      record { input = input; source = s.0 },
      s.1,
      ap (λ (j : Judged). j ∷ sound (mark_word Assign) ∷ judged_source (input_kind_of ds input) s.0) (input_sound ds before n input k is (not_among (λ (b : Bind). b.input) before input new) few)
          ∙ ap (λ (o : Option Kind). sound (token.Name input) ∷ sound (mark_word Assign) ∷ judged_source o s.0) is
          ∙ ap (λ (a : List Judged). sound (token.Name input) ∷ sound (mark_word Assign) ∷ a) s.2,
      tt,
    )

pub input_of_bind : (ds : List Declaration) (n : ℕ) (before : List Bind) (input : List ℕ) (k : Kind) → input_kind_of ds input ≡ Some k → IsNew (λ (b : Bind). b.input) before input → n < 4096
    → BeginsSound (judged_bind ds n before) (λ (b : Bind). Unit {0}) (token.Name input ∷ [])
unfolding judged_bind
input_of_bind ds n before input k is new few = λ fits.
    let s = source.Output [] [] [] in
    let behind : List Judged = sound (mark_word Assign) ∷ judged_source (input_kind_of ds input) s in (
      record { input = input; source = s },
      behind,
      ap (λ (j : Judged). j ∷ behind) (input_sound ds before n input k is (not_among (λ (b : Bind). b.input) before input new) few),
      tt,
    )

-- binds up to the parenthesis that closes them, and those of an instance behind the one that opens them
pub binds_front : (ds : List Declaration) (n : ℕ) (bs : List Bind) → Fits bs → AreBindsLawful n ds bs → BeginsSound (judged_in_parentheses ds n) Fits (with_commas bs)
binds_front ds n bs few lawful = λ fits. (
  bs,
  sound (mark_word Close) ∷ [],
  ap (λ (a : List Judged). a ++ sound (mark_word Close) ∷ []) (listed_sound (λ before b. judged_bind ds (n + length before) before b) bind_words with_commas refl (λ b. refl) (λ b c cs. refl) [] bs (each_bind_sound ds n bs lawful)),
  few,
)

pub listed_front : (ds : List Declaration) (n : ℕ) (words : List Token) → BeginsSound (judged_in_parentheses ds n) Fits words → BeginsSound (judged_binds ds n) ListedFit (mark_word Open ∷ words)
listed_front ds n words b = λ fits.
    let s = b (omega (arith, fits)) in
    (Some s.0, s.1, ap (λ (a : List Judged). sound (mark_word Open) ∷ a) s.2, s.3)

-- an instance up to a word of its rule; there is none yet of its words
abbrev pub empty_use : List ℕ → List ℕ → Use
empty_use name task = record { instance = name; task = task; program = []; binds = None; lines = vec_of [] (omega arith) }

abbrev pub IsAnyUse : Use → Type 0
IsAnyUse u = Unit {0}

pub use_begun : (programs : List Program) (i m : ℕ) (before : List Item) (front : List Token) → BeginWords (key_word key.Program ∷ []) front → BeginsSound (judged_use programs i m before) IsAnyUse front
unfolding judged_use
use_begun programs i m before front (more, e) =
    begins_front (judged_use programs i m before) IsAnyUse (empty_use [] []) (key_word key.Program ∷ []) front more
    (new_name (map (λ (v : Use). v.instance) (flat_map use_of before)) i 64 [] ∷ sound (key_word key.With) ∷ known_name (map (λ (t : TaskLine). t.name) (flat_map task_of before)) []
    ∷ sound (mark_word Colon) ∷ known_name (map (λ (p : Program). p.name) programs) [] ∷ sound (mark_word Semicolon) ∷ []) refl e tt

pub use_named : (programs : List Program) (i m : ℕ) (before : List Item) (front : List Token) (n : List ℕ) → IsNew (λ (v : Use). v.instance) (flat_map use_of before) n → i < 64 → BeginWords (key_word key.With ∷ []) front
    → BeginsSound (judged_use programs i m before) IsAnyUse (key_word key.Program ∷ token.Name n ∷ front)
unfolding judged_use
use_named programs i m before front n new few (more, e) =
    let rest : List Judged = known_name (map (λ (t : TaskLine). t.name) (flat_map task_of before)) [] ∷ sound (mark_word Colon) ∷ known_name (map (λ (p : Program). p.name) programs) [] ∷ sound (mark_word Semicolon) ∷ [] in
    begins_front (judged_use programs i m before) IsAnyUse (empty_use n []) (key_word key.Program ∷ token.Name n ∷ key_word key.With ∷ []) (key_word key.Program ∷ token.Name n ∷ front) more rest
    (ap (λ (j : Judged). sound (key_word key.Program) ∷ j ∷ sound (key_word key.With) ∷ rest) (new_sound (map (λ (v : Use). v.instance) (flat_map use_of before)) i 64 n (not_among (λ (v : Use). v.instance) (flat_map use_of before) n new) few))
    (ap (λ (ws : List Token). key_word key.Program ∷ token.Name n ∷ ws) e) tt

pub use_tasked_front : (programs : List Program) (i m : ℕ) (before : List Item) (front : List Token) (n t : List ℕ) → IsNew (λ (v : Use). v.instance) (flat_map use_of before) n → i < 64 → IsTrue (is_among (map (λ (t : TaskLine). t.name) (flat_map task_of before)) t)
    → BeginWords (mark_word Colon ∷ []) front → BeginsSound (judged_use programs i m before) IsAnyUse (key_word key.Program ∷ token.Name n ∷ key_word key.With ∷ token.Name t ∷ front)
unfolding judged_use
use_tasked_front programs i m before front n t new few known (more, e) =
    let tasks : List (List ℕ) = map (λ (t : TaskLine). t.name) (flat_map task_of before) in
    let rest : List Judged = known_name (map (λ (p : Program). p.name) programs) [] ∷ sound (mark_word Semicolon) ∷ [] in
    begins_front (judged_use programs i m before) IsAnyUse (empty_use n t) (key_word key.Program ∷ token.Name n ∷ key_word key.With ∷ token.Name t ∷ mark_word Colon ∷ []) (key_word key.Program ∷ token.Name n ∷ key_word key.With ∷ token.Name t ∷ front) more rest
    (ap (λ (j : Judged). sound (key_word key.Program) ∷ j ∷ sound (key_word key.With) ∷ known_name tasks t ∷ sound (mark_word Colon) ∷ rest) (new_sound (map (λ (v : Use). v.instance) (flat_map use_of before)) i 64 n (not_among (λ (v : Use). v.instance) (flat_map use_of before) n new) few)
    ∙ ap (λ (j : Judged). sound (key_word key.Program) ∷ sound (token.Name n) ∷ sound (key_word key.With) ∷ j ∷ sound (mark_word Colon) ∷ rest) (known_sound tasks t known))
    (ap (λ (ws : List Token). key_word key.Program ∷ token.Name n ∷ key_word key.With ∷ token.Name t ∷ ws) e) tt

-- the words of an instance up to its type
abbrev pub typed_words : List ℕ → List ℕ → List ℕ → List Token → List Token
typed_words n t p front = key_word key.Program ∷ token.Name n ∷ key_word key.With ∷ token.Name t ∷ mark_word Colon ∷ token.Name p ∷ front

typed_judged : (programs : List Program) (i m : ℕ) (before : List Item) (u : Use) (p : Program) → IsTyped programs i before u.instance u.task u.program p
    → judged_use programs i m before u ≡ sounds (typed_words u.instance u.task u.program []) ++ (judged_binds (variables p) m (binds_listed u.binds) ++ sound (mark_word Semicolon) ∷ [])
unfolding judged_use
typed_judged programs i m before u p is =
    let tasks : List (List ℕ) = map (λ (t : TaskLine). t.name) (flat_map task_of before) in
    let types : List (List ℕ) = map (λ (p : Program). p.name) programs in
    let end : List Judged = sound (mark_word Semicolon) ∷ [] in
    let bound : List Judged = judged_binds (variables_named programs u.program) m (binds_listed u.binds) ++ end in
    ap (λ (j : Judged). sound (key_word key.Program) ∷ j ∷ sound (key_word key.With) ∷ known_name tasks u.task ∷ sound (mark_word Colon) ∷ known_name types u.program ∷ bound) (new_sound (map (λ (v : Use). v.instance) (flat_map use_of before)) i 64 u.instance is.new is.few)
    ∙ ap (λ (j : Judged). sound (key_word key.Program) ∷ sound (token.Name u.instance) ∷ sound (key_word key.With) ∷ j ∷ sound (mark_word Colon) ∷ known_name types u.program ∷ bound) (known_sound tasks u.task is.task_is)
    ∙ ap (λ (j : Judged). sound (key_word key.Program) ∷ sound (token.Name u.instance) ∷ sound (key_word key.With) ∷ sound (token.Name u.task) ∷ sound (mark_word Colon) ∷ j ∷ bound) (known_sound types u.program is.type_is)
    ∙ ap (λ (o : Option Program). sounds (typed_words u.instance u.task u.program []) ++ (judged_binds (variables_found o) m (binds_listed u.binds) ++ end)) is.found

-- an instance up to a word of its binds
pub use_bound_front : (programs : List Program) (i m : ℕ) (before : List Item) (n t type : List ℕ) (p : Program) (front : List Token) → IsTyped programs i before n t type p
    → BeginsSound (judged_binds (variables p) m) ListedFit front → BeginsSound (judged_use programs i m before) IsAnyUse (typed_words n t type front)
use_bound_front programs i m before n t type p front is b = λ fits. go (b (omega (arith, fits)))
  where
    with_binds : (bs : Option (Vec Bind)) (more : List Judged) → judged_binds (variables p) m (binds_listed bs) ≡ sounds front ++ more
        → (u : Use) × (rest : List Judged) × (judged_use programs i m before u ≡ sounds (typed_words n t type front) ++ rest) × IsAnyUse u
    with_binds bs more e =
        let u : Use = record { instance = n; task = t; program = type; binds = bs; lines = vec_of [] (omega arith) } in
        let end : List Judged = sound (mark_word Semicolon) ∷ [] in (
          u,
          more ++ end,
          typed_judged programs i m before u p is ∙ ap (λ (a : List Judged). sounds (typed_words n t type []) ++ a) (ap (λ (a : List Judged). a ++ end) e ∙ append_assoc (sounds front) more end),
          tt,
        )

    go : (bs : Option (List Bind)) × (more : List Judged) × (judged_binds (variables p) m bs ≡ sounds front ++ more) × ListedFit bs
        → (u : Use) × (rest : List Judged) × (judged_use programs i m before u ≡ sounds (typed_words n t type front) ++ rest) × IsAnyUse u
    go (None, more, e, few) = with_binds None more e
    go (Some bs, more, e, few) = with_binds (Some (vec_of bs few)) more e

-- an instance with its binds
pub use_whole_front : (programs : List Program) (i m : ℕ) (before : List Item) (n t type : List ℕ) (p : Program) (bs : Option (Vec Bind)) → IsTyped programs i before n t type p
    → AreBindsLawful m (variables p) (items_or_none (binds_listed bs)) → BeginsSound (judged_use programs i m before) IsAnyUse (typed_words n t type (binds_words (binds_listed bs)))
use_whole_front programs i m before n t type p bs is lawful = λ fits.
    let u : Use = record { instance = n; task = t; program = type; binds = bs; lines = vec_of [] (omega arith) } in
    let end : List Judged = sound (mark_word Semicolon) ∷ [] in (
      u,
      end,
      typed_judged programs i m before u p is ∙ ap (λ (a : List Judged). sounds (typed_words n t type []) ++ (a ++ end)) (binds_sound (variables p) m (binds_listed bs) lawful),
      tt,
    )

-- a resource of no words yet, one up to RESOURCE, and one up to ON or its node
abbrev pub named_resource : List ℕ → Resource
named_resource n = record { name = n; node = []; items = vec_of [] (omega arith) }

pub no_resource_words : (programs : List Program) (i m : ℕ) (before : List Resource) → BeginsSound (judged_resource programs i m before) IsResourceWellFormed []
no_resource_words programs i m before = begins_none (judged_resource programs i m before) IsResourceWellFormed empty_resource (All-nil (λ (t : TaskLine). 0 < t.interval))

pub resource_begun : (programs : List Program) (i m : ℕ) (before : List Resource) → BeginsSound (judged_resource programs i m before) IsResourceWellFormed (key_word key.Resource ∷ [])
unfolding judged_resource
resource_begun programs i m before = λ fits. (
  empty_resource,
  new_name (map (λ (q : Resource). q.name) before) (length before) 16 [] ∷ sounds (key_word key.On ∷ token.Name [] ∷ key_word key.EndResource ∷ []),
  refl,
  All-nil (λ (t : TaskLine). 0 < t.interval),
)

pub resource_named_front : (programs : List Program) (i m : ℕ) (before : List Resource) (n : List ℕ) (front back : List Token) → IsNew (λ (q : Resource). q.name) before n → length before < 16 → key_word key.On ∷ [] ≡ front ++ back
    → BeginsSound (judged_resource programs i m before) IsResourceWellFormed (key_word key.Resource ∷ token.Name n ∷ front)
unfolding judged_resource
resource_named_front programs i m before n front back new few e =
    let rest : List Judged = sounds (token.Name [] ∷ key_word key.EndResource ∷ []) in
    begins_front (judged_resource programs i m before) IsResourceWellFormed (named_resource n) (key_word key.Resource ∷ token.Name n ∷ key_word key.On ∷ []) (key_word key.Resource ∷ token.Name n ∷ front) back rest
    (ap (λ (j : Judged). sound (key_word key.Resource) ∷ j ∷ sound (key_word key.On) ∷ rest) (new_sound (map (λ (q : Resource). q.name) before) (length before) 16 n (not_among (λ (q : Resource). q.name) before n new) few))
    (ap (λ (ws : List Token). key_word key.Resource ∷ token.Name n ∷ ws) e) (All-nil (λ (t : TaskLine). 0 < t.interval))

-- a plant up to CONFIGURATION, or behind it
pub configuration_front : (ps : List Program) (front back : List Token) → AreProgramsDeclared ps → key_word key.Configuration ∷ token.Name [] ∷ [] ≡ front ++ back → BeginsSound judged_of IsTreeWellFormed (flat_map program_words ps ++ front)
configuration_front ps front back declared e =
    let all = flat_map program_words ps in
    let named : List Token = key_word key.Configuration ∷ token.Name [] ∷ [] in
    let y = resources_in_tree ps [] declared (empty_resource ∷ []) (omega arith, All-cons IsResourceWellFormed empty_resource [] (All-nil (λ (t : TaskLine). 0 < t.interval)) (All-nil IsResourceWellFormed)) in
    begins_front judged_of IsTreeWellFormed y.0 (all ++ named) (all ++ front) back (judged_resources_behind ps 0 0 (empty_resource ∷ []) ++ y.1) y.2 (ap (λ (ws : List Token). all ++ ws) e ∙ sym (append_assoc all front back)) y.3

-- the first bind of an instance, and a further one
pub first_bind_begun : (ds : List Declaration) (m : ℕ) (words : List Token) → m ≤ 4096 → BeginsSound (judged_bind ds m []) (λ (b : Bind). Unit {0}) words → BeginsSound (judged_in_parentheses ds m) Fits words
first_bind_begun ds m words few b =
    let lawful : AreBindsLawful m ds [] = record { apart = apart_none; kinds = All-nil (IsOfInputKind ds); few = omega (arith, few) } in
    let same : m ≡ m + 0 = omega arith in
    lift_sound [] words (bind_behind ds m []) (λ (b : Bind). Unit {0}) (judged_in_parentheses ds m) Fits (λ fits. bind_in_binds ds m [] lawful) (subst (λ (j : ℕ). BeginsSound (judged_bind ds j []) (λ (b : Bind). Unit {0}) words) same b)

pub next_bind_begun : (ds : List Declaration) (n m : ℕ) (bs : List Bind) (words : List Token) → 0 < length bs → n ≡ m + length bs → AreBindsLawful m ds bs → BeginsSound (judged_bind ds n bs) (λ (b : Bind). Unit {0}) words
    → BeginsSound (judged_in_parentheses ds m) Fits (with_commas bs ++ mark_word Comma ∷ words)
next_bind_begun ds n m bs words some many lawful b =
    subst (BeginsSound (judged_in_parentheses ds m) Fits) (sym (binds_and_commas bs words some))
    (lift_sound (flat_map bind_and_comma bs) words (bind_behind ds m bs) (λ (b : Bind). Unit {0}) (judged_in_parentheses ds m) Fits (λ fits. bind_in_binds ds m bs lawful)
    (subst (λ (j : ℕ). BeginsSound (judged_bind ds j bs) (λ (b : Bind). Unit {0}) words) many b))

-- what is known of an instance read up to its type
pub typed_is : (programs : List Program) (i : ℕ) (before : List Item) (n t type : List ℕ) (p : Program) → IsNew (λ (u : Use). u.instance) (flat_map use_of before) n → i < 64 → Any (λ (t' : TaskLine). IsTrue (is_named t t'.name)) (flat_map task_of before)
    → find (λ (q : Program). is_named type q.name) programs ≡ Some p → IsTyped programs i before n t type p
typed_is programs i before n t type p new few known found = record {
  new = not_among (λ (u : Use). u.instance) (flat_map use_of before) n new;
  few = few;
  task_is = among_taken (λ (t : TaskLine). t.name) (flat_map task_of before) t known;
  type_is = found_among programs type p found;
  found = found;
}

-- the binds of an instance are no more than a plant has
pub instance_few : (old one two : TallyValue) (bs : List Bind) → one ≡ with_instance old → two ≡ with_binds one (length bs) → two.binds ≤ 4096 → old.binds + length bs ≤ 4096
instance_few old one two bs e f few =
    let first : one.binds ≡ old.binds = ap (λ (t : TallyValue). t.binds) e in
    let second : two.binds ≡ one.binds + length bs = ap (λ (t : TallyValue). t.binds) f in
    omega (arith, first, second, few)

-- a line behind others of its resource
pub line_begun : (programs : List Program) (old tally : TallyValue) (xs : List Item) (words : List Token) → AreNamesApart (map (λ (p : Program). p.name) programs) → tally ≡ tally_with old (flat_map use_of xs) → AreItemsLawful (programs_alone programs) xs
    → tally.instances ≤ 64 → tally.binds ≤ 4096 → BeginsSound (judged_item programs tally.instances tally.binds xs) IsItemFormed words → BeginsSound (judged_items programs old.instances old.binds) AreItemsFormed (flat_map item_words xs ++ words)
line_begun programs old tally xs words apart counted lawful instances binds b =
    let room = subst (λ (t : TallyValue). (t.instances ≤ 64) × (t.binds ≤ 4096)) counted (instances, binds) in
    lift_sound (flat_map item_words xs) words (item_behind programs old.instances old.binds xs) IsItemFormed (judged_items programs old.instances old.binds) AreItemsFormed (λ fits. item_in_items programs old.instances old.binds xs apart (lawful, room) fits)
    (subst (λ (t : TallyValue). BeginsSound (judged_item programs t.instances t.binds xs) IsItemFormed words) counted b)

-- a resource behind others
pub further_resource_begun : (programs : List Program) (old tally : TallyValue) (rs : List Resource) (words : List Token) → AreNamesApart (map (λ (p : Program). p.name) programs) → tally ≡ tally_with old (flat_map uses_of rs) → AreResourcesLawful (programs_alone programs) rs
    → tally.instances ≤ 64 → tally.binds ≤ 4096 → BeginsSound (judged_resource programs tally.instances tally.binds rs) IsResourceWellFormed words → BeginsSound (judged_resources_behind programs old.instances old.binds) AreResourcesFormed (flat_map resource_words rs ++ words)
further_resource_begun programs old tally rs words apart counted lawful instances binds b =
    let room = subst (λ (t : TallyValue). (t.instances ≤ 64) × (t.binds ≤ 4096)) counted (instances, binds) in
    let uses = flat_map uses_of rs in
    lift_sound (flat_map resource_words rs) words (judged_resource programs (old.instances + length uses) (old.binds + length (flat_map binds_of uses)) rs) IsResourceWellFormed (judged_resources_behind programs old.instances old.binds) AreResourcesFormed
    (λ fits. resource_in_resources programs old.instances old.binds rs apart (lawful, room)) (subst (λ (t : TallyValue). BeginsSound (judged_resource programs t.instances t.binds rs) IsResourceWellFormed words) counted b)

-- resources in a plant
pub resources_of_tree : (ps : List Program) (n : List ℕ) (tally : TallyValue) (words : List Token) → AreProgramsDeclared ps → tally ≡ record { instances = 0; binds = 0 }
    → (AreNamesApart (map (λ (p : Program). p.name) ps) → BeginsSound (judged_resources_behind ps tally.instances tally.binds) AreResourcesFormed words) → BeginsSound judged_of IsTreeWellFormed (flat_map program_words ps ++ key_word key.Configuration ∷ token.Name n ∷ words)
resources_of_tree ps n tally words declared none b =
    let all = flat_map program_words ps in
    let named : List Token = key_word key.Configuration ∷ token.Name n ∷ [] in
    subst (BeginsSound judged_of IsTreeWellFormed) (append_assoc all named words)
    (lift_sound (all ++ named) words (judged_resources_behind ps 0 0) AreResourcesFormed judged_of IsTreeWellFormed (λ fits. resources_in_tree ps n declared)
    (subst (λ (t : TallyValue). BeginsSound (judged_resources_behind ps t.instances t.binds) AreResourcesFormed words) none (b declared.apart)))
