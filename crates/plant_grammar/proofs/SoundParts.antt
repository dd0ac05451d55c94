-- What is lawful where it stands has no fault.
use Rattle.std.proofs.Common.{◌≡◌, ℕ, zero, suc, ◌+◌, ◌<◌, ◌≤◌, leb, Bool, true, false, not, cond, IsTrue, List, [], ◌∷◌, ◌++◌, length, map, get_or, Option, Some, None, is_none, refl, sym, ap, subst, ◌∙◌, append_assoc, arith}
use Rattle.std.specs.Prelude.{All, Any}
use Rattle.std.specs.List.{flat_map, find}
use Rattle.std.proofs.lemmas.Bool.{leb-true, false_from_ne_true}
use Rattle.std.proofs.lemmas.List.{append-nil, get_or-map, length-append, length-map, map-append}
use Rattle.std.proofs.lemmas.List.Concat.{flat_map-cons}
use Rattle.lists.specs.Items.{items_or_none}
use Rattle.declared_names.specs.declared.declarations.Kind.{Kind}
use Rattle.declared_names.specs.declared.declarations.Declaration.{Declaration}
use Rattle.declared_names.specs.Kinds.{kind_of_space}
use Rattle.words.specs.declared.address.Space.{Space}
use Rattle.words.specs.declared.address.Space.TheVariants.{Bit, Word}
use Rattle.plant_text.specs.declared.token.Token.{Token}
use Rattle.plant_text.specs.declared.token.Token.TheVariants as token
use Rattle.plant_text.specs.declared.token.Keyword.TheVariants as key
use Rattle.plant_text.specs.declared.token.Punctuation.TheVariants.{Open, Close, Colon, Semicolon, Assign}
use Rattle.plant_grammar.specs.declared.grammar_fault.GrammarFaultKind.TheVariants.{UnknownName, WrongKind, InputBoundTwice, TooMany}
use Rattle.plant_grammar.specs.declared.grammar.tree.Section.{Section}
use Rattle.plant_grammar.specs.declared.grammar.tree.Section.TheVariants as section
use Rattle.plant_grammar.specs.declared.grammar.tree.TypeName.{TypeName}
use Rattle.plant_grammar.specs.declared.grammar.tree.TypeName.TheVariants.{Elementary, Block}
use Rattle.plant_grammar.specs.declared.grammar.tree.NameList.{NameList}
use Rattle.plant_grammar.specs.declared.grammar.tree.VarBlock.{VarBlock}
use Rattle.plant_grammar.specs.declared.grammar.tree.Program.{Program}
use Rattle.plant_grammar.specs.declared.grammar.tree.TaskLine.{TaskLine}
use Rattle.plant_grammar.specs.declared.grammar.tree.SourceName.{SourceName}
use Rattle.plant_grammar.specs.declared.grammar.tree.SourceName.TheVariants as source
use Rattle.plant_grammar.specs.declared.grammar.tree.Bind.{Bind}
use Rattle.plant_grammar.specs.declared.grammar.tree.Use.{Use}
use Rattle.plant_grammar.specs.declared.grammar.tree.Item.{Item}
use Rattle.plant_grammar.specs.declared.grammar.tree.Item.TheVariants as item
use Rattle.plant_grammar.specs.declared.grammar.tree.Resource.{Resource}
use Rattle.plant_grammar.specs.Grammar.{key_word, mark_word, section_words, type_word, name_words, list_words, lists_words, block_words, program_words, settings, task_words, source_words, bind_words, with_commas, binds_words, binds_listed, use_words, item_words, items_words, resource_words}
use Rattle.plant_grammar.specs.JudgedWords.{Judged, sound, sounds, if_so, is_among, known_name, input_name, may_take, judged_source, judged_type}
use Rattle.plant_grammar.specs.Kinds.{input_kind_of, HasFieldKind, IsOfInputKind}
use Rattle.plant_grammar.specs.Names.{is_named, AreNamesApart}
use Rattle.plant_grammar.specs.Lawful.{list_variables, lists_variables, block_variables, variables, AreVariables, MayBeDeclared, IsTypeLawful, IsListLawful, IsBlockLawful, IsProgramLawful, AreProgramsDeclared, task_of, use_of, uses_of, binds_of, programs_alone, IsUseLawful, IsResourceLawful, MayBeCounted}
use Rattle.plant_grammar.specs.NameFaults.{judged_variable, judged_list, judged_block, judged_program, judged_task, judged_bind, judged_binds, variables_found, variables_named, judged_use, judged_item, judged_resource}
use Rattle.plant_grammar.specs.Steps.NamesRead.{IsNew, AreBindsLawful, AreItemsLawfulBehind, AreResourcesLawfulBehind}
use Rattle.plant_grammar.specs.Steps.ReadParts.{TallyValue, tally_with, MayFollow}
use Rattle.plant_grammar.specs.Steps.SameNames.{named_both}
use Rattle.plant_grammar.specs.Steps.SoundWords.{judged_names, judged_lists, judged_blocks, bind_behind, item_behind, judged_items}
use Rattle.plant_grammar.proofs.Apart.{any_with}
use Rattle.plant_grammar.proofs.WordLists.{lists_end, items_end}
use Rattle.plant_grammar.proofs.LawfulPrograms.{all_at, variables_front, may_declare, declared_with}
use Rattle.plant_grammar.proofs.LawfulResources.{room_left, pieces, may_follow, items_of_resource}
use Rattle.plant_grammar.proofs.JudgedParts.{sounds_both, AreSound, in_order_sound, listed_sound, among_taken, taken_among, none_among, new_sound, known_sound}

-- names that may be declared
pub variables_sound : (ds : List Declaration) (names : List (List ℕ)) → MayBeDeclared ds names → AreSound (judged_variable ds) (λ (n : List ℕ). token.Name n ∷ []) [] names
variables_sound ds names may = λ front n back e.
    let declared : List (List ℕ) = map (λ (d : Declaration). d.name) ds in
    let apart : AreNamesApart ((declared ++ front) ++ n ∷ back) = subst AreNamesApart (ap (λ (ns : List (List ℕ)). declared ++ ns) e ∙ sym (append_assoc declared front (n ∷ back))) may.0 in
    let long = ap length e in
    ap (λ (j : Judged). j ∷ []) (new_sound (declared ++ front) (length ds + length front) 1000 n (none_among (declared ++ front) n back apart) (omega (arith, may.1, long, length-append front (n ∷ back))))

pub names_sound : (ds : List Declaration) (names : List (List ℕ)) → MayBeDeclared ds names → judged_names ds names ≡ sounds (name_words names)
names_sound ds names may =
    listed_sound (judged_variable ds) (λ (n : List ℕ). token.Name n ∷ []) name_words refl (λ n. refl) (λ n m more. refl) [] names (variables_sound ds names may)

-- a type that its section may have
pub type_sound : (s : Section) (t : TypeName) → IsTypeLawful s t → judged_type s t ≡ sound (type_word t)
type_sound section.Input (Elementary k) lawful = refl
type_sound section.Output (Elementary k) lawful = refl
type_sound section.Local (Elementary k) lawful = refl
type_sound section.Retained (Elementary k) lawful = refl
type_sound section.Local (Block b) lawful = refl
type_sound section.Input (Block b) lawful = absurd lawful
type_sound section.Output (Block b) lawful = absurd lawful
type_sound section.Retained (Block b) lawful = absurd lawful

-- a list of a section
pub list_sound : (s : Section) (ds : List Declaration) (l : NameList) → IsTypeLawful s l.type_name → MayBeDeclared ds l.names.items → judged_list s ds l ≡ sounds (list_words l)
unfolding judged_list list_words
list_sound s ds l lawful may =
    let behind : List Token = mark_word Colon ∷ type_word l.type_name ∷ mark_word Semicolon ∷ [] in
    ap (λ (a : List Judged). a ++ sound (mark_word Colon) ∷ judged_type s l.type_name ∷ sound (mark_word Semicolon) ∷ []) (names_sound ds l.names.items may)
    ∙ ap (λ (j : Judged). sounds (name_words l.names.items) ++ sound (mark_word Colon) ∷ j ∷ sound (mark_word Semicolon) ∷ []) (type_sound s l.type_name lawful)
    ∙ sym (sounds_both (name_words l.names.items) behind)

-- lists of a section, behind these variables of their program
pub each_list_sound : (s : Section) (ds : List Declaration) (ls : List NameList) → All (IsListLawful s) ls → AreVariables (ds ++ lists_variables s ls) → AreSound (λ ms l. judged_list s (ds ++ lists_variables s ms) l) list_words [] ls
each_list_sound s ds ls lawful are = λ front l back e.
    let now = ds ++ lists_variables s front in
    let with_this = variables_front (now ++ list_variables s l) (lists_variables s back) (subst AreVariables (declared_with (list_variables s) ds now front ls front l back refl e refl) are) in
    list_sound s now l (all_at (IsListLawful s) ls front l back e lawful).type_is (may_declare s now l with_this)

pub lists_sound : (s : Section) (ds : List Declaration) (ls : List NameList) → All (IsListLawful s) ls → AreVariables (ds ++ lists_variables s ls) → judged_lists s ds ls ≡ sounds (lists_words ls)
lists_sound s ds ls lawful are =
    ap (λ (a : List Judged). a ++ sound (key_word key.EndVar) ∷ []) (in_order_sound (λ ms l. judged_list s (ds ++ lists_variables s ms) l) list_words [] ls (each_list_sound s ds ls lawful are))
    ∙ sym (ap sounds (lists_end ls) ∙ sounds_both (flat_map list_words ls) (key_word key.EndVar ∷ []))

-- blocks of a program
pub block_sound : (ds : List Declaration) (b : VarBlock) → IsBlockLawful b → AreVariables (ds ++ block_variables b) → judged_block ds b ≡ sounds (block_words b)
unfolding judged_block block_words
block_sound ds b lawful are =
    ap (λ (a : List Judged). sounds (section_words b.section) ++ a) (lists_sound b.section ds b.lists.items lawful are) ∙ sym (sounds_both (section_words b.section) (lists_words b.lists.items))

pub each_block_sound : (ds : List Declaration) (bs : List VarBlock) → All IsBlockLawful bs → AreVariables (ds ++ flat_map block_variables bs) → AreSound (λ cs b. judged_block (ds ++ flat_map block_variables cs) b) block_words [] bs
each_block_sound ds bs lawful are = λ front b back e.
    let now = ds ++ flat_map block_variables front in
    let with_this = variables_front (now ++ block_variables b) (flat_map block_variables back) (subst AreVariables (declared_with block_variables ds now front bs front b back refl e refl) are) in
    block_sound now b (all_at IsBlockLawful bs front b back e lawful) with_this

pub blocks_sound : (ds : List Declaration) (bs : List VarBlock) → All IsBlockLawful bs → AreVariables (ds ++ flat_map block_variables bs) → judged_blocks ds bs ≡ sounds (flat_map block_words bs)
blocks_sound ds bs lawful are = in_order_sound (λ cs b. judged_block (ds ++ flat_map block_variables cs) b) block_words [] bs (each_block_sound ds bs lawful are)

-- a name behind others of a list whose names are apart is new among these, and these are fewer than all
pub new_at : {A : Type 0} (name_of : A → List ℕ) (xs front : List A) (x : A) (back : List A) → xs ≡ front ++ x ∷ back → AreNamesApart (map name_of xs) → IsTrue (is_among (map name_of front) (name_of x)) → ⊥
new_at name_of xs front x back e apart = none_among (map name_of front) (name_of x) (map name_of back) (subst AreNamesApart (ap (map name_of) e ∙ map-append name_of front (x ∷ back)) apart)

pub fewer_at : {A : Type 0} (xs front : List A) (x : A) (back : List A) (most : ℕ) → xs ≡ front ++ x ∷ back → length xs ≤ most → length front < most
fewer_at xs front x back most e few = let long = ap length e in omega (arith, few, long, length-append front (x ∷ back))

-- programs
pub program_sound : (before : List Program) (p : Program) → (IsTrue (is_among (map (λ (q : Program). q.name) before) p.name) → ⊥) → length before < 64 → IsProgramLawful p → judged_program before p ≡ sounds (program_words p)
unfolding judged_program program_words
program_sound before p new few lawful =
    let end : List Token = token.Body p.body ∷ key_word key.EndProgram ∷ [] in
    let are : AreVariables ([] ++ flat_map block_variables p.blocks.items) = record { apart = lawful.apart; few = lawful.few } in
    ap (λ (j : Judged). sound (key_word key.Program) ∷ j ∷ (judged_blocks [] p.blocks.items ++ sounds end)) (new_sound (map (λ (q : Program). q.name) before) (length before) 64 p.name new few)
    ∙ ap (λ (a : List Judged). sound (key_word key.Program) ∷ sound (token.Name p.name) ∷ (a ++ sounds end)) (blocks_sound [] p.blocks.items lawful.blocks_are are)
    ∙ ap (λ (a : List Judged). sound (key_word key.Program) ∷ sound (token.Name p.name) ∷ a) (sym (sounds_both (flat_map block_words p.blocks.items) end))

pub each_program_sound : (ps : List Program) → AreProgramsDeclared ps → AreSound judged_program program_words [] ps
each_program_sound ps declared = λ front p back e.
    program_sound front p (new_at (λ (q : Program). q.name) ps front p back e declared.apart) (fewer_at ps front p back 64 e declared.few) (all_at IsProgramLawful ps front p back e declared.declared)

-- a task
pub task_sound : (before : List TaskLine) (t : TaskLine) → (IsTrue (is_among (map (λ (u : TaskLine). u.name) before) t.name) → ⊥) → length before < 16 → judged_task before t ≡ sounds (task_words t)
unfolding judged_task task_words
task_sound before t new few =
    let behind : List Token = mark_word Open ∷ settings t.order t.interval t.priority ++ mark_word Close ∷ mark_word Semicolon ∷ [] in
    ap (λ (j : Judged). sound (key_word key.Task) ∷ j ∷ sounds behind) (new_sound (map (λ (u : TaskLine). u.name) before) (length before) 16 t.name new few)

-- an address that an input of the kind may have
own_kind : (s : Space) → may_take (Some (kind_of_space s)) s ≡ true
own_kind Bit = refl
own_kind Word = refl

pub taken_kind : (k : Kind) (s : Space) → kind_of_space s ≡ k → may_take (Some k) s ≡ true
taken_kind k s e = subst (λ (l : Kind). may_take (Some l) s ≡ true) e (own_kind s)

pub source_sound : (k : Kind) (s : SourceName) → HasFieldKind k s → judged_source (Some k) s ≡ sounds (source_words s)
source_sound k (source.Field a) is = ap (λ (b : Bool). record { word = token.Address a; fault = if_so (not b) WrongKind None } ∷ []) (taken_kind k a.space is)
source_sound k (source.Output r i o) is = refl

-- an input that isn't bound, where the plant may have one more bind
pub input_sound : (ds : List Declaration) (before : List Bind) (count : ℕ) (n : List ℕ) (k : Kind) → input_kind_of ds n ≡ Some k → (IsTrue (is_among (map (λ (b : Bind). b.input) before) n) → ⊥) → count < 4096 → input_name ds before count n ≡ sound (token.Name n)
input_sound ds before count n k is new few =
    ap (λ (o : Option Kind). record { word = token.Name n; fault = if_so (is_none o) UnknownName (if_so (is_among (map (λ (b : Bind). b.input) before) n) InputBoundTwice (if_so (leb 4096 count) TooMany None)) }) is
    ∙ ap (λ (b : Bool). record { word = token.Name n; fault = if_so b InputBoundTwice (if_so (leb 4096 count) TooMany None) }) (false_from_ne_true (is_among (map (λ (b : Bind). b.input) before) n) new)
    ∙ ap (λ (b : Bool). record { word = token.Name n; fault = if_so b TooMany None }) (false_from_ne_true (leb 4096 count) (λ e. omega (arith, few, leb-true 4096 count e)))

-- binds
pub bind_sound : (ds : List Declaration) (n : ℕ) (before : List Bind) (b : Bind) → IsOfInputKind ds b → (IsTrue (is_among (map (λ (c : Bind). c.input) before) b.input) → ⊥) → n < 4096 → judged_bind ds n before b ≡ sounds (bind_words b)
unfolding judged_bind bind_words
bind_sound ds n before b (k, is, has) new few =
    ap (λ (j : Judged). j ∷ sound (mark_word Assign) ∷ judged_source (input_kind_of ds b.input) b.source) (input_sound ds before n b.input k is new few)
    ∙ ap (λ (o : Option Kind). sound (token.Name b.input) ∷ sound (mark_word Assign) ∷ judged_source o b.source) is
    ∙ ap (λ (a : List Judged). sound (token.Name b.input) ∷ sound (mark_word Assign) ∷ a) (source_sound k b.source has)

pub each_bind_sound : (ds : List Declaration) (n : ℕ) (bs : List Bind) → AreBindsLawful n ds bs → AreSound (bind_behind ds n) bind_words [] bs
each_bind_sound ds n bs lawful = λ front b back e.
    let long = ap length e in
    bind_sound ds (n + length front) front b (all_at (IsOfInputKind ds) bs front b back e lawful.kinds) (new_at (λ (c : Bind). c.input) bs front b back e lawful.apart) (omega (arith, lawful.few, long, length-append front (b ∷ back)))

pub binds_sound : (ds : List Declaration) (n : ℕ) (bs : Option (List Bind)) → AreBindsLawful n ds (items_or_none bs) → judged_binds ds n bs ≡ sounds (binds_words bs)
binds_sound ds n None lawful = refl
binds_sound ds n (Some bs) lawful =
    ap (λ (a : List Judged). sound (mark_word Open) ∷ (a ++ sound (mark_word Close) ∷ [])) (listed_sound (bind_behind ds n) bind_words with_commas refl (λ b. refl) (λ b c cs. refl) [] bs (each_bind_sound ds n bs lawful))
    ∙ ap (λ (a : List Judged). sound (mark_word Open) ∷ a) (sym (sounds_both (with_commas bs) (mark_word Close ∷ [])))

-- names behind the first are apart if all are
apart_tail : (n : List ℕ) (ns : List (List ℕ)) → AreNamesApart (n ∷ ns) → AreNamesApart ns
apart_tail n ns apart j k d within inside same = let one : suc j ≡ suc k = apart (suc j) (suc k) d (omega (arith, within)) (omega (arith, inside)) same in omega (arith, one)

-- of programs whose names are apart the first of a name is the only one
pub first_of_name : (programs : List Program) (name : List ℕ) (Q : Program → Type 0) → AreNamesApart (map (λ (p : Program). p.name) programs) → Any (λ (p : Program). IsTrue (is_named name p.name) × Q p) programs
    → (p : Program) × (find (λ (p : Program). is_named name p.name) programs ≡ Some p) × Q p
first_of_name [] name Q apart (k, x, lt, at, held) = absurd (omega (arith, lt))
first_of_name (p ∷ ps) name Q apart some =
    go (is_named name p.name) refl (λ others. first_of_name ps name Q (apart_tail p.name (map (λ (p : Program). p.name) ps) apart) others)
  where
    later : Option Program
    later = find (λ (p : Program). is_named name p.name) ps

    rest : Any (λ (p : Program). IsTrue (is_named name p.name) × Q p) (p ∷ ps) → is_named name p.name ≡ false → Any (λ (p : Program). IsTrue (is_named name p.name) × Q p) ps
    rest (zero, x, lt, at, held) other =
        let same : p ≡ x = at in
        let named : is_named name p.name ≡ true = ap (λ (q : Program). is_named name q.name) same ∙ held.0 in
        let wrong : true ≡ false = sym named ∙ other in
        absurd cc
    rest (suc k, x, lt, at, held) other = (k, x, omega (arith, lt), at, held)

    this : Any (λ (p : Program). IsTrue (is_named name p.name) × Q p) (p ∷ ps) → is_named name p.name ≡ true → Q p
    this (zero, x, lt, at, held) named = let same : x ≡ p = sym at in subst Q same held.1
    this (suc k, x, lt, at, held) named =
        let names : List (List ℕ) = map (λ (p : Program). p.name) (p ∷ ps) in
        let long = length-map ps (λ (p : Program). p.name) in
        let there : get_or (map (λ (p : Program). p.name) ps) k x.name ≡ x.name = get_or-map (λ (p : Program). p.name) ps k x x.name (omega (arith, lt)) ∙ ap (λ (q : Program). q.name) at in
        let place : 0 ≡ suc k = apart 0 (suc k) x.name (omega arith) (omega (arith, lt, long)) (subst (λ (n : List ℕ). IsTrue (is_named p.name n)) (sym there) (named_both name p.name x.name named held.0)) in
        absurd (omega (arith, place))

    go : (b : Bool) → is_named name p.name ≡ b → (Any (λ (p : Program). IsTrue (is_named name p.name) × Q p) ps → (q : Program) × (later ≡ Some q) × Q q)
        → (q : Program) × (cond (is_named name p.name) (Some p) later ≡ Some q) × Q q
    go true named others = (p, ap (λ (b : Bool). cond b (Some p) later) named, this some named)
    go false other others = let r = others (rest some other) in (r.0, ap (λ (b : Bool). cond b (Some p) later) other ∙ r.1, r.2)

-- an instance of one of these programs
pub use_sound : (programs : List Program) (i m : ℕ) (before : List Item) (u : Use) → AreNamesApart (map (λ (p : Program). p.name) programs) → (IsTrue (is_among (map (λ (v : Use). v.instance) (flat_map use_of before)) u.instance) → ⊥) → i < 64
    → IsUseLawful (programs_alone programs) before u → m + length (binds_of u) ≤ 4096 → judged_use programs i m before u ≡ sounds (use_words u)
unfolding judged_use use_words
use_sound programs i m before u apart new few lawful room =
    let found = first_of_name programs u.program (λ (p : Program). All (IsOfInputKind (variables p)) (binds_of u)) apart lawful.type_is in
    let p = found.0 in
    let task : IsTrue (is_among (map (λ (t : TaskLine). t.name) (flat_map task_of before)) u.task) = among_taken (λ (t : TaskLine). t.name) (flat_map task_of before) u.task lawful.task_is in
    let type : IsTrue (is_among (map (λ (p : Program). p.name) programs) u.program) =
    among_taken (λ (p : Program). p.name) programs u.program (any_with (λ (p : Program). IsTrue (is_named u.program p.name) × All (IsOfInputKind (variables p)) (binds_of u)) (λ (p : Program). IsTrue (is_named u.program p.name)) programs (λ p h. h.0) lawful.type_is) in
    let binds : judged_binds (variables p) m (binds_listed u.binds) ≡ sounds (binds_words (binds_listed u.binds)) = binds_sound (variables p) m (binds_listed u.binds) (record { apart = lawful.apart; kinds = found.2; few = room }) in
    let tasked : Judged = known_name (map (λ (t : TaskLine). t.name) (flat_map task_of before)) u.task in
    let typed : Judged = known_name (map (λ (p : Program). p.name) programs) u.program in
    let bound : List Judged = judged_binds (variables_named programs u.program) m (binds_listed u.binds) ++ sound (mark_word Semicolon) ∷ [] in
    ap (λ (j : Judged). sound (key_word key.Program) ∷ j ∷ sound (key_word key.With) ∷ tasked ∷ sound (mark_word Colon) ∷ typed ∷ bound) (new_sound (map (λ (v : Use). v.instance) (flat_map use_of before)) i 64 u.instance new few)
    ∙ ap (λ (j : Judged). sound (key_word key.Program) ∷ sound (token.Name u.instance) ∷ sound (key_word key.With) ∷ j ∷ sound (mark_word Colon) ∷ typed ∷ bound) (known_sound (map (λ (t : TaskLine). t.name) (flat_map task_of before)) u.task task)
    ∙ ap (λ (j : Judged). sound (key_word key.Program) ∷ sound (token.Name u.instance) ∷ sound (key_word key.With) ∷ sound (token.Name u.task) ∷ sound (mark_word Colon) ∷ j ∷ bound) (known_sound (map (λ (p : Program). p.name) programs) u.program type)
    ∙ ap (λ (a : List Judged). sound (key_word key.Program) ∷ sound (token.Name u.instance) ∷ sound (key_word key.With) ∷ sound (token.Name u.task) ∷ sound (mark_word Colon) ∷ sound (token.Name u.program) ∷ a)
    (ap (λ (o : Option Program). judged_binds (variables_found o) m (binds_listed u.binds) ++ sound (mark_word Semicolon) ∷ []) found.1 ∙ ap (λ (a : List Judged). a ++ sound (mark_word Semicolon) ∷ []) binds
    ∙ sym (sounds_both (binds_words (binds_listed u.binds)) (mark_word Semicolon ∷ [])))

-- a name that is new isn't among the names
pub not_among : {A : Type 0} (name_of : A → List ℕ) (xs : List A) (n : List ℕ) → IsNew name_of xs n → IsTrue (is_among (map name_of xs) n) → ⊥
not_among name_of xs n new among = new (taken_among name_of xs n among)

-- a line of a resource
pub item_sound : (programs : List Program) (i m : ℕ) (before : List Item) (x : Item) → AreNamesApart (map (λ (p : Program). p.name) programs) → MayFollow (programs_alone programs) before x
    → MayBeCounted i m (use_of x) → judged_item programs i m before x ≡ sounds (item_words x)
item_sound programs i m before (item.Task t) apart (new, few, positive) room = task_sound (flat_map task_of before) t (not_among (λ (u : TaskLine). u.name) (flat_map task_of before) t.name new) few
item_sound programs i m before (item.Use u) apart (new, lawful) room =
    let binds : length (flat_map binds_of (u ∷ [])) ≡ length (binds_of u) = ap length (flat_map-cons binds_of u [] ∙ append-nil (binds_of u)) in
    use_sound programs i m before u apart (not_among (λ (v : Use). v.instance) (flat_map use_of before) u.instance new) (omega (arith, room.0)) lawful (omega (arith, room.1, binds))

pub each_item_sound : (programs : List Program) (i m : ℕ) (xs : List Item) → AreNamesApart (map (λ (p : Program). p.name) programs) → AreItemsLawfulBehind i m programs xs → AreSound (item_behind programs i m) item_words [] xs
each_item_sound programs i m xs apart (lawful, room) = λ front x back e.
    let old : TallyValue = record { instances = i; binds = m } in
    item_sound programs (i + length (flat_map use_of front)) (m + length (flat_map binds_of (flat_map use_of front))) front x apart (may_follow (programs_alone programs) front xs front x back e refl lawful)
    (room_left old (tally_with old (flat_map use_of front)) (flat_map use_of front) (flat_map use_of xs) (flat_map use_of front) (use_of x) (flat_map use_of back) (pieces use_of xs front x back e) refl refl room)

-- a resource
pub resource_sound : (programs : List Program) (i m : ℕ) (before : List Resource) (r : Resource) → AreNamesApart (map (λ (p : Program). p.name) programs) → (IsTrue (is_among (map (λ (q : Resource). q.name) before) r.name) → ⊥) → length before < 16
    → IsResourceLawful (programs_alone programs) r → MayBeCounted i m (uses_of r) → judged_resource programs i m before r ≡ sounds (resource_words r)
unfolding judged_resource resource_words
resource_sound programs i m before r apart new few lawful room =
    let items : List Judged = judged_items programs i m r.items.items in
    let all : judged_items programs i m r.items.items ≡ sounds (items_words r.items.items) =
    ap (λ (a : List Judged). a ++ sound (key_word key.EndResource) ∷ []) (in_order_sound (item_behind programs i m) item_words [] r.items.items (each_item_sound programs i m r.items.items apart (items_of_resource (programs_alone programs) r lawful, room)))
    ∙ sym (ap sounds (items_end r.items.items) ∙ sounds_both (flat_map item_words r.items.items) (key_word key.EndResource ∷ [])) in
    ap (λ (j : Judged). sound (key_word key.Resource) ∷ j ∷ sound (key_word key.On) ∷ sound (token.Name r.node) ∷ items) (new_sound (map (λ (q : Resource). q.name) before) (length before) 16 r.name new few)
    ∙ ap (λ (a : List Judged). sound (key_word key.Resource) ∷ sound (token.Name r.name) ∷ sound (key_word key.On) ∷ sound (token.Name r.node) ∷ a) all

pub each_resource_sound : (programs : List Program) (i m : ℕ) (rs : List Resource) → AreNamesApart (map (λ (p : Program). p.name) programs) → AreResourcesLawfulBehind i m programs rs
    → AreSound (λ before r. judged_resource programs (i + length (flat_map uses_of before)) (m + length (flat_map binds_of (flat_map uses_of before))) before r) resource_words [] rs
each_resource_sound programs i m rs apart (lawful, room) = λ front r back e.
    let old : TallyValue = record { instances = i; binds = m } in
    resource_sound programs (i + length (flat_map uses_of front)) (m + length (flat_map binds_of (flat_map uses_of front))) front r apart (new_at (λ (q : Resource). q.name) rs front r back e lawful.apart) (fewer_at rs front r back 16 e lawful.few)
    (all_at (IsResourceLawful (programs_alone programs)) rs front r back e lawful.lawful)
    (room_left old (tally_with old (flat_map uses_of front)) (flat_map uses_of front) (flat_map uses_of rs) (flat_map uses_of front) (uses_of r) (flat_map uses_of back) (pieces uses_of rs front r back e) refl refl room)
