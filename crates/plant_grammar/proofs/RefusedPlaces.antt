-- Where a name is refused, with what was read in front of it, rule by rule of the grammar.
use Rattle.std.proofs.Common.{◌≡◌, ◌≢◌, ◌⊎◌, inl, inr, ℕ, ◌+◌, ◌<◌, ◌≤◌, List, [], ◌∷◌, ◌++◌, length, map, Some, None, refl, sym, ap, subst, ◌∙◌, append_assoc, arith}
use Rattle.std.specs.Prelude.{All}
use Rattle.std.proofs.lemmas.List.Elements.{All-nil}
use Rattle.std_blocks.specs.declared.block_type.BlockType.{BlockType}
use Rattle.std.specs.List.{flat_map, find}
use Rattle.declared_names.specs.declared.declarations.Declaration.{Declaration}
use Rattle.declared_names.specs.declared.declarations.Kind.{Kind}
use Rattle.words.specs.declared.address.Address.{Address}
use Rattle.plant_grammar.specs.declared.grammar_fault.GrammarFaultKind.{GrammarFaultKind}
use Rattle.plant_grammar.specs.declared.grammar_fault.GrammarFaultKind.TheVariants as kind
use Rattle.plant_text.specs.declared.token.Token.{Token}
use Rattle.plant_text.specs.declared.token.Token.TheVariants as token
use Rattle.plant_text.specs.declared.token.Keyword.TheVariants as key
use Rattle.plant_text.specs.declared.token.Punctuation.TheVariants.{Open, Colon, Comma, Assign}
use Rattle.plant_grammar.specs.declared.grammar.tree.Section.{Section}
use Rattle.plant_grammar.specs.declared.grammar.tree.TypeName.TheVariants.{Block}
use Rattle.plant_grammar.specs.declared.grammar.tree.NameList.{NameList}
use Rattle.plant_grammar.specs.declared.grammar.tree.VarBlock.{VarBlock}
use Rattle.plant_grammar.specs.declared.grammar.tree.Program.{Program}
use Rattle.plant_grammar.specs.declared.grammar.tree.TaskLine.{TaskLine}
use Rattle.plant_grammar.specs.declared.grammar.tree.Bind.{Bind}
use Rattle.plant_grammar.specs.declared.grammar.tree.Use.{Use}
use Rattle.plant_grammar.specs.declared.grammar.tree.Item.{Item}
use Rattle.plant_grammar.specs.declared.grammar.tree.Resource.{Resource}
use Rattle.plant_grammar.specs.Grammar.{key_word, mark_word, section_words, name_words, list_words, block_words, program_words, with_commas, item_words, resource_words}
use Rattle.plant_grammar.specs.Kinds.{input_kind_of, IsOfInputKind}
use Rattle.declared_names.specs.Kinds.{kind_of_space}
use Rattle.plant_grammar.specs.Names.{is_named}
use Rattle.plant_grammar.specs.Lawful.{list_variables, block_variables, variables, AreVariables, MayBeDeclared, IsTypeLawful, IsListLawful, IsBlockLawful, task_of, use_of, uses_of, programs_alone, AreItemsLawful, AreResourcesLawful, MayBeCounted}
use Rattle.plant_grammar.specs.Steps.NamesRead.{IsOfName, Tells, TellsOfName, TellsOfSoughtName, IsNameTaken, IsRefused, IsUnknown, IsAfter, IsAfterAll, IsAfterName, IsAfterType, IsAnyName, IsNew, name_and_comma, bind_and_comma, RefusesVariable, RefusesType, RefusesOneList, AreListsLawful, RefusesList, RefusesBlock, AreBlocksLawful, RefusesBlocks, RefusesProgramName, MayNameProgram, RefusesProgram, RefusesTask, RefusesInput, RefusesAddress, RefusesOneBind, AreBindsLawful, RefusesBind, RefusesTyped, NamesTask, RefusesBinds, RefusesInstanceName, MayNameInstance, RefusesInstance, AreItemsLawfulBehind, RefusesItems, RefusesResourceName, MayNameResource, RefusesResource, AreResourcesLawfulBehind, RefusesResources, RefusesBehind}
use Rattle.plant_grammar.specs.Steps.Declaring.{RepeatsName, IsNameNext, MissesInput, BeginWith, RefusesItem, RefusesFurtherProgram, RefusesPlantWords}
use Rattle.plant_grammar.specs.Steps.ReadParts.{TallyValue, tally_with}
use Rattle.declared_names.specs.Names.{IsDeclared}
use Rattle.plant_grammar.specs.Steps.SameNames.{named_back}
use Rattle.plant_grammar.proofs.Apart.{any_with, apart_none}
use Rattle.plant_grammar.proofs.AddedNames.{none_declared}
use Rattle.plant_grammar.proofs.LawfulPrograms.{apart_front, variables_front}
use Rattle.plant_grammar.proofs.NewNames.{one_name}
use Rattle.plant_grammar.proofs.RefusedNames.{tells_with, name_next, misused_next, name_repeated, begin_with, begin_after, begin_after_all, begin_after_name, begin_behind, names_and_commas, binds_and_commas}

-- either of two holds of the front
pub begin_left : {R : List Token → Type 0} (P Q : List Token → Type 0) (words : List Token) → BeginWith R P words → BeginWith R (λ w. P w ⊎ Q w) words
begin_left P Q words b = begin_with P (λ w. P w ⊎ Q w) words (λ front h. inl h) b

pub begin_right : {R : List Token → Type 0} (P Q : List Token → Type 0) (words : List Token) → BeginWith R Q words → BeginWith R (λ w. P w ⊎ Q w) words
begin_right P Q words b = begin_with Q (λ w. P w ⊎ Q w) words (λ front h. inr h) b

abbrev taken_of : List Declaration → List (List ℕ) → List ℕ → Type 0
taken_of before names n = IsNameTaken (λ (v : Declaration). v.name) before n ⊎ IsNameTaken (λ (m : List ℕ). m) names n

two_ways : (before : List Declaration) (names : List (List ℕ)) (words : List Token) → RepeatsName (λ (v : Declaration). v.name) before words ⊎ RepeatsName (λ (m : List ℕ). m) names words
    → (name : List ℕ) × (rest : List Token) × (words ≡ token.Name name ∷ rest) × taken_of before names name
two_ways before names words (inl r) = (r.0, r.1, r.2, inl r.3)
two_ways before names words (inr r) = (r.0, r.1, r.2, inr r.3)

two_back : (before : List Declaration) (names : List (List ℕ)) (words : List Token) (name : List ℕ) (rest : List Token) → words ≡ token.Name name ∷ rest → taken_of before names name
    → RepeatsName (λ (v : Declaration). v.name) before words ⊎ RepeatsName (λ (m : List ℕ). m) names words
two_back before names words name rest e (inl taken) = inl (name, rest, e, taken)
two_back before names words name rest e (inr taken) = inr (name, rest, e, taken)

-- what is told of a variable that stands next
pub variable_told : (k : GrammarFaultKind) (vs : List Declaration) (names : List (List ℕ)) (name : List ℕ) (words rest : List Token) (many : Type 0) → words ≡ token.Name name ∷ rest
    → TellsOfName k (IsDeclared vs name ⊎ IsNameTaken (λ (m : List ℕ). m) names name) many
    → TellsOfName k (RepeatsName (λ (v : Declaration). v.name) vs words ⊎ RepeatsName (λ (m : List ℕ). m) names words) (IsNameNext words × many)
variable_told k vs names name words rest many e tells =
    tells_with k (IsDeclared vs name ⊎ IsNameTaken (λ (m : List ℕ). m) names name) many (RepeatsName (λ (v : Declaration). v.name) vs words ⊎ RepeatsName (λ (m : List ℕ). m) names words) (IsNameNext words × many)
    repeated taken (λ m. ((name, rest, e), m)) tells
  where
    repeated : IsDeclared vs name ⊎ IsNameTaken (λ (m : List ℕ). m) names name → RepeatsName (λ (v : Declaration). v.name) vs words ⊎ RepeatsName (λ (m : List ℕ). m) names words
    repeated (inl early) = inl (name, rest, e, any_with _ _ vs (λ v h. named_back v.name name h) early)
    repeated (inr late) = inr (name, rest, e, late)

    taken : RepeatsName (λ (v : Declaration). v.name) vs words ⊎ RepeatsName (λ (m : List ℕ). m) names words → IsDeclared vs name ⊎ IsNameTaken (λ (m : List ℕ). m) names name
    taken (inl r) = inl (subst (λ n. IsDeclared vs n) (one_name name r.0 words rest r.1 e r.2) (any_with _ _ vs (λ v h. named_back r.0 v.name h) r.3))
    taken (inr r) = inr (subst (λ n. IsNameTaken (λ (m : List ℕ). m) names n) (one_name name r.0 words rest r.1 e r.2) r.3)

-- a variable behind the names of its list, which may be declared
pub variable_refused : {R : List Token → Type 0} (k : GrammarFaultKind) (before : List Declaration) (names : List (List ℕ)) (start now : List Token) (there : (t : Token) (rest : List Token) → now ≡ t ∷ rest → R rest) → start ≡ flat_map name_and_comma names ++ now → MayBeDeclared before names
    → TellsOfName k (RepeatsName (λ (v : Declaration). v.name) before now ⊎ RepeatsName (λ (m : List ℕ). m) names now) (IsNameNext now × (1000 ≤ length before + length names)) → IsOfName k → BeginWith R (RefusesVariable k before) start
unfolding RefusesVariable
variable_refused k before names start now there e may tells of =
    begin_behind name_and_comma (MayBeDeclared before) (λ ns more. IsRefused k (taken_of before ns) (1000 ≤ length before + length ns) more) names start now e may
    (name_next k now there (taken_of before names) (1000 ≤ length before + length names) (RepeatsName (λ (v : Declaration). v.name) before now ⊎ RepeatsName (λ (m : List ℕ). m) names now) (two_ways before names now) (two_back before names now) tells of)

-- the first name of a list
pub first_variable : {R : List Token → Type 0} (k : GrammarFaultKind) (before : List Declaration) (names : List (List ℕ)) (start : List Token) (there : (t : Token) (rest : List Token) → start ≡ t ∷ rest → R rest) → AreVariables before → names ≡ []
    → TellsOfName k (RepeatsName (λ (v : Declaration). v.name) before start ⊎ RepeatsName (λ (m : List ℕ). m) names start) (IsNameNext start × (1000 ≤ length before + length names)) → IsOfName k → BeginWith R (RefusesVariable k before) start
first_variable k before names start there are none tells of = variable_refused k before names start start there (ap (λ (ns : List (List ℕ)). flat_map name_and_comma ns ++ start) (sym none)) (none_declared before names are none) tells of

-- a further name of a list
pub next_variable : {R : List Token → Type 0} (k : GrammarFaultKind) (before : List Declaration) (names : List (List ℕ)) (start now mid : List Token) (there : (t : Token) (rest : List Token) → mid ≡ t ∷ rest → R rest) → 0 < length names → MayBeDeclared before names → start ≡ name_words names ++ now → now ≡ mark_word Comma ∷ mid
    → TellsOfName k (RepeatsName (λ (v : Declaration). v.name) before mid ⊎ RepeatsName (λ (m : List ℕ). m) names mid) (IsNameNext mid × (1000 ≤ length before + length names)) → IsOfName k → BeginWith R (RefusesVariable k before) start
next_variable k before names start now mid there some may h1 h2 tells of = variable_refused k before names start mid there (h1 ∙ ap (λ r. name_words names ++ r) h2 ∙ names_and_commas names mid some) may tells of

-- a list up to the type of a block
type_next : {R : List Token → Type 0} (k : GrammarFaultKind) (s : Section) (before : List Declaration) (names : List (List ℕ)) (start mid : List Token) (there : (t : Token) (rest : List Token) → mid ≡ t ∷ rest → R rest) → start ≡ name_words names ++ mark_word Colon ∷ mid → 0 < length names → MayBeDeclared before names
    → Tells k ⊥ ⊥ ((b : BlockType) × (rest : List Token) × (mid ≡ token.Block b ∷ rest) × (IsTypeLawful s (Block b) → ⊥)) ⊥ ⊥ → IsOfName k → BeginWith R (RefusesType k s before) start
type_next kind.Syntax s before names start mid there e some may tells of = absurd of
type_next kind.NameTwice s before names start mid there e some may tells of = absurd tells
type_next kind.UnknownName s before names start mid there e some may tells of = absurd tells
type_next kind.WrongKind s before names start mid there e some may (b, rest, is, wrong) of = record {
  front = name_words names ++ mark_word Colon ∷ token.Block b ∷ [];
  rest = rest;
  parts = e ∙ ap (λ r. name_words names ++ mark_word Colon ∷ r) is ∙ sym (append_assoc (name_words names) (mark_word Colon ∷ token.Block b ∷ []) rest);
  holds = record { names = names; block = b; parts = refl; some = some; may = may; told = wrong };
  behind = there (token.Block b) rest is;
}
type_next kind.InputBoundTwice s before names start mid there e some may tells of = absurd tells
type_next kind.TooMany s before names start mid there e some may tells of = absurd tells
type_next kind.Memory s before names start mid there e some may tells of = absurd of

-- a list up to a name of it
pub name_of_list : {R : List Token → Type 0} (k : GrammarFaultKind) (s : Section) (before : List Declaration) (start : List Token) → BeginWith R (RefusesVariable k before) start → BeginWith R (RefusesOneList s before k) start
name_of_list k s before start b = begin_left (RefusesVariable k before) (RefusesType k s before) start b

-- a list up to its type
pub type_of_list : {R : List Token → Type 0} (k : GrammarFaultKind) (s : Section) (before : List Declaration) (names : List (List ℕ)) (start now mid : List Token) (there : (t : Token) (rest : List Token) → mid ≡ t ∷ rest → R rest) → 0 < length names → MayBeDeclared before names → start ≡ name_words names ++ now → now ≡ mark_word Colon ∷ mid
    → Tells k ⊥ ⊥ ((b : BlockType) × (rest : List Token) × (mid ≡ token.Block b ∷ rest) × (IsTypeLawful s (Block b) → ⊥)) ⊥ ⊥ → IsOfName k → BeginWith R (RefusesOneList s before k) start
type_of_list k s before names start now mid there some may h1 h2 tells of = begin_right (RefusesVariable k before) (RefusesType k s before) start (type_next k s before names start mid there (h1 ∙ ap (λ r. name_words names ++ r) h2) some may tells of)

may_before : (vs : List Declaration) (names : List (List ℕ)) → MayBeDeclared vs names → AreVariables vs
may_before vs names may = record { apart = apart_front (map (λ (v : Declaration). v.name) vs) names may.0; few = omega (arith, may.1) }

-- where a list is refused, the variables before it are lawful
before_list : (k : GrammarFaultKind) (s : Section) (vs : List Declaration) (words : List Token) → RefusesOneList s vs k words → AreVariables vs
unfolding RefusesVariable
before_list k s vs words (inl v) = may_before vs v.whole v.lawful
before_list k s vs words (inr t) = may_before vs t.names t.may

-- a list behind others of its block, which are lawful
pub list_refused : {R : List Token → Type 0} (k : GrammarFaultKind) (s : Section) (before now_declared : List Declaration) (lists : List NameList) (start now : List Token) → start ≡ flat_map list_words lists ++ now → now_declared ≡ before ++ flat_map (list_variables s) lists → All (IsListLawful s) lists
    → BeginWith R (RefusesOneList s now_declared k) now → BeginWith R (RefusesList k s before) start
unfolding RefusesList
list_refused {R = R} k s before now_declared lists start now e declared lawful b =
    let are = subst AreVariables declared (before_list k s now_declared b.front b.holds) in
    begin_behind list_words (AreListsLawful s before) (λ (ls : List NameList) more. RefusesOneList s (before ++ flat_map (list_variables s) ls) k more) lists start now e (lawful, are) (subst (λ ds. BeginWith R (RefusesOneList s ds k) now) declared b)

-- a block up to a name refused
pub in_block : {R : List Token → Type 0} (k : GrammarFaultKind) (s : Section) (before : List Declaration) (start now : List Token) → start ≡ section_words s ++ now → BeginWith R (RefusesList k s before) now → BeginWith R (RefusesBlock k before) start
unfolding RefusesBlock
in_block k s before start now e b =
    begin_with (IsAfterAll (section_words s) (RefusesList k s before)) (λ w. (t : Section) × IsAfterAll (section_words t) (RefusesList k t before) w) start (λ front h. (s, h)) (begin_after_all (section_words s) (RefusesList k s before) start now e b)

-- where a block is refused, the variables before it are lawful
before_block : (k : GrammarFaultKind) (vs : List Declaration) (words : List Token) → RefusesBlock k vs words → AreVariables vs
unfolding RefusesBlock RefusesList
before_block k vs words (s, block) = let lists = block.holds in variables_front vs (flat_map (list_variables s) lists.whole) lists.lawful.1

-- a block behind others of its program, which are lawful
pub block_refused : {R : List Token → Type 0} (k : GrammarFaultKind) (before now_declared : List Declaration) (blocks : List VarBlock) (start now : List Token) → start ≡ flat_map block_words blocks ++ now → now_declared ≡ before ++ flat_map block_variables blocks → All IsBlockLawful blocks
    → BeginWith R (RefusesBlock k now_declared) now → BeginWith R (RefusesBlocks k before) start
unfolding RefusesBlocks
block_refused {R = R} k before now_declared blocks start now e declared lawful b =
    let are = subst AreVariables declared (before_block k now_declared b.front b.holds) in
    begin_behind block_words (AreBlocksLawful before) (λ (bs : List VarBlock) more. RefusesBlock k (before ++ flat_map block_variables bs) more) blocks start now e (lawful, are) (subst (λ ds. BeginWith R (RefusesBlock k ds) now) declared b)

-- a program up to its name
pub program_named : {R : List Token → Type 0} (k : GrammarFaultKind) (before : List Program) (start now : List Token) (there : (t : Token) (rest : List Token) → now ≡ t ∷ rest → R rest) → start ≡ key_word key.Program ∷ now
    → TellsOfName k (RepeatsName (λ (p : Program). p.name) before now) (IsNameNext now × (64 ≤ length before)) → IsOfName k → BeginWith R (RefusesProgram k before) start
unfolding RefusesProgram
program_named k before start now there e tells of =
    let inside = IsAfterName (MayNameProgram before) (RefusesBlocks k []) in
    begin_after (key_word key.Program) (λ more. RefusesProgramName k before more ⊎ inside more) start now e
    (begin_left (RefusesProgramName k before) inside now (name_repeated k now there (λ (p : Program). p.name) before (64 ≤ length before) tells of))

-- a program up to a word in its blocks
pub in_program : {R : List Token → Type 0} (k : GrammarFaultKind) (before : List Program) (n : List ℕ) (declared : List Declaration) (start now : List Token) → start ≡ key_word key.Program ∷ token.Name n ∷ now → declared ≡ [] → MayNameProgram before n
    → BeginWith R (RefusesBlocks k declared) now → BeginWith R (RefusesProgram k before) start
unfolding RefusesProgram
in_program {R = R} k before n declared start now e none may b =
    let inside = IsAfterName (MayNameProgram before) (RefusesBlocks k []) in
    begin_after (key_word key.Program) (λ more. RefusesProgramName k before more ⊎ inside more) start (token.Name n ∷ now) e
    (begin_right (RefusesProgramName k before) inside (token.Name n ∷ now) (begin_after_name n (MayNameProgram before) (RefusesBlocks k []) (token.Name n ∷ now) now refl may (subst (λ ds. BeginWith R (RefusesBlocks k ds) now) none b)))

-- a program behind others
pub program_refused : {R : List Token → Type 0} (k : GrammarFaultKind) (programs : List Program) (start now : List Token) → start ≡ flat_map program_words programs ++ now → BeginWith R (RefusesProgram k programs) now → BeginWith R (RefusesFurtherProgram programs k) start
program_refused k programs start now e b = begin_after_all (flat_map program_words programs) (RefusesProgram k programs) start now e b

pub further_program : {R : List Token → Type 0} (k : GrammarFaultKind) (programs : List Program) (start : List Token) → BeginWith R (RefusesFurtherProgram programs k) start → BeginWith R (RefusesPlantWords programs k) start
unfolding RefusesBehind
further_program k programs start b =
    begin_with (RefusesFurtherProgram programs k) (RefusesPlantWords programs k) start (λ front h. record { more = h.more; parts = h.parts; holds = inl h.holds }) b

-- a task up to its name
pub task_refused : {R : List Token → Type 0} (k : GrammarFaultKind) (before : List Item) (start now : List Token) (there : (t : Token) (rest : List Token) → now ≡ t ∷ rest → R rest) → start ≡ key_word key.Task ∷ now
    → TellsOfName k (RepeatsName (λ (t : TaskLine). t.name) (flat_map task_of before) now) (IsNameNext now × (16 ≤ length (flat_map task_of before))) → IsOfName k → BeginWith R (RefusesTask k before) start
unfolding RefusesTask
task_refused k before start now there e tells of = let tasks = flat_map task_of before in
    begin_after (key_word key.Task) (IsRefused k (IsNameTaken (λ (t : TaskLine). t.name) tasks) (16 ≤ length tasks)) start now e (name_repeated k now there (λ (t : TaskLine). t.name) tasks (16 ≤ length tasks) tells of)

-- the input of a bind
pub input_refused : {R : List Token → Type 0} (k : GrammarFaultKind) (n : ℕ) (ds : List Declaration) (before : List Bind) (words : List Token) (there : (t : Token) (rest : List Token) → words ≡ t ∷ rest → R rest)
    → TellsOfSoughtName k (MissesInput ds words) (RepeatsName (λ (b : Bind). b.input) before words) (IsNameNext words × (4096 ≤ n)) → IsOfName k → BeginWith R (RefusesOneBind n ds before k) words
input_refused k n ds before words there tells of =
    begin_left (RefusesInput k n ds before) (RefusesAddress k n ds before) words
    (misused_next k words there (λ name. input_kind_of ds name ≡ None) (IsNameTaken (λ (b : Bind). b.input) before) (4096 ≤ n) (MissesInput ds words) (RepeatsName (λ (b : Bind). b.input) before words) (λ m. m) (λ name rest e u. (name, rest, e, u)) (λ r. r) (λ name rest e b. (name, rest, e, b)) tells of)

abbrev wrong_address : Kind → List Token → Type 0
wrong_address its words = (a : Address) × (rest : List Token) × (words ≡ token.Address a ∷ rest) × (kind_of_space a.space ≢ its)

address_next : {R : List Token → Type 0} (k : GrammarFaultKind) (n : ℕ) (ds : List Declaration) (before : List Bind) (name : List ℕ) (its : Kind) (start two : List Token) (there : (t : Token) (rest : List Token) → two ≡ t ∷ rest → R rest) → start ≡ token.Name name ∷ mark_word Assign ∷ two → input_kind_of ds name ≡ Some its → IsNew (λ (b : Bind). b.input) before name → n < 4096
    → Tells k ⊥ ⊥ (wrong_address its two) ⊥ ⊥ → IsOfName k → BeginWith R (RefusesAddress k n ds before) start
address_next kind.Syntax n ds before name its start two there e is new few tells of = absurd of
address_next kind.NameTwice n ds before name its start two there e is new few tells of = absurd tells
address_next kind.UnknownName n ds before name its start two there e is new few tells of = absurd tells
address_next kind.WrongKind n ds before name its start two there e is new few (a, rest, next, wrong) of = record {
  front = token.Name name ∷ mark_word Assign ∷ token.Address a ∷ [];
  rest = rest;
  parts = e ∙ ap (λ r. token.Name name ∷ mark_word Assign ∷ r) next;
  holds = record { input = name; address = a; its = its; parts = refl; its_is = is; new = new; few = few; told = wrong };
  behind = there (token.Address a) rest next;
}
address_next kind.InputBoundTwice n ds before name its start two there e is new few tells of = absurd tells
address_next kind.TooMany n ds before name its start two there e is new few tells of = absurd tells
address_next kind.Memory n ds before name its start two there e is new few tells of = absurd of

-- a bind up to its address
pub address_refused : {R : List Token → Type 0} (k : GrammarFaultKind) (n : ℕ) (ds : List Declaration) (before : List Bind) (name : List ℕ) (its : Kind) (start one two : List Token) (there : (t : Token) (rest : List Token) → two ≡ t ∷ rest → R rest) → start ≡ token.Name name ∷ one → one ≡ mark_word Assign ∷ two → input_kind_of ds name ≡ Some its → IsNew (λ (b : Bind). b.input) before name → n < 4096
    → Tells k ⊥ ⊥ (wrong_address its two) ⊥ ⊥ → IsOfName k → BeginWith R (RefusesOneBind n ds before k) start
address_refused k n ds before name its start one two there h1 h2 is new few tells of =
    begin_right (RefusesInput k n ds before) (RefusesAddress k n ds before) start (address_next k n ds before name its start two there (h1 ∙ ap (λ r. token.Name name ∷ r) h2) is new few tells of)

-- a bind behind others of its instance, which are lawful
bind_refused : {R : List Token → Type 0} (k : GrammarFaultKind) (n m : ℕ) (ds : List Declaration) (binds : List Bind) (start now : List Token) → start ≡ flat_map bind_and_comma binds ++ now → n ≡ m + length binds → AreBindsLawful m ds binds
    → BeginWith R (RefusesOneBind n ds binds k) now → BeginWith R (RefusesBind k m ds) start
unfolding RefusesBind
bind_refused {R = R} k n m ds binds start now e many lawful b =
    begin_behind bind_and_comma (AreBindsLawful m ds) (λ (before : List Bind) more. RefusesOneBind (m + length before) ds before k more) binds start now e lawful (subst (λ (j : ℕ). BeginWith R (RefusesOneBind j ds binds k) now) many b)

-- the first bind of an instance
pub first_bind : {R : List Token → Type 0} (k : GrammarFaultKind) (m : ℕ) (ds : List Declaration) (start : List Token) → m ≤ 4096 → BeginWith R (RefusesOneBind m ds [] k) start → BeginWith R (RefusesBind k m ds) start
first_bind k m ds start few b = bind_refused k m m ds [] start start refl (omega arith) (record { apart = apart_none; kinds = All-nil (IsOfInputKind ds); few = omega (arith, few) }) b

-- a further bind of an instance
pub next_bind : {R : List Token → Type 0} (k : GrammarFaultKind) (n m : ℕ) (ds : List Declaration) (binds : List Bind) (start now mid : List Token) → 0 < length binds → start ≡ with_commas binds ++ now → now ≡ mark_word Comma ∷ mid → n ≡ m + length binds → AreBindsLawful m ds binds
    → BeginWith R (RefusesOneBind n ds binds k) mid → BeginWith R (RefusesBind k m ds) start
next_bind k n m ds binds start now mid some h1 h2 many lawful b = bind_refused k n m ds binds start mid (h1 ∙ ap (λ r. with_commas binds ++ r) h2 ∙ binds_and_commas binds mid some) many lawful b

-- the parenthesis before the binds
pub in_binds : {R : List Token → Type 0} (k : GrammarFaultKind) (m : ℕ) (ds : List Declaration) (start now : List Token) → start ≡ mark_word Open ∷ now → BeginWith R (RefusesBind k m ds) now → BeginWith R (IsAfter (mark_word Open) (RefusesBind k m ds)) start
in_binds k m ds start now e b = begin_after (mark_word Open) (RefusesBind k m ds) start now e b

-- an instance up to its name
pub instance_named : {R : List Token → Type 0} (k : GrammarFaultKind) (i m : ℕ) (programs : List Program) (before : List Item) (start now : List Token) (there : (t : Token) (rest : List Token) → now ≡ t ∷ rest → R rest) → start ≡ key_word key.Program ∷ now
    → TellsOfName k (RepeatsName (λ (u : Use). u.instance) (flat_map use_of before) now) (IsNameNext now × (64 ≤ i)) → IsOfName k → BeginWith R (RefusesInstance k i m programs before) start
unfolding RefusesInstance
instance_named k i m programs before start now there e tells of =
    let inside = IsAfterName (MayNameInstance i before) (RefusesBinds k m programs before) in
    begin_after (key_word key.Program) (λ more. RefusesInstanceName k i before more ⊎ inside more) start now e
    (begin_left (RefusesInstanceName k i before) inside now (name_repeated k now there (λ (u : Use). u.instance) (flat_map use_of before) (64 ≤ i) tells of))

-- an instance up to a word behind its name
pub in_instance : {R : List Token → Type 0} (k : GrammarFaultKind) (i m : ℕ) (programs : List Program) (before : List Item) (name : List ℕ) (start one : List Token) → start ≡ key_word key.Program ∷ token.Name name ∷ one → MayNameInstance i before name
    → BeginWith R (RefusesBinds k m programs before) one → BeginWith R (RefusesInstance k i m programs before) start
unfolding RefusesInstance
in_instance k i m programs before name start one e may b =
    let inside = IsAfterName (MayNameInstance i before) (RefusesBinds k m programs before) in
    begin_after (key_word key.Program) (λ more. RefusesInstanceName k i before more ⊎ inside more) start (token.Name name ∷ one) e
    (begin_right (RefusesInstanceName k i before) inside (token.Name name ∷ one) (begin_after_name name (MayNameInstance i before) (RefusesBinds k m programs before) (token.Name name ∷ one) one refl may b))

-- a task that is none of these lines
pub task_unknown : {R : List Token → Type 0} (k : GrammarFaultKind) (m : ℕ) (programs : List Program) (before : List Item) (one : List Token)
    → BeginWith R (IsAfter (key_word key.With) (IsUnknown k (λ (t : TaskLine). t.name) (flat_map task_of before))) one → BeginWith R (RefusesBinds k m programs before) one
unfolding RefusesBinds
task_unknown k m programs before one b =
    let unknown = IsUnknown k (λ (t : TaskLine). t.name) (flat_map task_of before) in
    let behind = IsAfterName (NamesTask before) (IsAfter (mark_word Colon) (RefusesTyped k m programs)) in
    begin_with (IsAfter (key_word key.With) unknown) (IsAfter (key_word key.With) (λ more. unknown more ⊎ behind more)) one (λ front h. record { more = h.more; parts = h.parts; holds = inl h.holds }) b

-- an instance up to a word behind its task
behind_task : {R : List Token → Type 0} (k : GrammarFaultKind) (m : ℕ) (programs : List Program) (before : List Item) (task : List ℕ) (one two : List Token) → one ≡ key_word key.With ∷ token.Name task ∷ two → NamesTask before task
    → BeginWith R (IsAfter (mark_word Colon) (RefusesTyped k m programs)) two → BeginWith R (RefusesBinds k m programs before) one
unfolding RefusesBinds
behind_task k m programs before task one two e known b =
    let unknown = IsUnknown k (λ (t : TaskLine). t.name) (flat_map task_of before) in
    let typed = IsAfter (mark_word Colon) (RefusesTyped k m programs) in
    let behind = IsAfterName (NamesTask before) typed in
    begin_after (key_word key.With) (λ more. unknown more ⊎ behind more) one (token.Name task ∷ two) e
    (begin_right unknown behind (token.Name task ∷ two) (begin_after_name task (NamesTask before) typed (token.Name task ∷ two) two refl known b))

-- a type that is none of these programs
pub type_unknown : {R : List Token → Type 0} (k : GrammarFaultKind) (m : ℕ) (programs : List Program) (before : List Item) (task : List ℕ) (one two : List Token) → one ≡ key_word key.With ∷ token.Name task ∷ two → NamesTask before task
    → BeginWith R (IsAfter (mark_word Colon) (IsUnknown k (λ (p : Program). p.name) programs)) two → BeginWith R (RefusesBinds k m programs before) one
unfolding RefusesTyped
type_unknown k m programs before task one two e known b =
    let unknown = IsUnknown k (λ (p : Program). p.name) programs in
    behind_task k m programs before task one two e known
    (begin_with (IsAfter (mark_word Colon) unknown) (IsAfter (mark_word Colon) (RefusesTyped k m programs)) two (λ front h. record { more = h.more; parts = h.parts; holds = inl h.holds }) b)

-- an instance up to a word in its binds
pub binds_of_type : {R : List Token → Type 0} (k : GrammarFaultKind) (m n : ℕ) (programs : List Program) (before : List Item) (task type : List ℕ) (p : Program) (one two now : List Token) → one ≡ key_word key.With ∷ token.Name task ∷ two → NamesTask before task → two ≡ mark_word Colon ∷ token.Name type ∷ now
    → find (λ (q : Program). is_named type q.name) programs ≡ Some p → n ≡ m → BeginWith R (IsAfter (mark_word Open) (RefusesBind k n (variables p))) now → BeginWith R (RefusesBinds k m programs before) one
unfolding RefusesTyped
binds_of_type {R = R} k m n programs before task type p one two now h1 is_task h2 known same b =
    let unknown = IsUnknown k (λ (q : Program). q.name) programs in
    let bound = IsAfterType programs (λ q more. IsAfter (mark_word Open) (RefusesBind k m (variables q)) more) in
    let binds = IsAfter (mark_word Open) (RefusesBind k m (variables p)) in
    behind_task k m programs before task one two h1 is_task
    (begin_after (mark_word Colon) (RefusesTyped k m programs) two (token.Name type ∷ now) h2
    (begin_right unknown bound (token.Name type ∷ now)
    (begin_with (IsAfter (token.Name type) binds) bound (token.Name type ∷ now) (λ front h. record { name = type; type = p; known = known; after = h })
    (begin_after (token.Name type) binds (token.Name type ∷ now) now refl (subst (λ (j : ℕ). BeginWith R (IsAfter (mark_word Open) (RefusesBind k j (variables p))) now) same b)))))

-- what was counted is no more than a plant has
counted_few : (old tally : TallyValue) (us : List Use) → tally ≡ tally_with old us → tally.instances ≤ 64 → tally.binds ≤ 4096 → MayBeCounted old.instances old.binds us
counted_few old tally us counted instances binds = subst (λ (t : TallyValue). (t.instances ≤ 64) × (t.binds ≤ 4096)) counted (instances, binds)

-- a line of a resource behind others, which are lawful
pub item_refused : {R : List Token → Type 0} (k : GrammarFaultKind) (old tally : TallyValue) (programs : List Program) (items : List Item) (start now : List Token) → start ≡ flat_map item_words items ++ now → tally ≡ tally_with old (flat_map use_of items)
    → AreItemsLawful (programs_alone programs) items → tally.instances ≤ 64 → tally.binds ≤ 4096
    → BeginWith R (RefusesItem tally programs items k) now → BeginWith R (RefusesItems k old.instances old.binds programs) start
unfolding RefusesItems
item_refused {R = R} k old tally programs items start now e counted lawful few_instances few_binds b =
    begin_behind item_words (AreItemsLawfulBehind old.instances old.binds programs) (λ (xs : List Item) more. RefusesItem (tally_with old (flat_map use_of xs)) programs xs k more) items start now e (lawful, counted_few old tally (flat_map use_of items) counted few_instances few_binds) (subst (λ t. BeginWith R (RefusesItem t programs items k) now) counted b)

-- a resource up to its name
pub resource_named : {R : List Token → Type 0} (k : GrammarFaultKind) (i m : ℕ) (programs : List Program) (before : List Resource) (start now : List Token) (there : (t : Token) (rest : List Token) → now ≡ t ∷ rest → R rest) → start ≡ key_word key.Resource ∷ now
    → TellsOfName k (RepeatsName (λ (r : Resource). r.name) before now) (IsNameNext now × (16 ≤ length before)) → IsOfName k → BeginWith R (RefusesResource k i m programs before) start
unfolding RefusesResource
resource_named k i m programs before start now there e tells of =
    let inside = IsAfterName (MayNameResource before) (IsAfter (key_word key.On) (IsAfterName IsAnyName (RefusesItems k i m programs))) in
    begin_after (key_word key.Resource) (λ more. RefusesResourceName k before more ⊎ inside more) start now e
    (begin_left (RefusesResourceName k before) inside now (name_repeated k now there (λ (r : Resource). r.name) before (16 ≤ length before) tells of))

-- a resource up to a name in one of its lines
pub in_resource : {R : List Token → Type 0} (k : GrammarFaultKind) (i m : ℕ) (programs : List Program) (before : List Resource) (name node : List ℕ) (start one two three four : List Token)
    → start ≡ key_word key.Resource ∷ one → one ≡ token.Name name ∷ two → two ≡ key_word key.On ∷ three → three ≡ token.Name node ∷ four → MayNameResource before name
    → BeginWith R (RefusesItems k i m programs) four → BeginWith R (RefusesResource k i m programs before) start
unfolding RefusesResource
in_resource k i m programs before name node start one two three four h1 h2 h3 h4 may b =
    let items = RefusesItems k i m programs in
    let on = IsAfter (key_word key.On) (IsAfterName IsAnyName items) in
    let inside = IsAfterName (MayNameResource before) on in
    begin_after (key_word key.Resource) (λ more. RefusesResourceName k before more ⊎ inside more) start one h1
    (begin_right (RefusesResourceName k before) inside one
    (begin_after_name name (MayNameResource before) on one two h2 may (begin_after (key_word key.On) (IsAfterName IsAnyName items) two three h3 (begin_after_name node IsAnyName items three four h4 tt b))))

-- a resource behind others, which are lawful
pub resource_refused : {R : List Token → Type 0} (k : GrammarFaultKind) (old tally : TallyValue) (programs : List Program) (rs : List Resource) (start now : List Token) → start ≡ flat_map resource_words rs ++ now → tally ≡ tally_with old (flat_map uses_of rs)
    → AreResourcesLawful (programs_alone programs) rs → tally.instances ≤ 64 → tally.binds ≤ 4096
    → BeginWith R (RefusesResource k tally.instances tally.binds programs rs) now → BeginWith R (RefusesResources k old.instances old.binds programs) start
unfolding RefusesResources
resource_refused {R = R} k old tally programs rs start now e counted lawful few_instances few_binds b =
    begin_behind resource_words (AreResourcesLawfulBehind old.instances old.binds programs) (λ (xs : List Resource) more. RefusesResource k (tally_with old (flat_map uses_of xs)).instances (tally_with old (flat_map uses_of xs)).binds programs xs more) rs start now e (lawful, counted_few old tally (flat_map uses_of rs) counted few_instances few_binds)
    (subst (λ (t : TallyValue). BeginWith R (RefusesResource k t.instances t.binds programs rs) now) counted b)

-- a configuration up to a name in one of its resources
pub in_configuration : {R : List Token → Type 0} (k : GrammarFaultKind) (programs : List Program) (name : List ℕ) (tally : TallyValue) (start one two three : List Token) → start ≡ flat_map program_words programs ++ one → one ≡ key_word key.Configuration ∷ two → two ≡ token.Name name ∷ three
    → tally ≡ record { instances = 0; binds = 0 } → BeginWith R (RefusesResources k tally.instances tally.binds programs) three → BeginWith R (RefusesPlantWords programs k) start
unfolding RefusesBehind
in_configuration {R = R} k programs name tally start one two three h1 h2 h3 none b =
    let resources = RefusesResources k 0 0 programs in
    let named = IsAfterName IsAnyName resources in
    let inside = IsAfter (key_word key.Configuration) named in
    begin_after_all (flat_map program_words programs) (λ more. RefusesProgram k programs more ⊎ inside more) start one h1
    (begin_right (RefusesProgram k programs) inside one
    (begin_after (key_word key.Configuration) named one two h2 (begin_after_name name IsAnyName resources two three h3 tt (subst (λ (t : TallyValue). BeginWith R (RefusesResources k t.instances t.binds programs) three) none b))))
