-- The first word at which a plant's text is refused: a name that its space has already, or that is one too many; a name
-- that isn't declared where it is sought; an input that is bound already; a type or an address of another kind. What stands
-- whole before that word is lawful, and what was read of the declaration that it stands in has no fault.
use Rattle.std.specs.Prelude.{◌≡◌, ◌≢◌, ◌⊎◌, ℕ, ◌+◌, ◌<◌, ◌≤◌, IsTrue, List, [], ◌∷◌, ◌++◌, length, map, All, Any, Some, None}
use Rattle.std.specs.List.{flat_map, find}
use Rattle.std_blocks.specs.declared.block_type.BlockType.{BlockType}
use Rattle.declared_names.specs.declared.declarations.Declaration.{Declaration}
use Rattle.declared_names.specs.declared.declarations.Kind.{Kind}
use Rattle.plant_grammar.specs.declared.grammar_fault.GrammarFaultKind.{GrammarFaultKind}
use Rattle.plant_grammar.specs.declared.grammar_fault.GrammarFaultKind.TheVariants as kind
use Rattle.words.specs.declared.address.Address.{Address}
use Rattle.plant_text.specs.declared.token.Token.{Token}
use Rattle.plant_text.specs.declared.token.Token.TheVariants as token
use Rattle.plant_text.specs.declared.token.Keyword.TheVariants as key
use Rattle.plant_text.specs.declared.token.Punctuation.TheVariants.{Open, Colon, Comma, Assign}
use Rattle.plant_grammar.specs.declared.grammar.tree.Section.{Section}
use Rattle.plant_grammar.specs.declared.grammar.tree.TypeName.TheVariants.{Block}
use Rattle.plant_grammar.specs.declared.grammar.tree.NameList.{NameList}
use Rattle.plant_grammar.specs.declared.grammar.tree.VarBlock.{VarBlock}
use Rattle.plant_grammar.specs.declared.grammar.tree.Program.{Program}
use Rattle.plant_grammar.specs.declared.grammar.tree.TaskLine.{TaskLine}
use Rattle.plant_grammar.specs.declared.grammar.tree.Bind.{Bind}
use Rattle.plant_grammar.specs.declared.grammar.tree.Use.{Use}
use Rattle.plant_grammar.specs.declared.grammar.tree.Item.{Item}
use Rattle.plant_grammar.specs.declared.grammar.tree.Resource.{Resource}
use Rattle.plant_grammar.specs.Grammar.{key_word, mark_word, section_words, name_words, list_words, block_words, bind_words, item_words, resource_words}
use Rattle.plant_grammar.specs.Kinds.{input_kind_of, IsOfInputKind}
use Rattle.declared_names.specs.Kinds.{kind_of_space}
use Rattle.plant_grammar.specs.Names.{is_named, AreNamesApart}
use Rattle.plant_grammar.specs.Lawful.{list_variables, block_variables, variables, AreVariables, MayBeDeclared, IsTypeLawful, IsListLawful, IsBlockLawful, task_of, use_of, uses_of, binds_of, programs_alone, AreItemsLawful, AreResourcesLawful, MayBeCounted}

-- one of the kinds of faults of a word that stands where the grammar has one like it: all but Syntax and Memory
abbrev pub IsOfName : GrammarFaultKind → Type 0
IsOfName kind.Syntax = ⊥
IsOfName kind.NameTwice = Unit {0}
IsOfName kind.UnknownName = Unit {0}
IsOfName kind.WrongKind = Unit {0}
IsOfName kind.InputBoundTwice = Unit {0}
IsOfName kind.TooMany = Unit {0}
IsOfName kind.Memory = ⊥

-- the kind is each of the five only where this holds
abbrev pub Tells : GrammarFaultKind → Type 0 → Type 0 → Type 0 → Type 0 → Type 0 → Type 0
Tells kind.Syntax twice unknown wrong bound full = Unit {0}
Tells kind.NameTwice twice unknown wrong bound full = twice
Tells kind.UnknownName twice unknown wrong bound full = unknown
Tells kind.WrongKind twice unknown wrong bound full = wrong
Tells kind.InputBoundTwice twice unknown wrong bound full = bound
Tells kind.TooMany twice unknown wrong bound full = full
Tells kind.Memory twice unknown wrong bound full = Unit {0}

-- of these kinds it is NameTwice or TooMany alone, each only where this holds, and TooMany only where the first doesn't
abbrev pub TellsOfName : GrammarFaultKind → Type 0 → Type 0 → Type 0
TellsOfName k twice full = Tells k twice ⊥ ⊥ ⊥ (full × (twice → ⊥))

-- of these kinds it is UnknownName, InputBoundTwice or TooMany alone, each only where this holds, and TooMany only where
-- neither of the others does
abbrev pub TellsOfSoughtName : GrammarFaultKind → Type 0 → Type 0 → Type 0 → Type 0
TellsOfSoughtName k unknown bound full = Tells k ⊥ unknown ⊥ bound (full × (unknown → ⊥) × (bound → ⊥))

-- one of these has the name, in whatever case
abbrev pub IsNameTaken : {A : Type 0} → (A → List ℕ) → List A → List ℕ → Type 0
IsNameTaken name_of xs name = Any (λ x. IsTrue (is_named name (name_of x))) xs

-- nothing in the list has this name
abbrev pub IsNew : {A : Type 0} (name_of : A → List ℕ) (xs : List A) → List ℕ → Type 0
IsNew name_of xs name = IsNameTaken name_of xs name → ⊥

-- The words are a name alone. The kind is NameTwice only where the name is taken, and TooMany only where it isn't, but
-- there are as many as there may be.
pub record IsRefused (k : GrammarFaultKind) (Taken : List ℕ → Type 0) (full : Type 0)
    (words : List Token) : Type 0 where
  pub name : List ℕ
  pub alone : words ≡ token.Name name ∷ []
  pub told : TellsOfName k (Taken name) full

-- The words are a name alone. The kind is UnknownName, InputBoundTwice or TooMany, each only where this holds, and TooMany
-- only where the name is known and not bound.
pub record IsMisused (k : GrammarFaultKind) (Unknown Bound : List ℕ → Type 0) (full : Type 0)
    (words : List Token) : Type 0 where
  pub name : List ℕ
  pub alone : words ≡ token.Name name ∷ []
  pub told : TellsOfSoughtName k (Unknown name) (Bound name) full

-- the words are a name alone, and the kind is UnknownName, since none of these has it
abbrev pub IsUnknown : {A : Type 0} → GrammarFaultKind → (A → List ℕ) → List A → List Token → Type 0
IsUnknown k name_of xs words = IsMisused k (λ n. IsNameTaken name_of xs n → ⊥) (λ n. ⊥) ⊥ words

-- a word, and behind it words of which this holds
pub record IsAfter (t : Token) (P : List Token → Type 0) (words : List Token) : Type 0 where
  pub more : List Token
  pub parts : words ≡ t ∷ more
  pub holds : P more

-- these words, and behind them words of which this holds
pub record IsAfterAll (front : List Token) (P : List Token → Type 0) (words : List Token) : Type 0 where
  pub more : List Token
  pub parts : words ≡ front ++ more
  pub holds : P more

-- a name that may stand there, and behind it words of which this holds
pub record IsAfterName (MayStand : List ℕ → Type 0) (P : List Token → Type 0) (words : List Token) : Type 0 where
  pub name : List ℕ
  pub may : MayStand name
  pub after : IsAfter (token.Name name) P words

-- the words of lawful things, whole and one after the other, and behind them words of which this holds
pub record IsAfterWhole {A : Type 0} (words_of_one : A → List Token) (AreLawful : List A → Type 0)
    (P : List A → List Token → Type 0) (words : List Token) : Type 0 where
  pub whole : List A
  pub more : List Token
  pub parts : words ≡ flat_map words_of_one whole ++ more
  pub lawful : AreLawful whole
  pub holds : P whole more

-- any name
abbrev pub IsAnyName : List ℕ → Type 0
IsAnyName name = Unit {0}

-- a name, and the comma behind it
abbrev pub name_and_comma : List ℕ → List Token
name_and_comma name = token.Name name ∷ mark_word Comma ∷ []

-- a bind, and the comma behind it
abbrev pub bind_and_comma : Bind → List Token
bind_and_comma b = bind_words b ++ mark_word Comma ∷ []

-- names of a list, which may be declared, up to the one refused, which these variables of its program have or an earlier
-- name of the list; 1,000 variables are the most
unfoldable pub RefusesVariable : GrammarFaultKind → List Declaration → List Token → Type 0
RefusesVariable k before words =
    IsAfterWhole name_and_comma (MayBeDeclared before)
    (λ names more. IsRefused k
    (λ n. IsNameTaken (λ (v : Declaration). v.name) before n ⊎ IsNameTaken (λ (m : List ℕ). m) names n)
    (1000 ≤ length before + length names) more) words

-- names, which may be declared behind these variables, a colon, and the type of a block, which the section doesn't have
pub record RefusesType (k : GrammarFaultKind) (s : Section) (before : List Declaration) (words : List Token) : Type 0 where
  pub names : List (List ℕ)
  pub block : BlockType
  pub parts : words ≡ name_words names ++ mark_word Colon ∷ token.Block block ∷ []
  pub some : 0 < length names
  pub may : MayBeDeclared before names
  pub told : Tells k ⊥ ⊥ (IsTypeLawful s (Block block) → ⊥) ⊥ ⊥

-- a list up to the name or the type refused
abbrev pub RefusesOneList : Section → List Declaration → GrammarFaultKind → List Token → Type 0
RefusesOneList s before k words = RefusesVariable k before words ⊎ RefusesType k s before words

-- lawful lists of a section, which with these variables before them declare each name once, and at most 1,000
abbrev pub AreListsLawful : Section → List Declaration → List NameList → Type 0
AreListsLawful s before lists =
    All (IsListLawful s) lists × AreVariables (before ++ flat_map (list_variables s) lists)

-- lists of a section up to the word refused, behind these variables of the program
unfoldable pub RefusesList : GrammarFaultKind → Section → List Declaration → List Token → Type 0
RefusesList k s before words =
    IsAfterWhole list_words (AreListsLawful s before)
    (λ (lists : List NameList) more. RefusesOneList s (before ++ flat_map (list_variables s) lists) k more) words

-- the words of a section, and its lists up to a word refused
unfoldable pub RefusesBlock : GrammarFaultKind → List Declaration → List Token → Type 0
RefusesBlock k before words = (s : Section) × IsAfterAll (section_words s) (RefusesList k s before) words

-- lawful blocks, which with these variables before them declare each name once, and at most 1,000
abbrev pub AreBlocksLawful : List Declaration → List VarBlock → Type 0
AreBlocksLawful before blocks =
    All IsBlockLawful blocks × AreVariables (before ++ flat_map block_variables blocks)

-- the blocks of a program up to a word refused, behind these variables of the program
unfoldable pub RefusesBlocks : GrammarFaultKind → List Declaration → List Token → Type 0
RefusesBlocks k before words =
    IsAfterWhole block_words (AreBlocksLawful before)
    (λ (blocks : List VarBlock) more. RefusesBlock k (before ++ flat_map block_variables blocks) more) words

-- the name of a program, if one of these programs has it or they are 64
abbrev pub RefusesProgramName : GrammarFaultKind → List Program → List Token → Type 0
RefusesProgramName k before words =
    IsRefused k (IsNameTaken (λ (p : Program). p.name) before) (64 ≤ length before) words

-- a program may have the name: none of these has it, and they are fewer than 64
abbrev pub MayNameProgram : List Program → List ℕ → Type 0
MayNameProgram before name = IsNew (λ (p : Program). p.name) before name × (length before < 64)

-- a program up to its own name, if these programs have it or are 64, or up to a word refused in its blocks
unfoldable pub RefusesProgram : GrammarFaultKind → List Program → List Token → Type 0
RefusesProgram k before words =
    IsAfter (key_word key.Program)
    (λ more. RefusesProgramName k before more ⊎ IsAfterName (MayNameProgram before) (RefusesBlocks k []) more) words

-- a task up to its name, if a task of these lines of its resource has it or 16 of them are tasks
unfoldable pub RefusesTask : GrammarFaultKind → List Item → List Token → Type 0
RefusesTask k before words =
    IsAfter (key_word key.Task)
    (IsRefused k (IsNameTaken (λ (t : TaskLine). t.name) (flat_map task_of before))
    (16 ≤ length (flat_map task_of before))) words

-- The input of a bind: none of these variables is an input of the name, or one of these binds has it, or the plant has
-- 4,096 binds.
abbrev pub RefusesInput : GrammarFaultKind → ℕ → List Declaration → List Bind → List Token → Type 0
RefusesInput k binds ds before words =
    IsMisused k (λ n. input_kind_of ds n ≡ None) (IsNameTaken (λ (b : Bind). b.input) before) (4096 ≤ binds) words

-- a bind up to its address, which is of another kind than the input; none of these binds has the input, and the plant has
-- fewer than 4,096
pub record RefusesAddress (k : GrammarFaultKind) (binds : ℕ) (ds : List Declaration) (before : List Bind)
    (words : List Token) : Type 0 where
  pub input : List ℕ
  pub address : Address
  pub its : Kind
  pub parts : words ≡ token.Name input ∷ mark_word Assign ∷ token.Address address ∷ []
  pub its_is : input_kind_of ds input ≡ Some its
  pub new : IsNew (λ (b : Bind). b.input) before input
  pub few : binds < 4096
  pub told : Tells k ⊥ ⊥ (kind_of_space address.space ≢ its) ⊥ ⊥

-- a bind up to the word refused, behind so many binds of the plant and these of its instance
abbrev pub RefusesOneBind : ℕ → List Declaration → List Bind → GrammarFaultKind → List Token → Type 0
RefusesOneBind binds ds before k words = RefusesInput k binds ds before words ⊎ RefusesAddress k binds ds before words

-- binds of an instance whose type has these variables: no input twice, no address of another kind than its input, and with
-- so many of the plant before them at most 4,096
pub record AreBindsLawful (binds : ℕ) (ds : List Declaration) (bs : List Bind) : Type 0 where
  pub apart : AreNamesApart (map (λ b. b.input) bs)
  pub kinds : All (IsOfInputKind ds) bs
  pub few : binds + length bs ≤ 4096

-- binds of an instance whose type has these variables, up to the word refused, behind so many binds of the plant
unfoldable pub RefusesBind : GrammarFaultKind → ℕ → List Declaration → List Token → Type 0
RefusesBind k binds ds words =
    IsAfterWhole bind_and_comma (AreBindsLawful binds ds)
    (λ (before : List Bind) more. RefusesOneBind (binds + length before) ds before k more) words

-- the name of one of these programs, and behind it words of which this holds of the first of that name
pub record IsAfterType (programs : List Program) (P : Program → List Token → Type 0) (words : List Token) : Type 0 where
  pub name : List ℕ
  pub type : Program
  pub known : find (λ (p : Program). is_named name p.name) programs ≡ Some type
  pub after : IsAfter (token.Name name) (P type) words

-- behind the colon of a program instance: its type, which is none of these programs, or its binds up to a word refused
unfoldable pub RefusesTyped : GrammarFaultKind → ℕ → List Program → List Token → Type 0
RefusesTyped k binds programs words =
    IsUnknown k (λ (p : Program). p.name) programs words
    ⊎ IsAfterType programs (λ p more. IsAfter (mark_word Open) (RefusesBind k binds (variables p)) more) words

-- one of these lines is a task of the name
abbrev pub NamesTask : List Item → List ℕ → Type 0
NamesTask before name = IsNameTaken (λ (t : TaskLine). t.name) (flat_map task_of before) name

-- Behind the name of a program instance: WITH and its task, which is none of these lines, or a task that is one of them, a
-- colon, and its type or its binds up to a word refused.
unfoldable pub RefusesBinds : GrammarFaultKind → ℕ → List Program → List Item → List Token → Type 0
RefusesBinds k binds programs before words =
    IsAfter (key_word key.With)
    (λ more. IsUnknown k (λ (t : TaskLine). t.name) (flat_map task_of before) more
    ⊎ IsAfterName (NamesTask before) (IsAfter (mark_word Colon) (RefusesTyped k binds programs)) more) words

-- the name of a program instance, if an instance of these lines of its resource has it or the plant has 64
abbrev pub RefusesInstanceName : GrammarFaultKind → ℕ → List Item → List Token → Type 0
RefusesInstanceName k instances before words =
    IsRefused k (IsNameTaken (λ (u : Use). u.instance) (flat_map use_of before)) (64 ≤ instances) words

-- an instance may have the name: none of these lines of its resource is an instance of it, and the plant has fewer than 64
abbrev pub MayNameInstance : ℕ → List Item → List ℕ → Type 0
MayNameInstance instances before name =
    IsNew (λ (u : Use). u.instance) (flat_map use_of before) name × (instances < 64)

-- A program instance of one of these programs, behind so many instances and binds of the plant and these lines of its
-- resource: up to its name, if an instance of these lines has it or the plant has 64, or up to a word behind it.
unfoldable pub RefusesInstance : GrammarFaultKind → ℕ → ℕ → List Program → List Item → List Token → Type 0
RefusesInstance k instances binds programs before words =
    IsAfter (key_word key.Program)
    (λ more. RefusesInstanceName k instances before more
    ⊎ IsAfterName (MayNameInstance instances before) (RefusesBinds k binds programs before) more) words

-- lawful lines of a resource, in a plant of these programs, whose instances and binds may be counted behind so many
abbrev pub AreItemsLawfulBehind : ℕ → ℕ → List Program → List Item → Type 0
AreItemsLawfulBehind instances binds programs items =
    AreItemsLawful (programs_alone programs) items × MayBeCounted instances binds (flat_map use_of items)

-- the lines of a resource up to a word refused, behind so many instances and binds of the plant
unfoldable pub RefusesItems : GrammarFaultKind → ℕ → ℕ → List Program → List Token → Type 0
RefusesItems k instances binds programs words =
    IsAfterWhole item_words (AreItemsLawfulBehind instances binds programs)
    (λ (items : List Item) more. RefusesTask k items more
    ⊎ RefusesInstance k (instances + length (flat_map use_of items))
    (binds + length (flat_map binds_of (flat_map use_of items))) programs items more) words

-- the name of a resource, if one of these resources has it or they are 16
abbrev pub RefusesResourceName : GrammarFaultKind → List Resource → List Token → Type 0
RefusesResourceName k before words =
    IsRefused k (IsNameTaken (λ (r : Resource). r.name) before) (16 ≤ length before) words

-- a resource may have the name: none of these has it, and they are fewer than 16
abbrev pub MayNameResource : List Resource → List ℕ → Type 0
MayNameResource before name = IsNew (λ (r : Resource). r.name) before name × (length before < 16)

-- A resource behind so many instances and binds of the plant: up to its own name, if these resources have it or are
-- 16, or up to a word refused in one of its lines.
unfoldable pub RefusesResource : GrammarFaultKind → ℕ → ℕ → List Program → List Resource → List Token → Type 0
RefusesResource k instances binds programs before words =
    IsAfter (key_word key.Resource)
    (λ more. RefusesResourceName k before more
    ⊎ IsAfterName (MayNameResource before)
    (IsAfter (key_word key.On) (IsAfterName IsAnyName (RefusesItems k instances binds programs))) more) words

-- lawful resources, in a plant of these programs, whose instances and binds may be counted behind so many
abbrev pub AreResourcesLawfulBehind : ℕ → ℕ → List Program → List Resource → Type 0
AreResourcesLawfulBehind instances binds programs rs =
    AreResourcesLawful (programs_alone programs) rs × MayBeCounted instances binds (flat_map uses_of rs)

-- resources up to a word refused, behind so many instances and binds of the plant
unfoldable pub RefusesResources : GrammarFaultKind → ℕ → ℕ → List Program → List Token → Type 0
RefusesResources k instances binds programs words =
    IsAfterWhole resource_words (AreResourcesLawfulBehind instances binds programs)
    (λ (rs : List Resource) more. RefusesResource k (instances + length (flat_map uses_of rs))
    (binds + length (flat_map binds_of (flat_map uses_of rs))) programs rs more) words

-- behind these programs: a further one up to a word refused, or CONFIGURATION, its name, and the resources up to a word
-- refused
unfoldable pub RefusesBehind : GrammarFaultKind → List Program → List Token → Type 0
RefusesBehind k programs words =
    RefusesProgram k programs words
    ⊎ IsAfter (key_word key.Configuration) (IsAfterName IsAnyName (RefusesResources k 0 0 programs)) words
